-- What is written.
use Rattle.std.specs.Prelude.{◌≡◌, ℕ, List, ◌++◌, length, codes, nat_lt, Option, Result, Ok}
use Rattle.std.specs.Prelude.{Err, if◌then◌else◌}
use Rattle.mqb_fields.specs.Reading.{◌>>=◌}
use Rattle.mqb_outside.specs.Told.{Took}
use Rattle.mqb_svg.specs.declared.elements.Element.{Element}
use Rattle.mqb_svg.specs.Svg.{svg_of, MOST_ELEMENTS}
use Rattle.mqb_picture.specs.declared.faults.Kind.{Kind}
use Rattle.mqb_picture.specs.declared.faults.Kind.TheVariants.{TooLong, NoTranscript, Line}
use Rattle.mqb_picture.specs.declared.faults.Kind.TheVariants.{NoEnd, TooLarge}
use Rattle.mqb_picture.specs.Words.{around}
use Rattle.mqb_picture.specs.Reading.{picture_of}
use Rattle.mqb_picture.specs.Input.{LONGEST}

-- the greatest length of the text of a picture
abbrev pub LARGEST : ℕ
LARGEST = 1048576

-- the text of a picture that is not too large
unfoldable pub svg_within : List Element → Result (List ℕ) Kind
svg_within elements = if nat_lt MOST_ELEMENTS (length elements) then Err TooLarge
    else if nat_lt LARGEST (length (svg_of elements)) then Err TooLarge
    else Ok (svg_of elements)

-- the text of an input's picture, or why it has none
unfoldable pub svg_made : List ℕ → Result (List ℕ) Kind
svg_made text = picture_of text >>= λ picture. svg_within picture.elements

abbrev pub answer_to : List ℕ → Result (List ℕ) Kind
answer_to text = if nat_lt LONGEST (length text) then Err TooLong else svg_made text

-- the line that tells why an input has no picture
abbrev pub fault_text : Kind → List ℕ
fault_text TooLong = codes "fault: toolong\n"
fault_text NoTranscript = codes "fault: notranscript\n"
fault_text (Line number) = around (codes "fault: line ") number (codes "\n")
fault_text NoEnd = codes "fault: noend\n"
fault_text TooLarge = codes "fault: toolarge\n"

abbrev pub read_fault_text : List ℕ
read_fault_text = codes "fault: readfault\n"

abbrev pub answer_text : Result (List ℕ) Kind → List ℕ
answer_text (Ok svg) = svg
answer_text (Err kind) = fault_text kind

-- what is written of an input
abbrev pub output_of : List ℕ → List ℕ
output_of text = answer_text (answer_to text)

-- a sink that had taken before took a front of this text, and has taken after
pub record TookFront (before after : Option (List ℕ)) (text : List ℕ) : Type 0 where
  pub written : List ℕ
  pub left : List ℕ
  pub whole : written ++ left ≡ text
  pub took : Took before after written
