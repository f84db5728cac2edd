-- The picture of an input.
use Rattle.std.specs.Prelude.{◌≡◌, ℕ, Bool, true, false, ◌+◌, ◌==◌, ◌||◌, List, [], ◌∷◌, codes}
use Rattle.std.specs.Prelude.{Option, Some, None, Result, Ok, Err, if◌then◌else◌, take, drop}
use Rattle.std.specs.List.{position, starts_with}
use Rattle.mqb_base.specs.Same.{same_bytes}
use Rattle.mqb_svg.specs.declared.elements.Element.TheVariants.{End}
use Rattle.mqb_picture.specs.declared.faults.Kind.{Kind}
use Rattle.mqb_picture.specs.declared.faults.Kind.TheVariants.{NoTranscript, NoEnd}
use Rattle.mqb_picture.specs.Words.{lines_of}
use Rattle.mqb_fields.specs.Reading.{◌>>=◌}
use Rattle.mqb_picture.specs.declared.faults.Fault.{Fault}
use Rattle.mqb_picture.specs.Faults.{IsFaultOf}
use Rattle.mqb_picture.specs.Texts.{clipped}
use Rattle.mqb_picture.specs.Elements.{Progress, add}
use Rattle.mqb_picture.specs.Picture.{drawn}

-- an empty line and a comment have no reply
abbrev pub is_skipped : List ℕ → Bool
is_skipped [] = true
is_skipped (b ∷ bs) = b == 0x23

-- the line of a replay that was given up
unfoldable pub is_fault : List ℕ → Bool
is_fault reply = starts_with ◌==◌ reply (codes "fault: ")

-- whether the rest of a transcript begins with it
abbrev pub is_given_up : List (List ℕ) → Bool
is_given_up [] = false
is_given_up (reply ∷ replies) = is_fault reply

-- Behind the replies stands `end`, of which the rest is not looked at, or the line of a
-- replay that was given up.
unfoldable pub ended : List (List ℕ) → Progress → Result Progress Kind
ended [] p = Err NoEnd
ended (reply ∷ replies) p = if same_bytes reply (codes "end") then Ok p
    else if is_fault reply then Ok (add (End (clipped reply)) p)
    else Err NoEnd

-- Line n with the first of the replies.
abbrev pub drawn_first : ℕ → List ℕ → List (List ℕ) → Progress
    → (List (List ℕ) → Progress → Result Progress Kind) → Result Progress Kind
drawn_first n line [] p next = Err NoEnd
drawn_first n line (reply ∷ replies) p next = drawn n line reply p >>= next replies

-- The lines of a script behind line n, and the replies to them. Lines behind the one at which a
-- replay was given up have none.
abbrev pub drawn_from : ℕ → List (List ℕ) → List (List ℕ) → Progress → Result Progress Kind
drawn_from n [] replies p = ended replies p
drawn_from n (line ∷ lines) replies p =
    if is_skipped line || is_given_up replies then drawn_from (n + 1) lines replies p
    else drawn_first (n + 1) line replies p (drawn_from (n + 1) lines)

abbrev pub blank : Progress
blank = record { packets = []; elements = [] }

-- the script stands before the first line `transcript`, and the replies behind it
abbrev pub split_from : List (List ℕ) → Option ℕ → Result Progress Kind
split_from lines None = Err NoTranscript
split_from lines (Some at) = drawn_from 0 (take at lines) (drop (at + 1) lines) blank

unfoldable pub picture_of : List ℕ → Result Progress Kind
picture_of text = split_from (lines_of text)
    (position (λ line. same_bytes line (codes "transcript")) (lines_of text))

-- Behind line n, of which these are the replies, the picture goes on with the rest of them.
abbrev pub TurnsTo : ℕ → List ℕ → List (List ℕ) → Progress → List (List ℕ) → Progress → Type 0
TurnsTo n line replies p rest q =
    (i : ℕ) (lines : List (List ℕ)) → n ≡ i + 1
    → drawn_from i (line ∷ lines) replies p ≡ drawn_from n lines rest q

-- The picture has this fault in line n, whatever follows.
abbrev pub Stops : ℕ → List ℕ → List (List ℕ) → Progress → Fault → Type 0
Stops n line replies p fault = (i : ℕ) (lines : List (List ℕ)) → n ≡ i + 1
    → IsFaultOf (drawn_from i (line ∷ lines) replies p) fault
