-- A line of a script, and what is wrong with it.
use Rattle.std.specs.Prelude.{ℕ, Bool, true, ◌==◌, ◌&&◌, not, nat_le, List, [], ◌∷◌, length, Result}
use Rattle.std.specs.Prelude.{Err, if◌then◌else◌}
use Rattle.std.specs.List.{list_all, slice_split}
use Rattle.mqb_fields.specs.Reading.{◌>>=◌}
use Rattle.mqb_forms.specs.declared.faults.LineKind.{LineKind}
use Rattle.mqb_forms.specs.declared.faults.LineKind.TheVariants.{Byte, Word, Count}
use Rattle.mqb_script.specs.declared.grammar.Grammar.{Grammar}
use Rattle.mqb_script.specs.declared.forms.Form.{Form}
use Rattle.mqb_script.specs.declared.events.Event.{Event}
use Rattle.mqb_script.specs.Forms.{form_of, has_count}
use Rattle.mqb_script.specs.Grammar.{event_from}

-- the words of a line: its parts between spaces, so that two spaces stand round an empty word
abbrev pub words_of : List ℕ → List (List ℕ)
words_of line = slice_split (λ b. b == 32) line

-- an empty line and a comment are skipped
abbrev pub is_skipped : List ℕ → Bool
is_skipped [] = true
is_skipped (b ∷ bs) = b == 0x23

abbrev pub is_printable : ℕ → Bool
is_printable b = nat_le 0x20 b && nat_le b 0x7E

abbrev pub is_some_word : List ℕ → Bool
is_some_word word = not (length word == 0)

-- no word is empty, and there are as many as the form has
unfoldable pub are_counted : Grammar → Form → List (List ℕ) → Bool
are_counted grammar form words =
    list_all is_some_word words && has_count grammar form (length words)

-- a first word, its form and the words behind it
unfoldable pub event_of_words : Grammar → List (List ℕ) → Result Event LineKind
event_of_words grammar [] = Err Word
event_of_words grammar (word ∷ words) = do
  form ← form_of word
  if are_counted grammar form words then event_from grammar form words else Err Count

-- The event of a line, or what is wrong with it: a byte, or else its first word, or else the count
-- of its words, or else one of their values.
unfoldable pub event_of : Grammar → List ℕ → Result Event LineKind
event_of grammar line =
    if list_all is_printable line then event_of_words grammar (words_of line) else Err Byte
