-- The script of a ring: how many managers it has, and then the lines of its events.
use Rattle.std.specs.Prelude.{ℕ, ◌+◌, ◌≤◌, length, List, [], ◌∷◌, codes, Option, None, Some, Result}
use Rattle.std.specs.Prelude.{Ok, Err, if◌then◌else◌}
use Rattle.std.specs.List.{AllByRecursion, list_all}
use Rattle.mqb_base.specs.Same.{same_bytes}
use Rattle.mqb_fields.specs.Reading.{◌>>=◌}
use Rattle.mqb_forms.specs.declared.faults.LineKind.{LineKind}
use Rattle.mqb_forms.specs.declared.faults.LineKind.TheVariants.{Byte, Word, Count}
use Rattle.mqb_forms.specs.Words.{number_in}
use Rattle.mqb_script.specs.declared.grammar.Grammar.TheVariants.{Ring}
use Rattle.mqb_script.specs.declared.ring.RingScript.{RingScript}
use Rattle.mqb_script.specs.Hosts.{MOST_MANAGERS}
use Rattle.mqb_script.specs.Lines.{words_of, is_skipped, is_printable, is_some_word}
use Rattle.mqb_script.specs.Formed.{IsFormed}
use Rattle.mqb_script.specs.Reading.{MOST_LINES}
use Rattle.mqb_script.specs.Script.{lines_of, numbered, script_from}

-- the one word behind the first one
abbrev pub only_word : List (List ℕ) → Result (List ℕ) LineKind
only_word (word ∷ []) = if is_some_word word then Ok word else Err Count
only_word _ = Err Count

-- how many managers the words of the first line say
unfoldable pub count_from : List (List ℕ) → Result ℕ LineKind
count_from [] = Err Word
count_from (word ∷ words) = if same_bytes word (codes "managers")
    then (only_word words >>= λ count. number_in 2 MOST_MANAGERS count) else Err Word

-- or what is wrong with that line, in the order of `Lines`
unfoldable pub count_in : List ℕ → Result ℕ LineKind
count_in line = if list_all is_printable line then count_from (words_of line) else Err Byte

-- the script of lines that are numbered from n, if there is a line that is not skipped
abbrev pub ring_from : ℕ → List (List ℕ) → Result (Option RingScript) (ℕ × LineKind)
ring_from n [] = Ok None
ring_from n (line ∷ lines) = if is_skipped line then ring_from (n + 1) lines
    else (numbered n (count_in line) >>= λ count.
    script_from (Ring count) (n + 1) lines >>= λ events.
    Ok (Some (record { line = n; count = count; script = events })))

abbrev pub ring_of : List ℕ → Result (Option RingScript) (ℕ × LineKind)
ring_of text = ring_from 1 (lines_of text)

-- What it keeps: two managers to eight, and events of these, of which there are no more
-- than a script has lines.
pub record IsRing (ring : RingScript) : Type 0 where
  pub some : 2 ≤ ring.count
  pub most : ring.count ≤ MOST_MANAGERS
  pub formed : AllByRecursion (λ e. IsFormed (Ring ring.count) e.1) ring.script
  pub few : length ring.script ≤ MOST_LINES
