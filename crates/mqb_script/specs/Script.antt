-- The events of a script.
use Rattle.std.specs.Prelude.{ℕ, ◌+◌, ◌==◌, List, [], ◌∷◌, Result, Ok, Err, if◌then◌else◌}
use Rattle.std.specs.List.{slice_split}
use Rattle.mqb_fields.specs.Reading.{◌>>=◌}
use Rattle.mqb_forms.specs.declared.faults.LineKind.{LineKind}
use Rattle.mqb_script.specs.declared.grammar.Grammar.{Grammar}
use Rattle.mqb_script.specs.declared.grammar.Grammar.TheVariants.{Pair}
use Rattle.mqb_script.specs.declared.events.Event.{Event}
use Rattle.mqb_script.specs.Lines.{is_skipped, event_of}

-- the lines of a text: its parts between line feeds
abbrev pub lines_of : List ℕ → List (List ℕ)
lines_of text = slice_split (λ b. b == 10) text

-- the event of line n, or the line and what is wrong with it
abbrev pub numbered : {T : Type 0} → ℕ → Result T LineKind → Result T (ℕ × LineKind)
numbered n (Ok event) = Ok event
numbered n (Err kind) = Err (n, kind)

-- the events of lines, numbered from n, or the first line that fails and what is wrong with it
abbrev pub script_from : Grammar → ℕ → List (List ℕ) → Result (List (ℕ × Event)) (ℕ × LineKind)
script_from grammar n [] = Ok []
script_from grammar n (line ∷ lines) = if is_skipped line then script_from grammar (n + 1) lines
    else (numbered n (event_of grammar line) >>= λ event.
    script_from grammar (n + 1) lines >>= λ events. Ok ((n, event) ∷ events))

-- the script of a pair
abbrev pub script_of : List ℕ → Result (List (ℕ × Event)) (ℕ × LineKind)
script_of text = script_from Pair 1 (lines_of text)
