use Rattle.std.specs.Prelude.{◌≡◌, ℕ, ◌+◌, ◌<◌, ◌≤◌, List, [], ◌∷◌, ◌++◌, length, Option, Result}
use Rattle.std.specs.Prelude.{Ok, Err, IfSome}
use Rattle.mqb_outside.specs.Told.{Gave}
use Rattle.mqb_outside.specs.Faults.{Rose}
use Rattle.mqb_forms.specs.declared.faults.LineKind.{LineKind}
use Rattle.mqb_script.specs.declared.faults.ScriptFault.{ScriptFault}
use Rattle.mqb_script.specs.declared.faults.ScriptFault.TheVariants as fault
use Rattle.mqb_script.specs.declared.grammar.Grammar.{Grammar}
use Rattle.mqb_script.specs.declared.events.Event.{Event}
use Rattle.mqb_script.specs.Script.{lines_of, script_from}

-- the greatest length of a script
abbrev pub LONGEST : ℕ
LONGEST = 16777216

-- the greatest number of a script's lines
abbrev pub MOST_LINES : ℕ
MOST_LINES = 200000

-- how many of the parts between line feeds were begun: each but a last one that is empty
abbrev pub begun : List (List ℕ) → ℕ
begun [] = 0
begun ([] ∷ []) = 0
begun (line ∷ lines) = begun lines + 1

-- the lines of a text: a line is begun by its first byte or by its line feed
abbrev pub line_count : List ℕ → ℕ
line_count text = begun (lines_of text)

-- the answer to the bytes that were taken, once they were taken to the end of the input or
-- until there were too many
abbrev pub Answers : {T : Type 0} → (List ℕ → Result T (ℕ × LineKind)) → List ℕ
    → Result T ScriptFault → Type 0
Answers script_of text (Ok script) =
    (length text ≤ LONGEST) × (line_count text ≤ MOST_LINES) × (script_of text ≡ Ok script)
Answers script_of text (Err (fault.Line number kind)) =
    (length text ≤ LONGEST) × (line_count text ≤ MOST_LINES) × (script_of text ≡ Err (number, kind))
Answers script_of text (Err fault.TooLong) = LONGEST < length text
Answers script_of text (Err fault.TooManyLines) =
    (length text ≤ LONGEST) × (MOST_LINES < line_count text)
Answers script_of text (Err fault.ReadFault) = length text ≤ LONGEST
Answers script_of text (Err fault.Memory) = length text ≤ LONGEST

-- the answers for which the input was read to its end
abbrev pub AtEnd : {T : Type 0} → Option (List ℕ) → Result T ScriptFault → Type 0
AtEnd after (Ok script) = IfSome after (λ rest. rest ≡ [])
AtEnd after (Err (fault.Line number kind)) = IfSome after (λ rest. rest ≡ [])
AtEnd after (Err fault.TooManyLines) = IfSome after (λ rest. rest ≡ [])
AtEnd after (Err _) = Unit {0}

-- A script was read from a source that held before and holds after, as this says
-- which texts are scripts.
pub record ReadsScript {T : Type 0} (script_of : List ℕ → Result T (ℕ × LineKind))
    (before after : Option (List ℕ)) (r : Result T ScriptFault) : Type 0 where
  -- what was taken
  pub text : List ℕ
  pub gave : Gave before after text
  pub answers : Answers script_of text r
  pub ended : AtEnd after r

-- No text of a script was read, whichever texts are scripts.
abbrev pub IsUnread : Option (List ℕ) → Option (List ℕ) → ScriptFault → Type 0
IsUnread before after f = (script_of : List ℕ → Result (Unit {0}) (ℕ × LineKind))
    → ReadsScript script_of before after (Err f)

-- only a fault of the source raises its count of faults
abbrev pub IsCause : ℕ → ℕ → ScriptFault → Type 0
IsCause before after fault.ReadFault = Rose before after
IsCause before after _ = after ≡ before

abbrev pub ReadCause : {T : Type 0} → ℕ → ℕ → Result T ScriptFault → Type 0
ReadCause before after (Ok script) = after ≡ before
ReadCause before after (Err f) = IsCause before after f

-- All that a source held was taken, and it is no longer than a script may be.
pub record IsWhole (before after : Option (List ℕ)) (text : List ℕ) : Type 0 where
  pub short : length text ≤ LONGEST
  pub gave : Gave before after text
  pub ended : IfSome after (λ rest. rest ≡ [])

-- a fault that is no want of memory is that of a line, and the definition's
abbrev pub IsScriptFault : {T : Type 0} → Result T (ℕ × LineKind) → ScriptFault → Type 0
IsScriptFault read (fault.Line number kind) = read ≡ Err (number, kind)
IsScriptFault read fault.Memory = Unit {0}
IsScriptFault read _ = ⊥

-- what was read in front of more
abbrev pub in_front : List (ℕ × Event) → Result (List (ℕ × Event)) (ℕ × LineKind)
    → Result (List (ℕ × Event)) (ℕ × LineKind)
in_front events (Ok more) = Ok (events ++ more)
in_front events (Err first) = Err first

-- Line n was read behind the events of the lines before it.
abbrev pub ReadsLine : Grammar → ℕ → List ℕ → List (ℕ × Event) → List (ℕ × Event) → Type 0
ReadsLine grammar n line before after =
    (rest : List (List ℕ)) → in_front before (script_from grammar n (line ∷ rest))
    ≡ in_front after (script_from grammar (n + 1) rest)
