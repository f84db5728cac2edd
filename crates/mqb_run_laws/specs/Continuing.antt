-- Runs go on.
use Rattle.std.specs.Prelude.{◌++◌, List, ℕ}
use Rattle.std.specs.List.{AllByRecursion}
use Rattle.mqb_runs.specs.Runs.{IsRunOf, Played}
use Rattle.mqb_script.specs.Formed.{IsFormed}
use Rattle.mqb_script.specs.declared.grammar.Grammar.TheVariants.{Pair}
use Rattle.mqb_script.specs.declared.events.Event.{Event}

-- A run of all these lines that begins with this one.
pub record Continues (lines : List (ℕ × Event)) (run : List Played) : Type 0 where
  pub more : List Played
  pub whole : IsRunOf lines (run ++ more)

-- Behind each run of the first lines there is one of them all, where the others are
-- of the two managers.
abbrev pub RunsContinue : Type 0
RunsContinue = (first rest : List (ℕ × Event)) (run : List Played)
    → AllByRecursion (λ line. IsFormed Pair line.1) rest → IsRunOf first run
    → Continues (first ++ rest) run
