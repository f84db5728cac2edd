-- Transcripts show their runs.
use Rattle.std.specs.Prelude.{◌++◌, ◌≡◌, List, ℕ}
use Rattle.mqb_runs.specs.Runs.{IsRunOf, Played}
use Rattle.mqb_runs.specs.Texts.{reply_lines}
use Rattle.mqb_script.specs.declared.events.Event.{Event}

-- Two runs of one script whose replies are written alike, whatever is written behind them, are one:
-- the same was chosen, and the same answered.
abbrev pub TranscriptsShowRuns : Type 0
TranscriptsShowRuns = (lines : List (ℕ × Event)) (r s : List Played) (x y : List ℕ)
    → IsRunOf lines r → IsRunOf lines s
    → reply_lines r ++ x ≡ reply_lines s ++ y → r ≡ s
