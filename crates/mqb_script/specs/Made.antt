-- What is said of a script that is made.
use Rattle.std.specs.Prelude.{◌≡◌, ◌≤◌, List, Ok, length, map, ℕ}
use Rattle.mqb_script.specs.Reading.{LONGEST, MOST_LINES, line_count}
use Rattle.mqb_script.specs.Script.{script_of}
use Rattle.mqb_script.specs.declared.events.Event.{Event}
use Rattle.mqb_transcript.specs.Generator.{generated}
use Rattle.mqb_script.specs.Orders.{events_of}

-- it is within the limits, and has these events
pub record IsMade (n : ℕ) : Type 0 where
  pub short : length (generated n) ≤ LONGEST
  pub few_lines : line_count (generated n) ≤ MOST_LINES
  pub lines : List (ℕ × Event)
  pub script : script_of (generated n) ≡ Ok lines
  pub events : map (λ line. line.1) lines ≡ events_of n

-- The script of up to 10,000 orders is.
abbrev pub MadeScriptsAreScripts : Type 0
MadeScriptsAreScripts = (n : ℕ) → 1 ≤ n → n ≤ 10000 → IsMade n
