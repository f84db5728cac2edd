use Rattle.std.proofs.Common.{◌-◌, length}
use Rattle.mqb_capture.specs.Grammar.{Head}
use Rattle.mqb_inspect.specs.Standing.{IsWanting}
use Rattle.mqb_inspect.proofs.Ending.{IsUpTo}
use Rattle.mqb_inspect.proofs.inspect.judge.Given as goal

abbrev pub invariant-loop-piece : goal.invariant-loop-piece
invariant-loop-piece l = record {
  up_to : (h : Head) × IsUpTo l.bytes h l.cursor l.inspection;
  wants : IsWanting l.inspection;
}

abbrev pub decreases-loop-piece : goal.decreases-loop-piece
decreases-loop-piece l = length l.bytes - l.cursor.at
