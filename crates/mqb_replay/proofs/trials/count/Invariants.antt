use Rattle.std.proofs.Common.{◌≡◌, ◌≤◌, take}
use Rattle.std.specs.Prelude.{count_by}
use Rattle.mqb_replay.specs.Trials.{is_counted}
use Rattle.mqb_replay.proofs.trials.count.Given as goal

abbrev pub invariant-loop-line : goal.invariant-loop-line
invariant-loop-line l =
    record {
      counted : l.count ≡ count_by (is_counted l.tally) (take l.line-index l.ledger);
      bound : l.count ≤ l.line-index;
    }
