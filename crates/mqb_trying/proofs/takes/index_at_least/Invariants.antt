use Rattle.std.proofs.Common.{◌≡◌, drop}
use Rattle.mqb_trying.specs.Takes.{index_from, may_take}
use Rattle.mqb_trying.proofs.takes.index_at_least.Given as goal

abbrev pub invariant-loop-index : goal.invariant-loop-index
invariant-loop-index l = record {
  left : index_from (may_take l.mark l.now) l.least l.index (drop l.index l.messages) ≡ index_from (may_take l.mark l.now) l.least l.from (drop l.from l.messages);
}
