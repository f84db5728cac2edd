use Rattle.std.proofs.Common.{◌≡◌, drop}
use Rattle.mqb_trying.specs.Takes.{may_take, top_from}
use Rattle.mqb_trying.proofs.takes.top_priority.Given as goal

abbrev pub invariant-loop-index : goal.invariant-loop-index
invariant-loop-index l = record {
  left : top_from (may_take l.mark l.now) l.index l.top (drop l.index l.messages) ≡ top_from (may_take l.mark l.now) 0 0 l.messages;
}
