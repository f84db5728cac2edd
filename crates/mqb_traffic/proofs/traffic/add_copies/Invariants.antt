use Rattle.std.proofs.Common.{◌≡◌, ◌++◌, take}
use Rattle.mqb_traffic.proofs.traffic.add_copies.Given as goal

abbrev pub invariant-loop-line : goal.invariant-loop-line
invariant-loop-line l = l.ledger.items ≡ l.initial.ledger.items ++ take l.line-index l.lines
