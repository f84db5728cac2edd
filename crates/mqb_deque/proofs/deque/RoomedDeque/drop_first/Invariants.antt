use Rattle.std.proofs.Common.{◌≡◌, drop}
use Rattle.mqb_deque.proofs.deque.RoomedDeque.drop_first.Given as goal

abbrev pub invariant-loop-k : goal.invariant-loop-k
invariant-loop-k g l = l.self ≡ record l.initial.self { items = drop l._k l.initial.self.items }
