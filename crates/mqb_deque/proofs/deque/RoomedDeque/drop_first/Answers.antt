use Rattle.mqb_deque.proofs.Behind.{one_more_left}
use Rattle.mqb_deque.proofs.deque.RoomedDeque.drop_first.Goals as goal

pub loop-k-preserved : goal.loop-k-preserved
loop-k-preserved g c = one_more_left c.args.self.now c.loop-k.self c.remove.new.self c.loop-k._k c.loop-k.invariant c.remove.ensures.rest
