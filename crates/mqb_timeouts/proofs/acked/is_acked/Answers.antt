use Rattle.mqb_timeouts.proofs.Dropped.{same_lists}
use Rattle.mqb_timeouts.proofs.acked.is_acked.Goals as goal

pub returns-then-peer-peers-clause-none : goal.returns-then-peer-peers-clause-none
returns-then-peer-peers-clause-none c above =
    same_lists c.args.number c.args.contents.now.lists c.args.peer c.plain.result.now.lists c.plain.ensures (c.is_first_acked.ensures.none above)
