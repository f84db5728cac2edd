use Rattle.mqb_state.proofs.Leading.{read_leaves}
use Rattle.mqb_state.proofs.state.State.leaves_valid.Goals as goal

pub returns : goal.returns
returns c = read_leaves c.applied_is_valid.ensures c.args.self.now.lists c.args.entry.now c.is_valid.ensures c.entry_is_read.ensures
