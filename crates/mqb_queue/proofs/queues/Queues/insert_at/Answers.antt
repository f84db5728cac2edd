use Rattle.mqb_queue.specs.Lists.{inserted}
use Rattle.mqb_queue.proofs.Changed.{only_lists}
use Rattle.mqb_queue.proofs.queues.Queues.insert_at.Goals as goal

pub returns : goal.returns
returns c =
    only_lists c.args.self.now c.args.at c.lists_mut.result.now c.insert.new.self c.lists_mut.ensures.lists c.lists_mut.ensures.rooms
    (inserted c.args.lane c.args.k c.args.message) c.insert.ensures
