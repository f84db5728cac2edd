use Rattle.mqb_queue.proofs.Changed.{on_err, restored}
use Rattle.mqb_queue.proofs.queues.Queues.put_at.Goals as goal

pub returns-clause-refused : goal.returns-clause-refused
returns-clause-refused c =
    on_err c.put.result c.put.ensures.refused
    (restored c.args.self.now c.args.at c.lists_mut.result.now c.put.new.self c.lists_mut.ensures.lists c.lists_mut.ensures.rooms)
