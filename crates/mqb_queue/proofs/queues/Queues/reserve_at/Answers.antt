use Rattle.mqb_queue.specs.Lists.{room_for}
use Rattle.mqb_queue.proofs.Changed.{on_ok, on_err, only_rooms, restored}
use Rattle.mqb_queue.proofs.queues.Queues.reserve_at.Goals as goal

pub returns-clause-ok : goal.returns-clause-ok
returns-clause-ok c =
    on_ok c.reserve.result c.reserve.ensures.ok
    (only_rooms c.args.self.now c.args.at c.lists_mut.result.now c.reserve.new.self c.lists_mut.ensures.lists c.lists_mut.ensures.rooms
    (room_for c.args.durable c.args.express))

pub returns-clause-refused : goal.returns-clause-refused
returns-clause-refused c =
    on_err c.reserve.result c.reserve.ensures.refused
    (restored c.args.self.now c.args.at c.lists_mut.result.now c.reserve.new.self c.lists_mut.ensures.lists c.lists_mut.ensures.rooms)
