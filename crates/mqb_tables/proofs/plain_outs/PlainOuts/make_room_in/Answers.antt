use Rattle.std.proofs.Common.{length}
use Rattle.mqb_model.proofs.mqb_queue.Changed.{on_ok}
use Rattle.mqb_plain.specs.Plain.{outgoing_in, room_in}
use Rattle.mqb_tables.specs.Seen.{lists_of, rooms_of}
use Rattle.mqb_tables.proofs.Lens.{grown, left, stays}
use Rattle.mqb_tables.proofs.plain_outs.PlainOuts.make_room_in.Goals as goal

pub returns-clause-lists : goal.returns-clause-lists
returns-clause-lists c = stays lists_of rooms_of c.self.inside.peers c.args.self.now c.self.view_is c.args.peer c.get_mut.result.now c.get_mut.ensures.value c.make_room_in.new.plain c.make_room_in.ensures.lists

pub returns-clause-grown : goal.returns-clause-grown
returns-clause-grown c = λ kind. grown lists_of rooms_of c.self.inside.peers c.args.self.now c.self.view_is c.args.peer c.get_mut.result.now c.get_mut.ensures.value c.make_room_in.new.plain (room_in kind) (c.make_room_in.ensures.grows kind)

pub returns-clause-ok : goal.returns-clause-ok
returns-clause-ok c =
    on_ok c.make_room_in.result c.make_room_in.ensures.ok (left lists_of rooms_of c.self.inside.peers c.args.self.now c.self.view_is c.args.peer c.get_mut.result.now c.get_mut.ensures.value c.make_room_in.new.plain (λ p. length (outgoing_in c.args.lane p)) (room_in c.args.lane))
