use Rattle.std.proofs.Common.{ap}
use Rattle.mqb_base.specs.Rooms.{Room, WithRooms}
use Rattle.mqb_tables.specs.Rooms.{MemberRooms}
use Rattle.mqb_tables.specs.Seen.{lists_of, rooms_of}
use Rattle.mqb_plain.specs.Plain.{PlainLists, PlainRooms, sent}
use Rattle.mqb_tables.proofs.Lens.{changed}
use Rattle.mqb_tables.proofs.plain_outs.PlainOuts.mark_sent.Goals as goal

pub returns : goal.returns
returns c =
    changed lists_of rooms_of c.self.inside.peers c.args.self.now c.self.view_is c.args.peer c.get_mut.result.now c.get_mut.ensures.value c.mark_sent.new.self (sent c.args.head.now) (ap lists_of c.mark_sent.ensures) (ap rooms_of c.mark_sent.ensures)
