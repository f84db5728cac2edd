use Rattle.std.proofs.Common.{ap}
use Rattle.mqb_base.specs.Rooms.{Room, WithRooms}
use Rattle.mqb_tables.specs.Rooms.{MemberRooms}
use Rattle.mqb_tables.specs.Seen.{lists_of, rooms_of}
use Rattle.mqb_model.specs.managers.Beside.{all_unmarked}
use Rattle.mqb_plain.specs.Plain.{PlainLists, PlainRooms}
use Rattle.mqb_tables.proofs.Lens.{changed}
use Rattle.mqb_tables.proofs.plain_outs.PlainOuts.unmark_for.Goals as goal

pub returns : goal.returns
returns c =
    changed lists_of rooms_of c.self.inside.peers c.args.self.now c.self.view_is c.args.peer c.get_mut.result.now c.get_mut.ensures.value c.restart_marks.new.self all_unmarked c.restart_marks.ensures.lists c.restart_marks.ensures.rooms
