use Rattle.std.proofs.Common.{List, map, sym, ap, ◌∙◌}
use Rattle.mqb_tables.specs.Ends.{last_of, without_last}
use Rattle.mqb_base.specs.Rooms.{Room, WithRooms}
use Rattle.mqb_tables.specs.Rooms.{MemberRooms}
use Rattle.mqb_tables.specs.Seen.{lists_of, rooms_of}
use Rattle.mqb_plain.specs.Plain.{PlainLists, PlainRooms}
use Rattle.mqb_tables.proofs.Members.{seen_last, seen_without_last}
use Rattle.mqb_tables.proofs.plain_outs.PlainOuts.pop.Goals as goal

pub returns-clause-last_rooms : goal.returns-clause-last_rooms
returns-clause-last_rooms c =
    ap (λ (w : WithRooms (List PlainLists) (MemberRooms PlainRooms)). last_of w.rooms.each) (sym c.self.view_is)
    ∙ seen_last rooms_of c.self.inside.peers.items c.pop.result c.pop.ensures.popped

pub returns-clause-lists : goal.returns-clause-lists
returns-clause-lists c =
    ap (λ (r : Room (WithRooms PlainLists PlainRooms)). map lists_of r.items) c.pop.ensures.rest
    ∙ (seen_without_last lists_of c.self.inside.peers.items ∙ ap (λ (w : WithRooms (List PlainLists) (MemberRooms PlainRooms)). without_last w.lists) c.self.view_is)

pub returns-clause-rooms : goal.returns-clause-rooms
returns-clause-rooms c =
    ap (λ (r : Room (WithRooms PlainLists PlainRooms)). record { each = map rooms_of r.items; more = r.room }) c.pop.ensures.rest
    ∙ (ap (λ (l : List PlainRooms). record { each = l; more = c.self.inside.peers.room }) (seen_without_last rooms_of c.self.inside.peers.items)
    ∙ ap (λ (w : WithRooms (List PlainLists) (MemberRooms PlainRooms)). record { each = without_last w.rooms.each; more = w.rooms.more }) c.self.view_is)
