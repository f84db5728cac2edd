use Rattle.std.proofs.Common.{arith, subst}
use Rattle.mqb_base.specs.Rooms.{WithRooms}
use Rattle.mqb_tables.specs.mqb_model.state.State.{State}
use Rattle.mqb_contents.specs.Rooms.{IsGrown, StateRooms}
use Rattle.mqb_contents.proofs.Grown.{members_refl, places_refl}
use Rattle.mqb_contents.proofs.contents.Contents.make_room_for_peer.Goals as goal

pub returns-clause-grown : goal.returns-clause-grown
returns-clause-grown c =
    let i = c.self.inside in
    subst (λ (w : WithRooms State StateRooms). IsGrown w.rooms (record {
      places = i.queues.rooms;
      peers = c.make_room.new.self.room;
      plain = c.make_room-2.new.self.rooms;
      outs = i.outs.rooms.members;
      in_use = i.outs.rooms.keys;
      ins = i.ins.rooms.more;
      sources = i.ins.rooms.keys;
    })) c.self.view_is (record {
      places = places_refl i.queues.rooms;
      peers = c.make_room.ensures.grows;
      plain = c.make_room-2.ensures.grown;
      outs = members_refl (λ n. n) i.outs.rooms.members;
      in_use = λ key h. h;
      ins = omega arith;
      sources = λ key h. h;
    })
