use Rattle.std.proofs.Common.{arith, subst}
use Rattle.mqb_base.specs.Rooms.{WithRooms}
use Rattle.mqb_tables.specs.mqb_model.state.State.{State}
use Rattle.mqb_contents.specs.Rooms.{IsGrown, StateRooms}
use Rattle.mqb_contents.proofs.Grown.{members_refl, places_refl}
use Rattle.mqb_contents.proofs.contents.Contents.make_room.Goals as goal

pub returns-in-InsertPlain-clause-grown : goal.returns-in-InsertPlain-clause-grown
returns-in-InsertPlain-clause-grown c =
    let i = c.self.inside in
    subst (λ (w : WithRooms State StateRooms). IsGrown w.rooms (record {
      places = i.queues.rooms;
      peers = i.peers.room;
      plain = c.make_room_in.new.self.rooms;
      outs = i.outs.rooms.members;
      in_use = i.outs.rooms.keys;
      ins = i.ins.rooms.more;
      sources = i.ins.rooms.keys;
    })) c.self.view_is (record {
      places = places_refl i.queues.rooms;
      peers = omega arith;
      plain = c.make_room_in.ensures.grown;
      outs = members_refl (λ n. n) i.outs.rooms.members;
      in_use = λ key h. h;
      ins = omega arith;
      sources = λ key h. h;
    })
