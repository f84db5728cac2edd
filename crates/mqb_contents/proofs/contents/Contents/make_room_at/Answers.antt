use Rattle.std.proofs.Common.{◌≡◌, ◌+◌, ◌<◌, length, max, sym, subst, arith}
use Rattle.std.specs.Option.{IsSome}
use Rattle.mqb_base.specs.Rooms.{WithRooms}
use Rattle.mqb_base.specs.declared.message.Lane.{Lane}
use Rattle.mqb_base.specs.declared.queues.EntryPlace.{EntryPlace}
use Rattle.mqb_tables.specs.mqb_model.state.State.{State}
use Rattle.mqb_plain.specs.Plain.{room_in}
use Rattle.mqb_queue.proofs.Changed.{on_ok}
use Rattle.mqb_queue.specs.Lists as lists
use Rattle.mqb_queue.specs.Lists.{messages_in, room_for}
use Rattle.mqb_queue.specs.Places.{lists_at}
use Rattle.mqb_contents.specs.Rooms.{IsGrown, StateRooms}
use Rattle.mqb_contents.proofs.Grown.{members_refl}
use Rattle.mqb_contents.proofs.Reserved.{place_grown, place_left, place_of}
use Rattle.mqb_contents.proofs.contents.Contents.make_room_at.Goals as goal

there : (v w : WithRooms State StateRooms) (at : EntryPlace) → v ≡ w → IsSome (lists_at w.lists.places at) → IsSome (lists_at v.lists.places at)
there v w at view h = subst (λ (x : WithRooms State StateRooms). IsSome (lists_at x.lists.places at)) (sym view) h

pub returns-in-Durable-clause-grown : goal.returns-in-Durable-clause-grown
returns-in-Durable-clause-grown c =
    let i = c.self.inside in
    let p = place_of i.queues c.count-queues.ensures.rooms c.args.at (there _ c.args.self.now c.args.at c.self.view_is c.requires) in
    subst (λ (w : WithRooms State StateRooms). IsGrown w.rooms (record {
      places = c.reserve_at.new.self.rooms;
      peers = i.peers.room;
      plain = i.plain.rooms;
      outs = i.outs.rooms.members;
      in_use = i.outs.rooms.keys;
      ins = i.ins.rooms.more;
      sources = i.ins.rooms.keys;
    })) c.self.view_is (record {
      places = place_grown i.queues c.args.at p.0 p.1 p.2 p.3 1 0 c.reserve_at.new.self c.reserve_at.result c.reserve_at.ensures.ok c.reserve_at.ensures.refused;
      peers = omega arith;
      plain = λ kind. members_refl (room_in kind) i.plain.rooms;
      outs = members_refl (λ n. n) i.outs.rooms.members;
      in_use = λ key h. h;
      ins = omega arith;
      sources = λ key h. h;
    })

pub returns-in-Durable-clause-ok : goal.returns-in-Durable-clause-ok
returns-in-Durable-clause-ok c =
    let i = c.self.inside in
    let p = place_of i.queues c.count-queues.ensures.rooms c.args.at (there _ c.args.self.now c.args.at c.self.view_is c.requires) in
    let fits : length p.0.durable < max p.1.durable (length p.0.durable + 1) = omega arith in
    on_ok c.reserve_at.result c.reserve_at.ensures.ok (place_left i.queues c.args.at p.0 p.1 p.2 p.3 1 0 c.reserve_at.new.self c.args.lane
    (subst (λ (kind : Lane). length (messages_in kind p.0) < lists.room_in kind (room_for 1 0 p.0 p.1)) (sym c.in-Durable.is) fits))

pub returns-in-Express-clause-grown : goal.returns-in-Express-clause-grown
returns-in-Express-clause-grown c =
    let i = c.self.inside in
    let p = place_of i.queues c.count-queues.ensures.rooms c.args.at (there _ c.args.self.now c.args.at c.self.view_is c.requires) in
    subst (λ (w : WithRooms State StateRooms). IsGrown w.rooms (record {
      places = c.reserve_at-in-Express.new.self.rooms;
      peers = i.peers.room;
      plain = i.plain.rooms;
      outs = i.outs.rooms.members;
      in_use = i.outs.rooms.keys;
      ins = i.ins.rooms.more;
      sources = i.ins.rooms.keys;
    })) c.self.view_is (record {
      places = place_grown i.queues c.args.at p.0 p.1 p.2 p.3 0 1 c.reserve_at-in-Express.new.self c.reserve_at-in-Express.result c.reserve_at-in-Express.ensures.ok c.reserve_at-in-Express.ensures.refused;
      peers = omega arith;
      plain = λ kind. members_refl (room_in kind) i.plain.rooms;
      outs = members_refl (λ n. n) i.outs.rooms.members;
      in_use = λ key h. h;
      ins = omega arith;
      sources = λ key h. h;
    })

pub returns-in-Express-clause-ok : goal.returns-in-Express-clause-ok
returns-in-Express-clause-ok c =
    let i = c.self.inside in
    let p = place_of i.queues c.count-queues.ensures.rooms c.args.at (there _ c.args.self.now c.args.at c.self.view_is c.requires) in
    let fits : length p.0.express < max p.1.express (length p.0.express + 1) = omega arith in
    on_ok c.reserve_at-in-Express.result c.reserve_at-in-Express.ensures.ok (place_left i.queues c.args.at p.0 p.1 p.2 p.3 0 1 c.reserve_at-in-Express.new.self c.args.lane
    (subst (λ (kind : Lane). length (messages_in kind p.0) < lists.room_in kind (room_for 0 1 p.0 p.1)) (sym c.in-Express.is) fits))
