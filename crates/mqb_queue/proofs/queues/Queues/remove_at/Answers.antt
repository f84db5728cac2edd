use Rattle.std.proofs.Common.{◌<◌, ◌≤◌, Option, length, sym, subst}
use Rattle.std.specs.Option.{IsSomeAnd}
use Rattle.mqb_queue.specs.Lists.{Lists, messages_in, without}
use Rattle.mqb_queue.specs.Lending.{with_place}
use Rattle.mqb_queue.proofs.Changed.{only_lists, spare_there, given_lists, given_rooms}
use Rattle.mqb_queue.proofs.queues.Queues.remove_at.Goals as goal

pub returns-clause-rest : goal.returns-clause-rest
returns-clause-rest c =
    only_lists c.args.self.now c.args.at c.lists_mut.result.now c.remove.new.self c.lists_mut.ensures.lists c.lists_mut.ensures.rooms
    (without c.args.lane c.args.k) c.remove.ensures.rest

pub returns-clause-room : goal.returns-clause-room
returns-clause-room c =
    let s = c.args.self.now in
    let l = c.lists_mut.result.now in
    let m = c.remove.new.self in
    subst (λ n. 0 < n)
    (sym (spare_there (with_place s c.args.at m) c.args.at m m
    (given_lists s c.args.at l m c.lists_mut.ensures.lists c.lists_mut.ensures.rooms)
    (given_rooms s c.args.at l m c.lists_mut.ensures.lists c.lists_mut.ensures.rooms) c.args.lane))
    c.remove.ensures.room

pub returns-clause-place : goal.returns-clause-place
returns-clause-place c =
    subst (λ (o : Option Lists). IsSomeAnd o (λ l. c.args.k ≤ length (messages_in c.args.lane l)))
    (sym (given_lists c.args.self.now c.args.at c.lists_mut.result.now c.remove.new.self c.lists_mut.ensures.lists c.lists_mut.ensures.rooms))
    c.remove.ensures.place
