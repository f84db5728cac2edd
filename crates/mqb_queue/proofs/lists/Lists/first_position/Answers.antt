use Rattle.std.proofs.Common.{◌≡◌, ◌<◌, ℕ, length, Option, Some, sym, ap, ◌∙◌, subst}
use Rattle.std.specs.Option.{IfSome}
use Rattle.mqb_base.specs.Rooms.{WithRooms}
use Rattle.mqb_queue.specs.declared.first.Position.{Position}
use Rattle.mqb_queue.specs.First.{first_position, is_wanted}
use Rattle.mqb_queue.specs.Lists.{Lists, ListRooms}
use Rattle.mqb_queue.proofs.Lanes.{IsLower, no_position, latter_position, former_position, lower_position, no_lower_position}
use Rattle.mqb_queue.proofs.lists.Lists.first_position.Goals as goal

pub returns-then-is_lower-clause-first : goal.returns-then-is_lower-clause-first
returns-then-is_lower-clause-first c =
    let k = c.args.choice.now in
    let free = is_wanted k.at k.moment k.id in
    let l : Lists = record { durable = c.self.inside.durable.items; express = c.self.inside.express.items } in
    ap (λ (p : Position). Some p) c.position.ensures
    ∙ sym (lower_position free l c.in-Some-Some.former c.in-Some-Some.latter c.is_lower.result
    (sym c.first_index-durable.ensures.first ∙ c.in-Some-Some.is-0) (sym c.first_index-express.ensures.first ∙ c.in-Some-Some.is-1)
    (subst (λ (w : WithRooms Lists ListRooms). IsLower w.lists c.in-Some-Some.former c.in-Some-Some.latter c.is_lower.result) (sym c.self.view_is) c.is_lower.ensures)
    c.if-is_lower.true)
    ∙ ap (λ (w : WithRooms Lists ListRooms). first_position free w.lists) c.self.view_is

pub returns-else-is_lower-clause-first : goal.returns-else-is_lower-clause-first
returns-else-is_lower-clause-first c =
    let k = c.args.choice.now in
    let free = is_wanted k.at k.moment k.id in
    let l : Lists = record { durable = c.self.inside.durable.items; express = c.self.inside.express.items } in
    ap (λ (p : Position). Some p) c.position-else-is_lower.ensures
    ∙ sym (no_lower_position free l c.in-Some-Some.former c.in-Some-Some.latter c.is_lower.result
    (sym c.first_index-durable.ensures.first ∙ c.in-Some-Some.is-0) (sym c.first_index-express.ensures.first ∙ c.in-Some-Some.is-1)
    (subst (λ (w : WithRooms Lists ListRooms). IsLower w.lists c.in-Some-Some.former c.in-Some-Some.latter c.is_lower.result) (sym c.self.view_is) c.is_lower.ensures)
    c.if-is_lower.false
    (subst (λ (o : Option ℕ). IfSome o (λ j. j < length l.durable)) c.in-Some-Some.is-0 c.first_index-durable.ensures.within))
    ∙ ap (λ (w : WithRooms Lists ListRooms). first_position free w.lists) c.self.view_is

pub returns-in-Some-None-clause-first : goal.returns-in-Some-None-clause-first
returns-in-Some-None-clause-first c =
    let k = c.args.choice.now in
    let free = is_wanted k.at k.moment k.id in
    let l : Lists = record { durable = c.self.inside.durable.items; express = c.self.inside.express.items } in
    ap (λ (p : Position). Some p) c.position-in-Some-None.ensures
    ∙ sym (former_position free l c.in-Some-None.former
    (sym c.first_index-durable.ensures.first ∙ c.in-Some-None.is-0) (sym c.first_index-express.ensures.first ∙ c.in-Some-None.is-1)
    (subst (λ (o : Option ℕ). IfSome o (λ j. j < length l.durable)) c.in-Some-None.is-0 c.first_index-durable.ensures.within))
    ∙ ap (λ (w : WithRooms Lists ListRooms). first_position free w.lists) c.self.view_is

pub returns-in-None-Some-clause-first : goal.returns-in-None-Some-clause-first
returns-in-None-Some-clause-first c =
    let k = c.args.choice.now in
    let free = is_wanted k.at k.moment k.id in
    let l : Lists = record { durable = c.self.inside.durable.items; express = c.self.inside.express.items } in
    ap (λ (p : Position). Some p) c.position-in-None-Some.ensures
    ∙ sym (latter_position free l c.in-None-Some.latter
    (sym c.first_index-durable.ensures.first ∙ c.in-None-Some.is-0) (sym c.first_index-express.ensures.first ∙ c.in-None-Some.is-1))
    ∙ ap (λ (w : WithRooms Lists ListRooms). first_position free w.lists) c.self.view_is

pub returns-in-None-None-clause-first : goal.returns-in-None-None-clause-first
returns-in-None-None-clause-first c =
    let k = c.args.choice.now in
    let free = is_wanted k.at k.moment k.id in
    let l : Lists = record { durable = c.self.inside.durable.items; express = c.self.inside.express.items } in
    sym (no_position free l (sym c.first_index-durable.ensures.first ∙ c.in-None-None.is-0) (sym c.first_index-express.ensures.first ∙ c.in-None-None.is-1))
    ∙ ap (λ (w : WithRooms Lists ListRooms). first_position free w.lists) c.self.view_is
