use Rattle.std.proofs.Common.{Some, subst, sym, ◌<◌, ◌≡◌, ◌∙◌, length}
use Rattle.std.specs.Option.{IfSome}
use Rattle.std.specs.Prelude.{IsSomeAnd, option_map}
use Rattle.mqb_queue.specs.Lists.{Lists}
use Rattle.mqb_queue.specs.Places.{Places, numbered}
use Rattle.mqb_trying.specs.Takes.{durable}
use Rattle.mqb_trying.proofs.Firsts.{first_is, first_within}
use Rattle.mqb_trying.proofs.takes.first_index.Goals as goal

pub returns-in-Some-clause-index : goal.returns-in-Some-clause-index
returns-in-Some-clause-index c =
    let ms = c.args.messages.now in
    let q = numbered c.queues.result.now.lists.queues c.args.queue in
    let is : Some ms ≡ option_map durable q = subst (λ (p : Places). Some ms ≡ option_map durable (numbered p.queues c.args.queue)) (sym c.queues.ensures.places) c.requires in
    sym c.in-Some.is ∙ (c.first_durable.ensures.index ∙ sym (first_is c.args.queue c.args.now ms q is))

pub returns-in-Some-clause-within : goal.returns-in-Some-clause-within
returns-in-Some-clause-within c =
    let ms = c.args.messages.now in
    let q = numbered c.queues.result.now.lists.queues c.args.queue in
    let is : Some ms ≡ option_map durable q = subst (λ (p : Places). Some ms ≡ option_map durable (numbered p.queues c.args.queue)) (sym c.queues.ensures.places) c.requires in
    first_within c.in-Some.index ms q is
    (subst (λ o. IfSome o (λ k. IsSomeAnd (option_map (λ q. q.lists) q) (λ (l : Lists). k < length l.durable))) c.in-Some.is c.first_durable.ensures.within)

pub returns-in-None-clause-index : goal.returns-in-None-clause-index
returns-in-None-clause-index c =
    let ms = c.args.messages.now in
    let q = numbered c.queues.result.now.lists.queues c.args.queue in
    let is : Some ms ≡ option_map durable q = subst (λ (p : Places). Some ms ≡ option_map durable (numbered p.queues c.args.queue)) (sym c.queues.ensures.places) c.requires in
    sym c.in-None.is ∙ (c.first_durable.ensures.index ∙ sym (first_is c.args.queue c.args.now ms q is))
