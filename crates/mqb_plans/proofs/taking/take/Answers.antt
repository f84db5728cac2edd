use Rattle.std.proofs.Common.{◌<◌, Err, Result, ap, length, subst, sym, ◌∙◌}
use Rattle.std.proofs.lemmas.Result.{err_from_is_err_and}
use Rattle.std.specs.Prelude.{IfErr, IsSomeAnd, option_and_then}
use Rattle.mqb_model.specs.calls.Take.{take_message}
use Rattle.mqb_model.specs.declared.faults.TakeFault.{TakeFault}
use Rattle.mqb_plans.specs.Plans.{RefusesTake}
use Rattle.mqb_plans.specs.declared.taking.Taking.{Taking}
use Rattle.mqb_queue.specs.First.{first_position, is_free}
use Rattle.mqb_queue.specs.Lists.{messages_in}
use Rattle.mqb_queue.specs.Places.{Places, lists_at, place_named}
use Rattle.mqb_plans.proofs.Taken.{take_found}
use Rattle.mqb_plans.proofs.taking.take.Goals as goal

pub returns-in_err-message-clause-refused : goal.returns-in_err-message-clause-refused
returns-in_err-message-clause-refused c =
    let s = c.args.contents.now.lists in
    let place = c.args.place.now in
    let now = c.args.now in
    let same = c.queues-queues.ensures.places in
    let first = c.in-Some-first_position.ensures in
    let why = err_from_is_err_and c.from_residual.result c.from_residual.ensures.1 in
    subst (λ (r : Result Taking TakeFault). IfErr r (RefusesTake s (λ m. take_message m place now))) (sym (why.1 ∙ ap Err why.2))
    (take_found s place now c.in-Some.at c.in-Some-first_position.first
    (ap (λ (ps : Places). place_named ps.queues place) (sym same) ∙ sym c.in-Some.ensures)
    (ap (λ (ps : Places). option_and_then (first_position (is_free c.in-Some.at now)) (lists_at ps c.in-Some.at)) (sym same) ∙ sym first.first)
    (subst (λ (ps : Places). IsSomeAnd (lists_at ps c.in-Some.at) (λ l. c.in-Some-first_position.first.index < length (messages_in c.in-Some-first_position.first.lane l))) same first.within))
