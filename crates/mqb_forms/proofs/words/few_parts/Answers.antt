use Rattle.std.proofs.Common.{◌≡◌, ◌<◌, ◌==◌, length, ap, map, sym, ◌∙◌, arith, rules, tests}
use Rattle.std.specs.List.{slice_split}
use Rattle.std.proofs.lemmas.List.{length-take-le}
use Rattle.std.proofs.lemmas.Iterator.Consumers.{YieldsList-at, YieldsList-end, YieldsList-turn}
use Rattle.std.proofs.lemmas.Iterator.Splits.{YieldsList-from_slice_split}
use Rattle.mqb_forms.proofs.words.few_parts.Goals as goal

pub returns-clause-parts : goal.returns-clause-parts
returns-clause-parts c =
    let end = YieldsList-end
    (YieldsList-at c.into_iter-part-iterator.ensures.into_iter_gives
    (YieldsList-from_slice_split _ _ c.args.text.now c.split-part-items.ensures.rest c.split-part-items.ensures.done c.split-part-items.ensures.closure
    (λ x r q k. search (rules, tests))))
    c.loop-part.yielded _ c.loop-part.yielded_by _ _ c.in-None.is c.next.ensures.steps in
    ap (map (λ w. w.now)) c.loop-part.invariant.read ∙ end.0

pub returns-then-count-room-clause-none : goal.returns-then-count-room-clause-none
returns-then-count-room-clause-none c = λ none.
    let full : c.loop-part.count ≡ length c.loop-part.room = search rules in
    let read : length c.loop-part.yielded ≡ c.loop-part.count = sym (ap length c.loop-part.invariant.read) ∙ length-take-le _ _ c.loop-part.invariant.within in
    let turn = YieldsList-turn
    (YieldsList-at c.into_iter-part-iterator.ensures.into_iter_gives
    (YieldsList-from_slice_split _ _ c.args.text.now c.split-part-items.ensures.rest c.split-part-items.ensures.done c.split-part-items.ensures.closure
    (λ x r q k. search (rules, tests))))
    c.loop-part.yielded _ c.loop-part.yielded_by _ _ _ c.in-Some.is c.next.ensures.steps in
    let one_more : length c.loop-part.yielded < length (slice_split (λ b. b == c.args.by) c.args.text.now) = turn.0 in
    omega (arith, one_more)
