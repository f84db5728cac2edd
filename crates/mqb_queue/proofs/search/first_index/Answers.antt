use Rattle.std.proofs.Common.{◌≤◌, ◌-◌, ℕ, ap, sym, ◌∙◌, arith}
use Rattle.mqb_queue.specs.First.{is_wanted}
use Rattle.mqb_queue.proofs.Passed.{at_most, none_first, none_left}
use Rattle.mqb_queue.proofs.Tops.{found_early}
use Rattle.mqb_queue.proofs.search.first_index.Goals as goal

pub loop-k-preserved : goal.loop-k-preserved
loop-k-preserved c =
    let choice = c.args.choice.now in
    let k = c.loop-k.k in
    let within : k ≤ c.args.bound = omega (arith, c.loop-k-test.true, c.from-k-end.ensures) in
    record {
      below = none_left (is_wanted choice.at choice.moment choice.id) k c.args.bound (c.from.result - k) c.args.messages.now within
          (ap (λ (n : ℕ). n - k) c.from.ensures) (sym c.index_with.ensures.index ∙ c.in_default.is);
    }

pub returns-in-Some-clause-first : goal.returns-in-Some-clause-first
returns-in-Some-clause-first c =
    let choice = c.args.choice.now in
    let free = is_wanted choice.at choice.moment choice.id in
    let k = c.loop-k.k in
    let within : k ≤ c.args.bound = omega (arith, c.loop-k-test.true, c.from-k-end.ensures) in
    sym (found_early free (c.from.result - k) c.args.messages.now c.in-Some.index
    (at_most free k c.args.bound (c.from.result - k) c.args.messages.now within (ap (λ (n : ℕ). n - k) c.from.ensures) c.loop-k.invariant.below)
    (sym c.index_with.ensures.index ∙ c.in-Some.is))

pub returns-clause-first : goal.returns-clause-first
returns-clause-first c =
    let choice = c.args.choice.now in
    sym (none_first (is_wanted choice.at choice.moment choice.id) c.loop-k.k c.args.bound c.args.messages.now
    (omega (arith, c.loop-k-test.false, c.from-k-end.ensures)) c.loop-k.invariant.below)
