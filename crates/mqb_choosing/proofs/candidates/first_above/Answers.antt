use Rattle.std.proofs.Common.{◌≡◌, ◌+◌, ◌-◌, ◌/◌, ◌<◌, ℕ, All, drop, sym, subst, arith}
use Rattle.std.proofs.lemmas.Bool.Decides.{nat_tests}
use Rattle.std.proofs.lemmas.Option.{get_or_from_slice_get}
use Rattle.mqb_orders.specs.declared.kept.Kept.{Kept}
use Rattle.mqb_orders.proofs.Halves.{rest_from_found}
use Rattle.mqb_choosing.proofs.Waiting.{filter_is, low_to}
use Rattle.mqb_choosing.proofs.candidates.first_above.Goals as goal

pub loop-first-preserved-then-get-number : goal.loop-first-preserved-then-get-number
loop-first-preserved-then-get-number c =
    let middle : ℕ = c.loop-first.first + (c.loop-first.end - c.loop-first.first) / 2 in
    record {
      order = grind (arith, nat_tests, c.loop-first-test.true);
      within = c.loop-first.invariant.within;
      low = low_to c.args.number c.args.kept.now.items middle c.get.result.now c.get.ensures.rises c.get.ensures.kept (grind (arith, nat_tests, c.if-get-number.true));
      high = c.loop-first.invariant.high;
    }

pub loop-first-preserved : goal.loop-first-preserved
loop-first-preserved c =
    let middle : ℕ = c.loop-first.first + (c.loop-first.end - c.loop-first.first) / 2 in
    let above : c.args.number < c.get.result.now.number = grind (arith, nat_tests, c.if-get-number.false) in
    record {
      order = grind (arith, nat_tests, c.loop-first-test.true);
      within = grind (arith, nat_tests, c.loop-first-test.true, c.loop-first.invariant.within);
      low = c.loop-first.invariant.low;
      high = rest_from_found c.args.number c.args.kept.now.items middle c.get.ensures.rises
          (λ d. subst (λ (m : Kept). c.args.number < m.number) (sym (get_or_from_slice_get c.args.kept.now.items middle c.get.result.now d c.get.ensures.kept)) above);
    }

pub returns-clause-rest : goal.returns-clause-rest
returns-clause-rest c =
    let same : c.loop-first.end ≡ c.loop-first.first = grind (arith, nat_tests, c.loop-first-test.false, c.loop-first.invariant.order) in
    filter_is c.args.number c.args.kept.now.items c.loop-first.first c.loop-first.invariant.low
    (subst (λ (e : ℕ). All (λ k. c.args.number < k.number) (drop e c.args.kept.now.items)) same c.loop-first.invariant.high)
