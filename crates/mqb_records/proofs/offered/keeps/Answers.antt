use Rattle.std.proofs.Common.{rules, sym, arith}
use Rattle.std.specs.Prelude.{◌==◌, ◌+◌, ◌-◌, ◌/◌, ◌<◌, ◌≤◌}
use Rattle.mqb_records.proofs.Halved.{all_left, lower_left, none_left, upper_left}
use Rattle.mqb_arrivals.proofs.Searching.{any_there}
use Rattle.mqb_records.proofs.offered.keeps.Goals as goal

pub loop-low-init : goal.loop-low-init
loop-low-init c = all_left c.args.kept.now.items c.args.number c.len-high.result c.len-high.ensures.len

pub get-requires : goal.get-requires
get-requires c = let most = c.loop-low.invariant.within in let lt = c.loop-low-test.true in omega (arith, most, lt)

pub returns-then-found-number : goal.returns-then-found-number
returns-then-found-number c =
    sym (any_there (λ k. k.number == c.args.number) c.args.kept.now.items (c.loop-low.low + (c.loop-low.high - c.loop-low.low) / 2) c.get.result.now c.get.ensures.kept (search rules))

pub loop-low-preserved-then-found-number-2 : goal.loop-low-preserved-then-found-number-2
loop-low-preserved-then-found-number-2 c =
    let lt = c.loop-low-test.true in
    upper_left c.args.kept.now.items c.args.number c.loop-low.low c.loop-low.high (c.loop-low.low + (c.loop-low.high - c.loop-low.low) / 2) c.get.result.now
    c.get.ensures.rises c.get.ensures.kept c.loop-low.invariant (omega arith) (omega (arith, lt)) c.if-found-number-2.true

pub loop-low-preserved : goal.loop-low-preserved
loop-low-preserved c =
    let lt = c.loop-low-test.true in
    lower_left c.args.kept.now.items c.args.number c.loop-low.low c.loop-low.high (c.loop-low.low + (c.loop-low.high - c.loop-low.low) / 2) c.get.result.now
    c.get.ensures.rises c.get.ensures.kept c.loop-low.invariant (omega arith) (omega (arith, lt))
    (let differ = c.if-found-number.false in let le = c.if-found-number-2.false in omega (arith, differ, le))

pub returns : goal.returns
returns c = sym (none_left c.args.kept.now.items c.args.number c.loop-low.low c.loop-low.high c.loop-low.invariant c.loop-low-test.false)
