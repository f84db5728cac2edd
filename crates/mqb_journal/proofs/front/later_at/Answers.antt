use Rattle.std.proofs.Common.{rules, ℕ, ◌+◌, List, length, None, Some, Err, ◌≡◌, refl, sym, ap, subst, arith}
use Rattle.mqb_layout.specs.declared.layout.Layout.{Layout}
use Rattle.mqb_journal.specs.Store.{After, HasFront}
use Rattle.mqb_layout.specs.declared.limits.TheConstants.{AREA}
use Rattle.mqb_journal.specs.declared.faults.OpenFault.TheVariants as open_fault
use Rattle.mqb_journal.proofs.Beginning.{second_version, reads_on_head}
use Rattle.mqb_journal.proofs.front.later_at.Goals as goal

pub returns-clause-front : goal.returns-clause-front
returns-clause-front g c =
    let l : Layout = c.in_ok-layout.layout in
    let count : ℕ = c.in_ok-count.count in
    let base : List ℕ = c.in_ok-count.base.items in
    record {
      base = After count base;
      front = λ d told.
          let there = c.head_at.ensures.reads.unchanged.reads.none_lost d told in
          let same : c.len.result ≡ length base = omega (arith, c.len.ensures) in
          subst (λ (k : ℕ). HasFront c.args.guid.0 (After count base) (l.place + AREA + k) d) (sym same)
          (second_version c.args.guid.0 l count base d (c.requires.later d told) (c.requires.guid d told) (c.in_ok-layout.ensures.laid d told)
          (omega (arith, c.in_ok-layout.ensures.stands, c.in_ok-layout.ensures.low)) c.in_ok-count.ensures.behind c.in_ok-count.ensures.counted c.in_ok-count.ensures.small
          (c.in_ok-count.ensures.area d there));
      laid = λ d told. ap (λ (k : Layout). Some k) (c.in_ok-layout.ensures.laid d told);
      behind = λ none. absurd (let no : Some l ≡ None = none in cc);
      counted = refl;
      held_is = refl;
    }

pub returns-in_err-count-clause-no_further : goal.returns-in_err-count-clause-no_further
returns-in_err-count-clause-no_further g c d told =
    reads_on_head c.args.head (g.D.Disk.view c.args.disk.now).reached (g.D.Disk.view c.head_at.new.disk).reached (g.D.Disk.view c.area_at.new.disk).reached d (c.requires.later d told) (c.requires.head d told)
    (omega (arith, c.in_ok-layout.ensures.low)) c.head_at.ensures.reached (c.area_at.ensures.no_further d (c.head_at.ensures.reads.unchanged.reads.none_lost d told))

pub returns-clause-no_further : goal.returns-clause-no_further
returns-clause-no_further g c d told =
    reads_on_head c.args.head (g.D.Disk.view c.args.disk.now).reached (g.D.Disk.view c.head_at.new.disk).reached (g.D.Disk.view c.area_at.new.disk).reached d (c.requires.later d told) (c.requires.head d told)
    (omega (arith, c.in_ok-layout.ensures.low)) c.head_at.ensures.reached (c.area_at.ensures.no_further d (c.head_at.ensures.reads.unchanged.reads.none_lost d told))

pub returns-in_err-count-clause-bad : goal.returns-in_err-count-clause-bad
returns-in_err-count-clause-bad g c at is d told =
    let failed : c.area_at.result ≡ Err (open_fault.BadStore at) = search rules in
    c.area_at.ensures.bad at failed d (c.head_at.ensures.reads.unchanged.reads.none_lost d told)

pub returns-in_err-count-clause-bad_reached : goal.returns-in_err-count-clause-bad_reached
returns-in_err-count-clause-bad_reached g c at is =
    let failed : c.area_at.result ≡ Err (open_fault.BadStore at) = search rules in
    omega (arith, c.area_at.ensures.bad_reached at failed, c.head_at.ensures.reached)
