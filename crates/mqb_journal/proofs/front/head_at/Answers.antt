use Rattle.std.proofs.Common.{◌+◌, ℕ, drop, sym, ◌∙◌, ap, arith, refl}
use Rattle.std.specs.Prelude.{nat_eq}
use Rattle.mqb_layout.specs.Store.{part}
use Rattle.mqb_journal.proofs.Staging.{told_within}
use Rattle.mqb_journal.proofs.Beginning.{head_read, head_reads}
use Rattle.mqb_journal.proofs.front.head_at.Goals as goal

pub returns-clause-laid : goal.returns-clause-laid
returns-clause-laid g c d told =
    let there = c.in_ok-second.ensures.reads.unchanged.reads.none_lost d told in
    let second = nat_eq c.in_ok-second.field-0 1 in
    let place : ℕ = c.in_ok-place.place in
    head_read c.args.head c.in_ok-second.field-0 place second (drop (c.args.head + 1) d) d (c.requires.head d told)
    (c.in_ok-second.ensures.byte d told) refl (let small = c.in_ok-place.ensures.range in omega (arith, small))
    (ap (λ (k : ℕ). part k 8 d) (sym c.place_told.ensures) ∙ c.in_ok-place.ensures.spelled d there)

pub returns-in_err-second-clause-no_further : goal.returns-in_err-second-clause-no_further
returns-in_err-second-clause-no_further g c d told =
    head_reads c.args.head (g.D.Disk.view c.args.disk.now).reached (g.D.Disk.view c.byte_at.new.disk).reached d (c.requires.later d told) (c.requires.head d told) (omega arith)
    (omega (arith, c.byte_at.ensures.reached))

pub returns-in_err-place-clause-no_further : goal.returns-in_err-place-clause-no_further
returns-in_err-place-clause-no_further g c d told =
    head_reads c.args.head (g.D.Disk.view c.args.disk.now).reached (g.D.Disk.view c.long_at.new.disk).reached d (c.requires.later d told) (c.requires.head d told) (omega arith)
    (omega (arith, c.byte_at.ensures.reached, c.long_at.ensures.reached, c.place_told.ensures, (told_within c.args.head (nat_eq c.in_ok-second.field-0 1)).1))

pub returns-clause-no_further : goal.returns-clause-no_further
returns-clause-no_further g c d told =
    head_reads c.args.head (g.D.Disk.view c.args.disk.now).reached (g.D.Disk.view c.long_at.new.disk).reached d (c.requires.later d told) (c.requires.head d told) (omega arith)
    (omega (arith, c.byte_at.ensures.reached, c.long_at.ensures.reached, c.place_told.ensures, (told_within c.args.head (nat_eq c.in_ok-second.field-0 1)).1))

pub returns-in_err-place-clause-reached : goal.returns-in_err-place-clause-reached
returns-in_err-place-clause-reached g c =
    omega (arith, c.byte_at.ensures.reached, c.long_at.ensures.reached, c.place_told.ensures, (told_within c.args.head (nat_eq c.in_ok-second.field-0 1)).1)

pub returns-clause-reached : goal.returns-clause-reached
returns-clause-reached g c =
    omega (arith, c.byte_at.ensures.reached, c.long_at.ensures.reached, c.place_told.ensures, (told_within c.args.head (nat_eq c.in_ok-second.field-0 1)).1)
