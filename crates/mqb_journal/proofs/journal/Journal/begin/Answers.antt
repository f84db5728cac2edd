use Rattle.std.proofs.Common.{◌≡◌, ℕ, List, [], Err, sym, ◌∙◌, ap, subst, arith}
use Rattle.std.proofs.lemmas.Result.{err_from_is_err_and}
use Rattle.mqb_outside.specs.lemmas.Runs.{reads_then}
use Rattle.mqb_journal.specs.States.{ScanState}
use Rattle.mqb_journal.specs.Journals.{Lent}
use Rattle.mqb_journal.specs.declared.faults.OpenFault.{OpenFault}
use Rattle.mqb_journal.specs.declared.faults.OpenFault.TheVariants as opening
use Rattle.mqb_journal.proofs.Fronts.{has_front}
use Rattle.mqb_journal.proofs.Lending.{lent_none}
use Rattle.mqb_journal.proofs.Beginning.{reads_on_header, gate_reads}
use Rattle.mqb_journal.proofs.journal.Journal.begin.Goals as goal

pub returns-clause-begun : goal.returns-clause-begun
returns-clause-begun g c =
    let f = c.in_ok-front.ensures.front in
    let long = λ (d : List ℕ) (told : (g.D.Disk.view c.len.new.self).reads d). c.in_ok-len.ensures.length d (c.in_ok-len.ensures.reads.unchanged.reads.none_new d told) in
    let gate = λ (d : List ℕ) (told : (g.D.Disk.view c.len.new.self).reads d). c.in_ok-is_open.ensures.gate d (c.front_at.ensures.reads.unchanged.reads.none_lost d told) in
    let both = reads_then _ _ _ c.front_at.ensures.reads c.is_open_at.ensures.reads in (
      f.base,
      subst (λ (s : ScanState). Lent (g.D.Disk.view c.is_open_at.new.disk) s f.base []) (sym c.new.ensures)
          (lent_none (g.D.Disk.view c.len.new.self) (g.D.Disk.view c.is_open_at.new.disk) _ _ c.in_ok-len.len _ _ _ _ f both long gate),
      ap (λ (s : ScanState). s.base) c.new.ensures ∙ sym f.held_is,
    )

pub returns-in_err-front-clause-bad : goal.returns-in_err-front-clause-bad
returns-in_err-front-clause-bad g c at is d told =
    let p = err_from_is_err_and c.from_residual-in_err-front.result c.from_residual-in_err-front.ensures.1 in
    let same : p.0 ≡ opening.BadStore at = cc (sym p.1 ∙ is) in
    c.in_err-front.ensures.bad at (ap (λ (f : OpenFault). Err f) (sym p.2 ∙ same)) d (c.in_ok-len.ensures.reads.unchanged.reads.none_lost d told)

pub returns-clause-not_bad : goal.returns-clause-not_bad
returns-clause-not_bad g c d told at none =
    let there = c.in_ok-len.ensures.reads.unchanged.reads.none_lost d told in
    let f = c.in_ok-front.ensures.front in
    has_front _ f.base _ at d (f.front d there) (let within = c.in_ok-front.ensures.within in let long = c.in_ok-len.ensures.length d told in omega (arith, within, long)) none

pub returns-in_err-front-clause-no_further : goal.returns-in_err-front-clause-no_further
returns-in_err-front-clause-no_further g c d told =
    reads_on_header (g.D.Disk.view c.args.disk.now).reached (g.D.Disk.view c.len.new.self).reached (g.D.Disk.view c.front_at.new.disk).reached d (omega (arith, c.len.ensures.reached))
    (c.front_at.ensures.no_further d (c.in_ok-len.ensures.reads.unchanged.reads.none_lost d told))

pub returns-in_err-is_open-clause-no_further : goal.returns-in_err-is_open-clause-no_further
returns-in_err-is_open-clause-no_further g c d told =
    let there = c.in_ok-len.ensures.reads.unchanged.reads.none_lost d told in
    let f = c.in_ok-front.ensures.front in
    gate_reads _ f.base _ (g.D.Disk.view c.args.disk.now).reached (g.D.Disk.view c.is_open_at.new.disk).reached d (f.front d there)
    (let within = c.in_ok-front.ensures.within in let long = c.in_ok-len.ensures.length d told in omega (arith, within, long))
    (omega (arith, c.len.ensures.reached, c.in_ok-front.ensures.reached, c.is_open_at.ensures.reached))

pub returns-clause-no_further : goal.returns-clause-no_further
returns-clause-no_further g c d told =
    let there = c.in_ok-len.ensures.reads.unchanged.reads.none_lost d told in
    let f = c.in_ok-front.ensures.front in
    gate_reads _ f.base _ (g.D.Disk.view c.args.disk.now).reached (g.D.Disk.view c.is_open_at.new.disk).reached d (f.front d there)
    (let within = c.in_ok-front.ensures.within in let long = c.in_ok-len.ensures.length d told in omega (arith, within, long))
    (omega (arith, c.len.ensures.reached, c.in_ok-front.ensures.reached, c.is_open_at.ensures.reached))
