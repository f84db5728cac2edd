use Rattle.std.proofs.Common.{◌∙◌, ap, arith, inl, inr, subst, sym}
use Rattle.std.proofs.lemmas.Result.{err_from_is_err_and}
use Rattle.std.specs.Prelude.{Err}
use Rattle.mqb_outside.specs.Images.{Each}
use Rattle.mqb_outside.specs.lemmas.Runs.{reads_then}
use Rattle.mqb_journal.specs.States.{JournalState}
use Rattle.mqb_journal.specs.declared.faults.OpenFault.{OpenFault}
use Rattle.mqb_journal.specs.declared.faults.OpenFault.TheVariants as opening
use Rattle.mqb_store.proofs.Reaching.{in_order_before}
use Rattle.mqb_store.proofs.Read.{read_lines, read_on, read_opens}
use Rattle.mqb_store.proofs.Steps.{bad_before, cause_of, reads_then_settles, same_fault}
use Rattle.mqb_store.proofs.store.Store.start.Goals as goal
use Rattle.mqb_store_laws.specs.Images.{HasLastLines, IsOn, OpensTo}
use Rattle.mqb_store_laws.specs.lemmas.Settling.{reads_settle}

pub returns-in_err-scan-clause-bad : goal.returns-in_err-scan-clause-bad
returns-in_err-scan-clause-bad g c at is =
    let p = err_from_is_err_and c.from_residual.result c.from_residual.ensures.1 in
    let none = c.in_err-scan.ensures.bad at (ap (λ (f : OpenFault). Err f) (sym p.2 ∙ same_fault p.0 (opening.BadStore at) (sym p.1 ∙ is))) in
    λ content told. inl (none content told)

pub returns-in_err-state-clause-bad : goal.returns-in_err-state-clause-bad
returns-in_err-state-clause-bad g c at is =
    let p = err_from_is_err_and c.from_residual-in_err-state.result c.from_residual-in_err-state.ensures.1 in
    bad_before (g.D.Disk.view c.args.disk.now) (g.D.Disk.view c.begin.new.disk) at c.begin.ensures.reads
    (c.in_err-state.ensures.bad at (ap (λ (f : OpenFault). Err f) (sym p.2 ∙ same_fault p.0 (opening.BadStore at) (sym p.1 ∙ is))))

pub returns-in-Err-clause-bad : goal.returns-in-Err-clause-bad
returns-in-Err-clause-bad g c at is =
    let d = g.D.Disk.view c.args.disk.now in
    let m = g.D.Disk.view c.begin.new.disk in
    let n = g.D.Disk.view c.first.new.disk in
    bad_before d n at (reads_then d m n c.begin.ensures.reads c.first.ensures.reads)
    (c.in-Err.ensures.bad at (ap (λ (f : OpenFault). Err f) (same_fault c.in-Err.fault (opening.BadStore at) is)))

pub returns-in-Ok-clause-on : goal.returns-in-Ok-clause-on
returns-in-Ok-clause-on g c =
    let e = g.D.Disk.view c.replay_durably.new.disk in
    let s = c.replay_durably.new.state.lists in
    subst (λ (j : JournalState). IsOn e j s) (sym c.finish.ensures)
    (read_on e c.replay_durably.new.scan c.finish.result.room s c.in-Ok.lines.items c.in-Ok.ensures.read c.in-Ok.ensures.ended)

pub returns-in-Ok-clause-opens : goal.returns-in-Ok-clause-opens
returns-in-Ok-clause-opens g c =
    let d = g.D.Disk.view c.args.disk.now in
    let m = g.D.Disk.view c.begin.new.disk in
    let n = g.D.Disk.view c.first.new.disk in
    let e = g.D.Disk.view c.replay_durably.new.disk in
    let s = c.replay_durably.new.state.lists in
    subst (λ (j : JournalState). Each d.reads (OpensTo j.guid j.count s)) (sym c.finish.ensures)
    (read_opens d e c.replay_durably.new.scan s c.in-Ok.lines.items c.in-Ok.ensures.read c.in-Ok.ensures.ended
    (reads_then_settles d m n e c.begin.ensures.reads c.first.ensures.reads c.replay_durably.ensures.reads))

pub returns-in-Ok-clause-lines : goal.returns-in-Ok-clause-lines
returns-in-Ok-clause-lines g c =
    let d = g.D.Disk.view c.args.disk.now in
    let m = g.D.Disk.view c.begin.new.disk in
    let n = g.D.Disk.view c.first.new.disk in
    let e = g.D.Disk.view c.replay_durably.new.disk in
    let s = c.replay_durably.new.state.lists in
    subst (λ (j : JournalState). Each d.reads (HasLastLines j.guid c.in-Ok.lines.items)) (sym c.finish.ensures)
    (read_lines d e c.replay_durably.new.scan s c.in-Ok.lines.items c.in-Ok.ensures.read c.in-Ok.ensures.ended
    (reads_then_settles d m n e c.begin.ensures.reads c.first.ensures.reads c.replay_durably.ensures.reads))

pub returns-in_err-scan-clause-reads : goal.returns-in_err-scan-clause-reads
returns-in_err-scan-clause-reads g c =
    reads_settle (g.D.Disk.view c.args.disk.now) (g.D.Disk.view c.begin.new.disk) c.begin.ensures.reads

pub returns-in_err-state-clause-reads : goal.returns-in_err-state-clause-reads
returns-in_err-state-clause-reads g c =
    let d = g.D.Disk.view c.args.disk.now in
    let m = g.D.Disk.view c.begin.new.disk in
    let n = g.D.Disk.view c.first.new.disk in
    reads_settle d n (reads_then d m n c.begin.ensures.reads c.first.ensures.reads)

pub returns-in-Err-clause-reads : goal.returns-in-Err-clause-reads
returns-in-Err-clause-reads g c =
    let d = g.D.Disk.view c.args.disk.now in
    let m = g.D.Disk.view c.begin.new.disk in
    let n = g.D.Disk.view c.first.new.disk in
    let e = g.D.Disk.view c.replay_durably.new.disk in
    reads_then_settles d m n e c.begin.ensures.reads c.first.ensures.reads c.replay_durably.ensures.reads

pub returns-in-Ok-clause-reads : goal.returns-in-Ok-clause-reads
returns-in-Ok-clause-reads g c =
    let d = g.D.Disk.view c.args.disk.now in
    let m = g.D.Disk.view c.begin.new.disk in
    let n = g.D.Disk.view c.first.new.disk in
    let e = g.D.Disk.view c.replay_durably.new.disk in
    reads_then_settles d m n e c.begin.ensures.reads c.first.ensures.reads c.replay_durably.ensures.reads

pub returns-in-Err-clause-cause : goal.returns-in-Err-clause-cause
returns-in-Err-clause-cause g c =
    cause_of c.in-Err.fault (g.D.Disk.view c.args.disk.now).faults (g.D.Disk.view c.first.new.disk).faults
    (g.D.Disk.view c.replay_durably.new.disk).faults (c.in_ok-state.ensures.cause ∙ c.in_ok-scan.ensures.cause) c.in-Err.ensures.cause

pub returns-in_err-scan-clause-no_further : goal.returns-in_err-scan-clause-no_further
returns-in_err-scan-clause-no_further g c content told = inl (c.begin.ensures.no_further content told)

pub returns-in_err-state-clause-no_further : goal.returns-in_err-state-clause-no_further
returns-in_err-state-clause-no_further g c =
    let d = g.D.Disk.view c.args.disk.now in
    let m = g.D.Disk.view c.begin.new.disk in
    let e = g.D.Disk.view c.first.new.disk in
    in_order_before d m d.reached e.reached c.begin.ensures.reads (c.first.ensures.no_further d.reached
    (λ content told. c.begin.ensures.no_further content (c.begin.ensures.reads.unchanged.reads.none_new content told)) c.in_ok-scan.ensures.reached)

pub returns-in-Err-clause-no_further : goal.returns-in-Err-clause-no_further
returns-in-Err-clause-no_further g c content told =
    let d = g.D.Disk.view c.args.disk.now in
    let m = g.D.Disk.view c.begin.new.disk in
    let n = g.D.Disk.view c.first.new.disk in
    inr (c.replay_durably.ensures.no_further d.reached
    (omega (arith, c.in_ok-scan.ensures.reached, c.in_ok-state.ensures.reached, c.in_ok-state.ensures.behind))
    content ((reads_then d m n c.begin.ensures.reads c.first.ensures.reads).unchanged.reads.none_lost content told))

pub returns-in-Ok-clause-no_further : goal.returns-in-Ok-clause-no_further
returns-in-Ok-clause-no_further g c content told =
    let d = g.D.Disk.view c.args.disk.now in
    let m = g.D.Disk.view c.begin.new.disk in
    let n = g.D.Disk.view c.first.new.disk in
    inr (c.replay_durably.ensures.no_further d.reached
    (omega (arith, c.in_ok-scan.ensures.reached, c.in_ok-state.ensures.reached, c.in_ok-state.ensures.behind))
    content ((reads_then d m n c.begin.ensures.reads c.first.ensures.reads).unchanged.reads.none_lost content told))
