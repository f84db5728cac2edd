use Rattle.std.proofs.Common.{◌∙◌, ap, arith, sym}
use Rattle.std.proofs.lemmas.Result.{err_from_is_err_and}
use Rattle.std.specs.Prelude.{Err}
use Rattle.mqb_journal.specs.declared.faults.OpenFault.{OpenFault}
use Rattle.mqb_journal.specs.declared.faults.OpenFault.TheVariants as opening
use Rattle.mqb_store.proofs.Reaching.{stops_behind}
use Rattle.mqb_store.proofs.Steps.{bad_before, same_fault}
use Rattle.mqb_store.proofs.replaying.replay.Goals as goal

-- what is bad behind some records was so before them
pub returns-in_err-step-clause-bad : goal.returns-in_err-step-clause-bad
returns-in_err-step-clause-bad g c at is =
    let d = g.D.Disk.view c.args.disk.now in
    let m = g.D.Disk.view c.records.disk in
    let p = err_from_is_err_and c.from_residual.result c.from_residual.ensures.1 in
    let fault = sym p.2 ∙ same_fault p.0 (opening.BadStore at) (sym p.1 ∙ is) in
    bad_before d m at c.records.invariant.reads
    (c.in_err-step.ensures.bad at (ap (λ (f : OpenFault). Err f) fault))

pub returns-in_err-step-clause-no_further : goal.returns-in_err-step-clause-no_further
returns-in_err-step-clause-no_further g c before so_far =
    let i = c.records.invariant in
    let d = g.D.Disk.view c.args.disk.now in
    let m = g.D.Disk.view c.records.disk in
    let e = g.D.Disk.view c.step.new.disk in
    stops_behind d m e before i.read i.reads (omega (arith, so_far, i.reached, i.behind)) c.step.ensures.no_further

pub returns-clause-no_further : goal.returns-clause-no_further
returns-clause-no_further g c before so_far =
    let i = c.records.invariant in
    let d = g.D.Disk.view c.args.disk.now in
    let m = g.D.Disk.view c.records.disk in
    let e = g.D.Disk.view c.step.new.disk in
    stops_behind d m e before i.read i.reads (omega (arith, so_far, i.reached, i.behind)) c.step.ensures.no_further
