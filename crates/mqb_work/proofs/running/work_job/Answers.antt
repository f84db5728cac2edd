use Rattle.std.proofs.Common.{inl, inr, refl, subst, sym, ◌∙◌}
use Rattle.std.specs.Prelude.{Err, Ok}
use Rattle.mqb_commands.specs.lemmas.Opening.{opened_keeps}
use Rattle.mqb_outside.specs.lemmas.Counts.{at_most_none}
use Rattle.mqb_work.specs.Causes.{DiskFaultHasCause, WriteFaultHasCause}
use Rattle.mqb_work.specs.declared.status.WorkStatus.{WorkStatus}
use Rattle.mqb_work.proofs.Working.{store_worked, unopened_disk, unopened_usage, unopened_write, works_usage}
use Rattle.mqb_work.proofs.running.work_job.Goals as goal

pub returns-in-Err-clause-works : goal.returns-in-Err-clause-works
returns-in-Err-clause-works g c = inr (inr (record { why = c.in-Err.status; fails = c.in-Err.ensures.fails; ends = c.unopened.ensures; taken = refl }))

pub returns-in_default-clause-works : goal.returns-in_default-clause-works
returns-in_default-clause-works g c = inr (inl (record {
  first = c.in-Ok.manager;
  opened = c.in-Ok.ensures.opened;
  disk = opened_keeps (g.D.Disk.view c.args.disk.now) (g.D.Disk.view c.open.new.disk) c.in-Ok.manager c.open.ensures.reads;
  ends = refl;
  taken = refl;
}))

pub returns-in-Ok-worked-clause-works : goal.returns-in-Ok-worked-clause-works
returns-in-Ok-worked-clause-works g c =
    let worked = c.in-Ok-worked.ensures in
    inl (store_worked (Ok tt) c.in-Ok.ensures.opened c.open.ensures.reads (c.as_slice.ensures.value ∙ c.in-Ok-hosts_of.ensures) worked.works worked.disk worked.up)

pub returns-clause-works : goal.returns-clause-works
returns-clause-works g c =
    let worked = c.in-Err-worked.ensures in
    inl (store_worked (Err c.in-Err-worked.status) c.in-Ok.ensures.opened c.open.ensures.reads (c.as_slice.ensures.value ∙ c.in-Ok-hosts_of.ensures) worked.works worked.disk worked.up)

pub returns-in-Err-clause-usage : goal.returns-in-Err-clause-usage
returns-in-Err-clause-usage g c = λ same. unopened_usage c.in-Err.status (sym c.unopened.ensures ∙ same)

pub returns-clause-usage : goal.returns-clause-usage
returns-clause-usage g c = works_usage c.in-Err-worked.status c.in-Err-worked.ensures.works

pub returns-in-Err-clause-write_faults : goal.returns-in-Err-clause-write_faults
returns-in-Err-clause-write_faults g c =
    let count = g.K.Sink.write_faults c.args.out.now in
    subst (λ (r : WorkStatus). WriteFaultHasCause count count r) (sym c.unopened.ensures) (unopened_write count count c.in-Err.status)

pub returns-in-Err-clause-disk_faults : goal.returns-in-Err-clause-disk_faults
returns-in-Err-clause-disk_faults g c =
    subst (λ (r : WorkStatus). DiskFaultHasCause (g.D.Disk.view c.args.disk.now).faults (g.D.Disk.view c.open.new.disk).faults r) (sym c.unopened.ensures)
    (unopened_disk (g.D.Disk.view c.args.disk.now) (g.D.Disk.view c.open.new.disk) c.in-Err.status c.in-Err.ensures.fails)

pub returns-in-Err-clause-asked : goal.returns-in-Err-clause-asked
returns-in-Err-clause-asked g c = at_most_none c.args.job.now.count _

pub returns-in_default-clause-asked : goal.returns-in_default-clause-asked
returns-in_default-clause-asked g c = at_most_none c.args.job.now.count _
