use Rattle.std.proofs.Common.{refl}
use Rattle.mqb_manager.specs.States.{manager_of}
use Rattle.mqb_manager.specs.lemmas.Keeping.{calls_keep_disks}
use Rattle.mqb_model.specs.declared.faults.CommitFault.TheVariants as fault
use Rattle.mqb_worker.specs.Steps.{stepped}
use Rattle.mqb_worker.specs.Work.{prefixed}
use Rattle.mqb_work.proofs.Telling.{fails_as_said, up_behind}
use Rattle.mqb_work.proofs.turns.make_turn.Goals as goal

pub returns-clause-turn : goal.returns-clause-turn
returns-clause-turn g c = record {
  turn = record { now = c.now-now.result; answer = c.step.result; after = c.step.new.manager };
  is = record { moment = c.now-now.ensures.moment; ends = c.step.ensures.call.ends };
  left = refl;
  answered = refl;
}

pub returns-clause-up : goal.returns-clause-up
returns-clause-up g c =
    let job = c.args.job.now in
    up_behind fault.Memory fault.DiskFault c.args.manager.now c.step.new.manager
    (stepped (manager_of c.args.manager.now) job.queue (prefixed job.prefix) c.now-now.result) c.step.result c.step.ensures.call.ends c.requires.up

pub returns-clause-disk : goal.returns-clause-disk
returns-clause-disk g c =
    let job = c.args.job.now in
    calls_keep_disks fault.Memory fault.DiskFault (g.D.Disk.view c.args.disk.now) (g.D.Disk.view c.step.new.disk) c.args.manager.now c.step.new.manager
    (stepped (manager_of c.args.manager.now) job.queue (prefixed job.prefix) c.now-now.result) c.step.result c.step.ensures.call

pub returns-clause-disk_faults : goal.returns-clause-disk_faults
returns-clause-disk_faults g c =
    fails_as_said (g.D.Disk.view c.args.disk.now).faults (g.D.Disk.view c.step.new.disk).faults c.step.result c.step.ensures.call.rose c.step.ensures.call.stayed
