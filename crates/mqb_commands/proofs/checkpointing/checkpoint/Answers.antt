use Rattle.std.proofs.Common.{inl, inr, subst, sym, ℕ}
use Rattle.std.specs.Prelude.{◌≡◌}
use Rattle.mqb_store_laws.specs.Settling.{OnlySettles}
use Rattle.mqb_commands.specs.Called.{TellsFaults}
use Rattle.mqb_commands.specs.Causes.{DiskFaultHasCause}
use Rattle.mqb_commands.specs.Checkpointed.{CheckpointsOn}
use Rattle.mqb_commands.specs.lemmas.Opening.{line_fails, on_store}
use Rattle.mqb_commands.proofs.Answering.{fails_cause, opening_is_told}
use Rattle.mqb_commands.proofs.Checkpointed.{checkpoints_cause, kept_as}
use Rattle.mqb_commands.proofs.checkpointing.checkpoint.Goals as goal

-- The store is not opened.

pub returns-in-Err-clause-checkpoints : goal.returns-in-Err-clause-checkpoints
returns-in-Err-clause-checkpoints g c =
    inr (line_fails (g.D.Disk.view c.args.disk.now) (g.D.Disk.view c.open.new.disk) c.in-Err.fault c.fault.result.end c.fault.result.text.items
    c.in-Err.ensures.fails c.open.ensures.reads c.fault.ensures)

pub returns-in-Err-clause-cause : goal.returns-in-Err-clause-cause
returns-in-Err-clause-cause g c =
    let d = g.D.Disk.view c.args.disk.now in
    let f = g.D.Disk.view c.open.new.disk in
    fails_cause d f c.fault.result.text.items c.fault.result.end
    (line_fails d f c.in-Err.fault c.fault.result.end c.fault.result.text.items c.in-Err.ensures.fails c.open.ensures.reads c.fault.ensures)

pub returns-in-Err-clause-faults : goal.returns-in-Err-clause-faults
returns-in-Err-clause-faults g c =
    opening_is_told (g.D.Disk.view c.args.disk.now).faults (g.D.Disk.view c.open.new.disk).faults c.in-Err.fault c.fault.result.end c.fault.result.text.items
    c.in-Err.ensures.cause c.fault.ensures

-- It is opened.

pub returns-clause-checkpoints : goal.returns-clause-checkpoints
returns-clause-checkpoints g c =
    let d = g.D.Disk.view c.args.disk.now in
    let e = g.D.Disk.view c.answer_checkpoint-answer.new.disk in
    let n = c.answer_checkpoint-answer.new.manager in
    let answer = c.answer_checkpoint-answer.result in
    inl (on_store c.in-Ok.ensures.opened c.open.ensures.reads
    (subst (λ (k : ℕ). CheckpointsOn (OnlySettles d e) k e.faults c.in-Ok.manager n answer.text.items answer.end) c.in-Ok.ensures.cause
    (kept_as (λ kept. subst (λ k. OnlySettles d (g.D.Disk.view k)) (sym kept) c.open.ensures.reads) c.answer_checkpoint-answer.ensures.checkpoints))
    c.answer_checkpoint-answer.ensures.disk)

pub returns-clause-cause : goal.returns-clause-cause
returns-clause-cause g c =
    let e = g.D.Disk.view c.answer_checkpoint-answer.new.disk in
    subst (λ (k : ℕ). DiskFaultHasCause k e.faults c.answer_checkpoint-answer.result.end) c.in-Ok.ensures.cause
    (checkpoints_cause c.answer_checkpoint-answer.ensures.checkpoints)

pub returns-clause-faults : goal.returns-clause-faults
returns-clause-faults g c =
    let e = g.D.Disk.view c.answer_checkpoint-answer.new.disk in
    let answer = c.answer_checkpoint-answer.result in
    subst (λ (k : ℕ). TellsFaults k e.faults answer.text.items answer.end) c.in-Ok.ensures.cause c.answer_checkpoint-answer.ensures.faults
