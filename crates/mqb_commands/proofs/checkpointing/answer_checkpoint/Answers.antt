use Rattle.std.proofs.Common.{ap, inl, inr, refl, sym, subst, ◌∙◌}
use Rattle.std.specs.Prelude.{[], ◌≡◌, None}
use Rattle.mqb_answers.specs.mqb_manager.lemmas.Keeping.{checkpoints_keep_disks}
use Rattle.mqb_transcript.specs.Texts.{printed}
use Rattle.mqb_commands.specs.Outputs.{IsSaid}
use Rattle.mqb_commands.specs.declared.status.Status.{Status}
use Rattle.mqb_commands.proofs.Checkpointed.{checkpoint_is_said, checkpoint_is_unsaid, checkpoints_calm, checkpoints_end, checkpoints_tell, checkpoints_up, left_down, reply_err}
use Rattle.mqb_commands.proofs.Unlinked.{checkpoint_unlinked}
use Rattle.mqb_commands.proofs.checkpointing.answer_checkpoint.Goals as goal

pub checkpoint-given-requires : goal.checkpoint-given-requires
checkpoint-given-requires g c = record { on = λ up. c.requires.on }

-- It has a reply.

pub returns-in-Ok-clause-checkpoints : goal.returns-in-Ok-clause-checkpoints
returns-in-Ok-clause-checkpoints g c =
    let d = g.D.Disk.view c.args.disk.now in
    let e = g.D.Disk.view c.checkpoint-given.new.disk in
    let kept : Type 0 = c.checkpoint-given.new.disk ≡ c.args.disk.now in
    checkpoint_is_said d e kept c.args.manager.now c.checkpoint-given.new.self c.checkpoint-given.result c.requires.up
    c.checkpoint-given.ensures.call c.in-Ok.reply c.say.result.text.items c.say.result.end (sym c.checkpoint_reply.ensures ∙ c.in-Ok.is)
    c.checkpoint-given.ensures.untouched
    c.checkpoint-given.ensures.rewritten
    (subst (λ (s : Status). IsSaid (printed [] None c.in-Ok.reply) s c.say.result.text.items c.say.result.end) c.end_of-end.ensures c.say.ensures)

-- The disk failed.

pub returns-in-Err-DiskFault-clause-checkpoints : goal.returns-in-Err-DiskFault-clause-checkpoints
returns-in-Err-DiskFault-clause-checkpoints g c =
    let d = g.D.Disk.view c.args.disk.now in
    let e = g.D.Disk.view c.checkpoint-given.new.disk in
    let kept : Type 0 = c.checkpoint-given.new.disk ≡ c.args.disk.now in
    inr (inl (
      c.fault.ensures,
      left_down d e kept c.args.manager.now c.checkpoint-given.new.self c.checkpoint-given.result c.requires.up
          c.checkpoint-given.ensures.call c.checkpoints_are_replied.ensures (sym c.checkpoint_reply.ensures ∙ c.in-Err-DiskFault.is ∙ ap reply_err c.in-Err-DiskFault.field-0-is),
    ))

-- Memory ran out.

pub returns-in-Err-Memory-clause-checkpoints : goal.returns-in-Err-Memory-clause-checkpoints
returns-in-Err-Memory-clause-checkpoints g c =
    let d = g.D.Disk.view c.args.disk.now in
    let e = g.D.Disk.view c.checkpoint-given.new.disk in
    let kept : Type 0 = c.checkpoint-given.new.disk ≡ c.args.disk.now in
    checkpoint_is_unsaid d e kept c.args.manager.now c.checkpoint-given.new.self c.checkpoint-given.result c.requires.up
    c.checkpoint-given.ensures.call c.memory.result.text.items c.memory.result.end
    (sym c.checkpoint_reply.ensures ∙ c.in-Err-Memory.is ∙ ap reply_err c.in-Err-Memory.field-0-is) c.memory.ensures.end c.memory.ensures.text

-- What follows of it.

pub returns-in-Ok-clause-disk : goal.returns-in-Ok-clause-disk
returns-in-Ok-clause-disk g c =
    checkpoints_keep_disks (g.D.Disk.view c.args.disk.now) (g.D.Disk.view c.checkpoint-given.new.disk) c.args.manager.now c.checkpoint-given.new.self
    c.checkpoint-given.result c.checkpoint-given.ensures.call

pub returns-in-Ok-clause-unlinked : goal.returns-in-Ok-clause-unlinked
returns-in-Ok-clause-unlinked g c none =
    checkpoint_unlinked c.args.manager.now c.checkpoint-given.new.self c.checkpoint-given.result c.checkpoint-given.ensures.call.ends none

pub returns-in-Ok-clause-up : goal.returns-in-Ok-clause-up
returns-in-Ok-clause-up g c = checkpoints_up (returns-in-Ok-clause-checkpoints g c)

pub returns-in-Ok-clause-calm : goal.returns-in-Ok-clause-calm
returns-in-Ok-clause-calm g c = checkpoints_calm (returns-in-Ok-clause-checkpoints g c)

pub returns-in-Ok-clause-ends : goal.returns-in-Ok-clause-ends
returns-in-Ok-clause-ends g c = checkpoints_end (returns-in-Ok-clause-checkpoints g c)

pub returns-in-Ok-clause-faults : goal.returns-in-Ok-clause-faults
returns-in-Ok-clause-faults g c = checkpoints_tell (returns-in-Ok-clause-checkpoints g c)

pub returns-in-Err-DiskFault-clause-disk : goal.returns-in-Err-DiskFault-clause-disk
returns-in-Err-DiskFault-clause-disk g c =
    checkpoints_keep_disks (g.D.Disk.view c.args.disk.now) (g.D.Disk.view c.checkpoint-given.new.disk) c.args.manager.now c.checkpoint-given.new.self
    c.checkpoint-given.result c.checkpoint-given.ensures.call

pub returns-in-Err-DiskFault-clause-unlinked : goal.returns-in-Err-DiskFault-clause-unlinked
returns-in-Err-DiskFault-clause-unlinked g c none =
    checkpoint_unlinked c.args.manager.now c.checkpoint-given.new.self c.checkpoint-given.result c.checkpoint-given.ensures.call.ends none

pub returns-in-Err-DiskFault-clause-up : goal.returns-in-Err-DiskFault-clause-up
returns-in-Err-DiskFault-clause-up g c = checkpoints_up (returns-in-Err-DiskFault-clause-checkpoints g c)

pub returns-in-Err-DiskFault-clause-calm : goal.returns-in-Err-DiskFault-clause-calm
returns-in-Err-DiskFault-clause-calm g c = checkpoints_calm (returns-in-Err-DiskFault-clause-checkpoints g c)

pub returns-in-Err-DiskFault-clause-ends : goal.returns-in-Err-DiskFault-clause-ends
returns-in-Err-DiskFault-clause-ends g c = checkpoints_end (returns-in-Err-DiskFault-clause-checkpoints g c)

pub returns-in-Err-DiskFault-clause-faults : goal.returns-in-Err-DiskFault-clause-faults
returns-in-Err-DiskFault-clause-faults g c = checkpoints_tell (returns-in-Err-DiskFault-clause-checkpoints g c)

pub returns-in-Err-Memory-clause-disk : goal.returns-in-Err-Memory-clause-disk
returns-in-Err-Memory-clause-disk g c =
    checkpoints_keep_disks (g.D.Disk.view c.args.disk.now) (g.D.Disk.view c.checkpoint-given.new.disk) c.args.manager.now c.checkpoint-given.new.self
    c.checkpoint-given.result c.checkpoint-given.ensures.call

pub returns-in-Err-Memory-clause-unlinked : goal.returns-in-Err-Memory-clause-unlinked
returns-in-Err-Memory-clause-unlinked g c none =
    checkpoint_unlinked c.args.manager.now c.checkpoint-given.new.self c.checkpoint-given.result c.checkpoint-given.ensures.call.ends none

pub returns-in-Err-Memory-clause-up : goal.returns-in-Err-Memory-clause-up
returns-in-Err-Memory-clause-up g c = checkpoints_up (returns-in-Err-Memory-clause-checkpoints g c)

pub returns-in-Err-Memory-clause-calm : goal.returns-in-Err-Memory-clause-calm
returns-in-Err-Memory-clause-calm g c = checkpoints_calm (returns-in-Err-Memory-clause-checkpoints g c)

pub returns-in-Err-Memory-clause-ends : goal.returns-in-Err-Memory-clause-ends
returns-in-Err-Memory-clause-ends g c = checkpoints_end (returns-in-Err-Memory-clause-checkpoints g c)

pub returns-in-Err-Memory-clause-faults : goal.returns-in-Err-Memory-clause-faults
returns-in-Err-Memory-clause-faults g c = checkpoints_tell (returns-in-Err-Memory-clause-checkpoints g c)
