use Rattle.std.proofs.Common.{◌≡◌, List, [], ap, inl, inr, subst, sym, ◌∙◌, ℕ}
use Rattle.std.specs.Prelude.{Err, Ok}
use Rattle.mqb_answers.specs.Calls.{IsTold}
use Rattle.mqb_answers.specs.Outcomes.{outcome_of}
use Rattle.mqb_answers.specs.mqb_manager.States.{manager_of}
use Rattle.mqb_answers.specs.mqb_replies.declared.faults.AnswerFault.{AnswerFault}
use Rattle.mqb_answers.specs.mqb_replies.declared.faults.AnswerFault.TheVariants as fault
use Rattle.mqb_commands.specs.Called.{IsAnswered}
use Rattle.mqb_commands.proofs.Answering.{calls_calm, calls_end, calls_tell, calls_up, is_answered, is_broken, is_not_told, keeps}
use Rattle.mqb_commands.proofs.Unlinked.{told_unlinked}
use Rattle.mqb_commands.proofs.calling.answer_call.Goals as goal

pub answer-requires-clause-formed : goal.answer-requires-clause-formed
answer-requires-clause-formed g c = c.requires.formed

pub answer-requires-clause-on : goal.answer-requires-clause-on
answer-requires-clause-on g c up = c.requires.on

-- What was told, from the empty text on.

pub returns-in-Ok-clause-calls : goal.returns-in-Ok-clause-calls
returns-in-Ok-clause-calls g c =
    let d = g.D.Disk.view c.args.disk.now in
    let e = g.D.Disk.view c.answer.new.disk in
    let m = c.args.manager.now in
    let n = c.answer.new.manager in
    let kept : Type 0 = c.answer.new.disk ≡ c.args.disk.now in
    let asked = c.args.call.now in
    let now = c.args.now in
    let text = c.answer.new.out.items in
    let told : IsTold d e kept m n (outcome_of asked (manager_of m) now) [] text (Ok c.in-Ok.end) =
    subst (λ (t : List ℕ). IsTold d e kept m n (outcome_of asked (manager_of m) now) t text (Ok c.in-Ok.end)) c.new-text.ensures.items c.in-Ok.ensures.call in
    inl (
      c.in-Ok.end,
      c.new.ensures.end ∙ c.status_of.ensures,
      subst (λ (t : List ℕ). IsAnswered asked now d.faults e.faults m n t c.in-Ok.end) (ap (λ v. v.items) (sym c.new.ensures.text))
          (is_answered asked now d e kept m n text c.in-Ok.end c.requires.up told),
    )

pub returns-in-Err-DiskFault-clause-calls : goal.returns-in-Err-DiskFault-clause-calls
returns-in-Err-DiskFault-clause-calls g c =
    let d = g.D.Disk.view c.args.disk.now in
    let e = g.D.Disk.view c.answer.new.disk in
    let m = c.args.manager.now in
    let n = c.answer.new.manager in
    let kept : Type 0 = c.answer.new.disk ≡ c.args.disk.now in
    let asked = c.args.call.now in
    let now = c.args.now in
    let text = c.answer.new.out.items in
    let told : IsTold d e kept m n (outcome_of asked (manager_of m) now) [] text (Err fault.DiskFault) =
    subst (λ (t : List ℕ). IsTold d e kept m n (outcome_of asked (manager_of m) now) t text (Err fault.DiskFault)) c.new-text.ensures.items
    (subst (λ (w : AnswerFault). IsTold d e kept m n (outcome_of asked (manager_of m) now) c.new-text.result.items text (Err w)) c.in-Err-DiskFault.field-0-is c.in-Err-DiskFault.ensures.call) in
    inr (inl (c.fault.ensures, is_broken asked now d e kept m n text told))

pub returns-clause-calls : goal.returns-clause-calls
returns-clause-calls g c =
    let d = g.D.Disk.view c.args.disk.now in
    let e = g.D.Disk.view c.answer.new.disk in
    let m = c.args.manager.now in
    let n = c.answer.new.manager in
    let kept : Type 0 = c.answer.new.disk ≡ c.args.disk.now in
    let asked = c.args.call.now in
    let now = c.args.now in
    let text = c.answer.new.out.items in
    let told : IsTold d e kept m n (outcome_of asked (manager_of m) now) [] text (Err fault.Memory) =
    subst (λ (t : List ℕ). IsTold d e kept m n (outcome_of asked (manager_of m) now) t text (Err fault.Memory)) c.new-text.ensures.items
    (subst (λ (w : AnswerFault). IsTold d e kept m n (outcome_of asked (manager_of m) now) c.new-text.result.items text (Err w)) c.in-Err-Memory.field-0-is c.in-Err-Memory.ensures.call) in
    inr (inr (c.memory.ensures.end, c.memory.ensures.text, is_not_told asked now d e kept m n text c.requires.up told))

-- What follows of it.

pub returns-in-Ok-clause-disk : goal.returns-in-Ok-clause-disk
returns-in-Ok-clause-disk g c =
    keeps c.args.call.now c.args.now (g.D.Disk.view c.args.disk.now) (g.D.Disk.view c.answer.new.disk) _ c.args.manager.now c.answer.new.manager _ c.answer.ensures.call

pub returns-in-Ok-clause-unlinked : goal.returns-in-Ok-clause-unlinked
returns-in-Ok-clause-unlinked g c none =
    told_unlinked c.args.call.now c.args.now c.args.manager.now c.answer.new.manager c.answer.ensures.call.answer c.answer.ensures.call.call.ends none

pub returns-in-Ok-clause-up : goal.returns-in-Ok-clause-up
returns-in-Ok-clause-up g c = calls_up (returns-in-Ok-clause-calls g c)

pub returns-in-Ok-clause-calm : goal.returns-in-Ok-clause-calm
returns-in-Ok-clause-calm g c = calls_calm (returns-in-Ok-clause-calls g c)

pub returns-in-Ok-clause-ends : goal.returns-in-Ok-clause-ends
returns-in-Ok-clause-ends g c = calls_end (returns-in-Ok-clause-calls g c)

pub returns-in-Ok-clause-faults : goal.returns-in-Ok-clause-faults
returns-in-Ok-clause-faults g c = calls_tell (returns-in-Ok-clause-calls g c)

pub returns-in-Err-DiskFault-clause-disk : goal.returns-in-Err-DiskFault-clause-disk
returns-in-Err-DiskFault-clause-disk g c =
    keeps c.args.call.now c.args.now (g.D.Disk.view c.args.disk.now) (g.D.Disk.view c.answer.new.disk) _ c.args.manager.now c.answer.new.manager _ c.answer.ensures.call

pub returns-in-Err-DiskFault-clause-unlinked : goal.returns-in-Err-DiskFault-clause-unlinked
returns-in-Err-DiskFault-clause-unlinked g c none =
    told_unlinked c.args.call.now c.args.now c.args.manager.now c.answer.new.manager c.answer.ensures.call.answer c.answer.ensures.call.call.ends none

pub returns-in-Err-DiskFault-clause-up : goal.returns-in-Err-DiskFault-clause-up
returns-in-Err-DiskFault-clause-up g c = calls_up (returns-in-Err-DiskFault-clause-calls g c)

pub returns-in-Err-DiskFault-clause-calm : goal.returns-in-Err-DiskFault-clause-calm
returns-in-Err-DiskFault-clause-calm g c = calls_calm (returns-in-Err-DiskFault-clause-calls g c)

pub returns-in-Err-DiskFault-clause-ends : goal.returns-in-Err-DiskFault-clause-ends
returns-in-Err-DiskFault-clause-ends g c = calls_end (returns-in-Err-DiskFault-clause-calls g c)

pub returns-in-Err-DiskFault-clause-faults : goal.returns-in-Err-DiskFault-clause-faults
returns-in-Err-DiskFault-clause-faults g c = calls_tell (returns-in-Err-DiskFault-clause-calls g c)

pub returns-clause-disk : goal.returns-clause-disk
returns-clause-disk g c =
    keeps c.args.call.now c.args.now (g.D.Disk.view c.args.disk.now) (g.D.Disk.view c.answer.new.disk) _ c.args.manager.now c.answer.new.manager _ c.answer.ensures.call

pub returns-clause-unlinked : goal.returns-clause-unlinked
returns-clause-unlinked g c none =
    told_unlinked c.args.call.now c.args.now c.args.manager.now c.answer.new.manager c.answer.ensures.call.answer c.answer.ensures.call.call.ends none

pub returns-clause-up : goal.returns-clause-up
returns-clause-up g c = calls_up (returns-clause-calls g c)

pub returns-clause-calm : goal.returns-clause-calm
returns-clause-calm g c = calls_calm (returns-clause-calls g c)

pub returns-clause-ends : goal.returns-clause-ends
returns-clause-ends g c = calls_end (returns-clause-calls g c)

pub returns-clause-faults : goal.returns-clause-faults
returns-clause-faults g c = calls_tell (returns-clause-calls g c)
