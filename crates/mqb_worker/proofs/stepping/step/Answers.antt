use Rattle.std.proofs.Common.{◌≡◌, IfSome, Option, ap, subst, sym, ◌∙◌}
use Rattle.mqb_base.specs.Messages.{IsWellFormed}
use Rattle.mqb_base.specs.declared.message.Message.{Message}
use Rattle.mqb_model.specs.state.State.{State}
use Rattle.mqb_replies.specs.mqb_manager.States.{manager_of}
use Rattle.mqb_worker.proofs.Calls.{call_refused, call_tells, is_made, stepped_works, wants_ops}
use Rattle.mqb_worker.proofs.Formed.{waiting_is_formed}
use Rattle.mqb_worker.proofs.stepping.step.Goals as goal
use Rattle.mqb_worker.specs.Work.{is_idle, waiting_in, work_with}

pub work_with-requires : goal.work_with-requires
work_with-requires g c =
    let m = c.args.manager.now in
    let kept : c.contents-contents.result.now.lists ≡ m.store.state = ap (λ w. w.lists) c.contents-contents.ensures ∙ c.state.ensures in
    let waits = c.waiting_in-waiting.ensures ∙ ap (λ (s : State). waiting_in s c.args.queue.now c.args.now) kept in
    subst (λ (o : Option Message). IfSome o IsWellFormed) (sym waits) (waiting_is_formed m.store.state c.args.queue.now c.args.now c.is_valid.ensures.state)

pub returns-in_default-clause-call : goal.returns-in_default-clause-call
returns-in_default-clause-call g c =
    wants_ops (g.D.Disk.view c.args.disk.now) c.args.manager.now c.args.queue.now (g.H.Handler.meaning c.args.handler.now) c.args.now (g.met.D.Disk.lawful c.args.disk.now)

pub returns-clause-call : goal.returns-clause-call
returns-clause-call g c =
    let m = c.args.manager.now in
    let h = g.H.Handler.meaning c.args.handler.now in
    let kept : c.contents-contents.result.now.lists ≡ m.store.state = ap (λ w. w.lists) c.contents-contents.ensures ∙ c.state.ensures in
    let waits = c.waiting_in-waiting.ensures ∙ ap (λ (s : State). waiting_in s c.args.queue.now c.args.now) kept in
    let busy = sym (c.is_idle.ensures ∙ ap (λ (s : State). is_idle s c.args.queue.now c.args.now) kept) ∙ c.if-is_idle.false in
    is_made (g.D.Disk.view c.args.disk.now) m c.args.queue.now h c.args.now (g.D.Disk.view c.commit.new.disk) c.commit.new.self c.as_slice.result.now c.commit.result c.step_answer.result
    c.step_answer.ensures
    (stepped_works (manager_of m) c.args.queue.now h c.args.now (sym c.is_down.ensures ∙ c.if-is_down.false) busy c.as_slice.result.now
    (c.as_slice.ensures.value ∙ c.in-Ok.ensures ∙ ap (work_with c.args.queue.now h) waits))
    c.commit.ensures.call

pub returns-clause-done : goal.returns-clause-done
returns-clause-done g c =
    call_tells (g.D.Disk.view c.args.disk.now) c.args.manager.now c.args.queue.now (g.H.Handler.meaning c.args.handler.now) c.args.now (g.D.Disk.view c.commit.new.disk) c.commit.new.self
    c.step_answer.result (returns-clause-call g c)

pub returns-clause-refused : goal.returns-clause-refused
returns-clause-refused g c =
    call_refused (g.D.Disk.view c.args.disk.now) c.args.manager.now c.args.queue.now (g.H.Handler.meaning c.args.handler.now) c.args.now (g.D.Disk.view c.commit.new.disk) c.commit.new.self
    c.step_answer.result (returns-clause-call g c)
