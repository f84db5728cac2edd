use Rattle.std.proofs.Common.{◌≡◌, IfSome, List, OnOk, Result, Some, ap, subst, sym, ◌∙◌}
use Rattle.std.proofs.lemmas.Result.{err_from_is_err_and}
use Rattle.mqb_outside.specs.Disk.{Counted}
use Rattle.mqb_entries.specs.declared.entry.Entry.TheVariants as form
use Rattle.mqb_model.specs.calls.Commit.{commit}
use Rattle.mqb_model.specs.declared.answers.Done.{Done}
use Rattle.mqb_model.specs.declared.faults.CommitFault.{CommitFault}
use Rattle.mqb_model.specs.declared.faults.CommitFault.TheVariants as fault
use Rattle.mqb_model.specs.managers.Beside.{Nothing}
use Rattle.mqb_model.specs.state.State.{State}
use Rattle.mqb_store.specs.Writing.{change_in}
use Rattle.mqb_trying.specs.Trying.{IsRefusedBy, tried}
use Rattle.mqb_manager.specs.Calls.{IsCall}
use Rattle.mqb_manager.specs.States.{manager_of}
use Rattle.mqb_manager.proofs.Calls.{call_answered, memory_answered}
use Rattle.mqb_manager.proofs.Commit.{commit_is, commit_ready, commit_refused, counted_answered, trial_of_store}
use Rattle.mqb_manager.proofs.manager.Manager.commit.Goals as goal

pub returns-in_err-trial-clause-call : goal.returns-in_err-trial-clause-call
returns-in_err-trial-clause-call g c =
    let m = c.args.self.now in
    let d = g.D.Disk.view c.args.disk.now in
    let p = err_from_is_err_and c.from_residual.result c.from_residual.ensures.1 in
    subst (λ (r : Result (List Done) CommitFault). IsCall fault.Memory fault.DiskFault d d m m (commit (manager_of m) c.args.ops.now c.args.now) r) (sym p.1)
    (commit_refused d m c.args.ops.now c.args.now p.0 (g.met.D.Disk.lawful c.args.disk.now) c.is_valid.ensures (sym c.is_down.ensures ∙ c.if-is_down.false)
    (subst (λ (s : State). IsRefusedBy (tried s c.args.now c.args.ops.now) p.0) (ap (λ w. w.lists) c.contents-contents.ensures ∙ c.state.ensures.state ∙ ap (λ m. m.store.state) c.self.view_is)
    (subst (IsRefusedBy (tried c.contents-contents.result.now.lists c.args.now c.args.ops.now)) (sym p.2) c.in_err-trial.ensures.refused)))

pub write_trial-written-requires : goal.write_trial-written-requires
write_trial-written-requires g c = let laws = c.calls_can_be_written.ensures in let t = c.in_ok-trial.ensures in
    commit_ready c.args.ops.now c.args.now c.in_ok-trial.trial (g.D.Disk.view c.args.disk.now) c.args.self.now laws.fit laws.valid laws.stored
    c.is_valid.ensures c.requires (sym c.is_down.ensures ∙ c.if-is_down.false) c.ops_fit.ensures
    (trial_of_store c.args.ops.now c.args.now c.in_ok-trial.trial c.contents-contents.result.now.lists c.args.self.now.store.state
    (ap (λ w. w.lists) c.contents-contents.ensures ∙ c.state.ensures.state ∙ ap (λ m. m.store.state) c.self.view_is) t.planned t.read) t.put t.size

pub returns-clause-call : goal.returns-clause-call
returns-clause-call g c = let m = c.args.self.now in let t = c.in_ok-trial.ensures in
    call_answered c.into_committed.result fault.Memory fault.DiskFault (g.D.Disk.view c.args.disk.now) (g.D.Disk.view c.write_trial-written.new.disk) m
    c.write_trial-written.new.self (change_in (Some (form.Commit c.args.now c.in_ok-trial.trial.ops))) Nothing (commit (manager_of m) c.args.ops.now c.args.now)
    c.write_trial-written.result c.answer.result
    (λ same. let none : ⊥ = cc in none)
    (commit_is c.args.ops.now c.args.now c.in_ok-trial.trial (manager_of m) c.into_committed.result c.into_committed.ensures
    (sym c.is_down.ensures ∙ c.if-is_down.false)
    (trial_of_store c.args.ops.now c.args.now c.in_ok-trial.trial c.contents-contents.result.now.lists m.store.state (ap (λ w. w.lists) c.contents-contents.ensures ∙ c.state.ensures.state ∙ ap (λ m. m.store.state) c.self.view_is) t.planned t.read))
    c.write_trial-written.ensures.call c.answer.ensures

pub returns-clause-calls : goal.returns-clause-calls
returns-clause-calls g c = let m = c.args.self.now in
    let P = Counted 4 (g.D.Disk.view c.args.disk.now).calls (g.D.Disk.view c.write_trial-written.new.disk).calls in
    let o = (commit (manager_of m) c.args.ops.now c.args.now).entry in
    subst (λ (r : Result (List Done) CommitFault). OnOk r (IfSome o (λ _. P))) (sym c.answer.ensures)
    (counted_answered c.into_committed.result fault.Memory fault.DiskFault o P c.write_trial-written.result c.write_trial-written.ensures.calls)

pub returns-clause-memory : goal.returns-clause-memory
returns-clause-memory g c =
    memory_answered c.into_committed.result fault.Memory fault.DiskFault (c.write_trial-written.new.disk ≡ c.args.disk.now) c.write_trial-written.result c.answer.result
    (λ same. let none : ⊥ = cc in none) c.write_trial-written.ensures.memory c.answer.ensures
