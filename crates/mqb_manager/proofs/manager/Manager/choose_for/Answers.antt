use Rattle.std.proofs.Common.{◌≡◌, ◌<◌, ◌≤◌, Bool, List, false, length, ℕ, ap, subst, sym, ◌∙◌}
use Rattle.std.specs.Prelude.{◌==◌, IfOk, not}
use Rattle.mqb_choosing.specs.Going.{any_waits, candidates_to, known}
use Rattle.mqb_model.specs.Lists.{grown}
use Rattle.mqb_model.specs.managers.Valid.{IsExpressValid}
use Rattle.mqb_model.specs.state.State.{State}
use Rattle.mqb_model.specs.state.Valid.{IsValidState}
use Rattle.mqb_choosing.proofs.Rests.{within}
use Rattle.mqb_choosing.specs.Plans as plans
use Rattle.mqb_manager.specs.Pumps.{IsPlanned, waiting_for}
use Rattle.mqb_manager.specs.States.{ManagerState}
use Rattle.mqb_manager.proofs.manager.Manager.choose_for.Goals as goal

pub plan_sending-requires : goal.plan_sending-requires
plan_sending-requires c =
    let m = c.self.inside in
    let is : c.contents-contents.result.now.lists ≡ m.store.state = ap (λ w. w.lists) c.contents-contents.ensures ∙ c.state.ensures.state in
    let to : c.args.self.now.store.state ≡ m.store.state = sym (ap (λ (x : ManagerState). x.store.state) c.self.view_is) in
    record {
      valid = subst IsValidState (sym is) c.self.invariant.state;
      express = subst IsExpressValid (sym is) c.self.invariant.express;
      cursors = subst (λ (ns : List ℕ). length ns ≤ length c.contents-contents.result.now.lists.outs) (sym c.deref.ensures.value)
          (subst (λ (s : State). length m.cursors.items ≤ length s.outs) (sym is) (within 0 (length m.store.state.outs) m.cursors.items c.self.invariant.cursors));
      owes = subst (λ (bs : List Bool). length bs ≤ length c.contents-contents.result.now.lists.ins) (sym c.deref-2.ensures.value)
          (subst (λ (s : State). length m.owes.items ≤ length s.ins) (sym is) (within false (length m.store.state.ins) m.owes.items c.self.invariant.owes));
      peer = subst (λ (s : State). c.args.peer < length s.peers) (to ∙ sym is) c.requires;
    }

pub returns-clause-planned : goal.returns-clause-planned
returns-clause-planned c =
    let m = c.self.inside in
    let kept = c.contents-contents.result.now.lists in
    let is : kept ≡ m.store.state = ap (λ w. w.lists) c.contents-contents.ensures ∙ c.state.ensures.state in
    subst (λ (k : ManagerState). IfOk c.plan_sending.result (λ s. IsPlanned k c.args.session c.args.now s.peer s.choices s.cursors.items s.owes.items)) c.self.view_is
    (subst (λ (t : State). IfOk c.plan_sending.result (λ s. plans.IsPlanned t c.args.session (grown 0 (length t.outs) m.cursors.items) (grown false (length t.ins) m.owes.items)
    c.args.now s.peer s.choices s.cursors.items s.owes.items)) is
    (subst (λ (bs : List Bool). IfOk c.plan_sending.result (λ s. plans.IsPlanned kept c.args.session (grown 0 (length kept.outs) m.cursors.items) (grown false (length kept.ins) bs)
    c.args.now s.peer s.choices s.cursors.items s.owes.items)) c.deref-2.ensures.value
    (subst (λ (ns : List ℕ). IfOk c.plan_sending.result (λ s. plans.IsPlanned kept c.args.session (grown 0 (length kept.outs) ns) (grown false (length kept.ins) c.deref-2.result.now)
    c.args.now s.peer s.choices s.cursors.items s.owes.items)) c.deref.ensures.value c.plan_sending.ensures.planned)))

pub returns-clause-any : goal.returns-clause-any
returns-clause-any c =
    let m = c.self.inside in
    let kept = c.contents-contents.result.now.lists in
    let is : kept ≡ m.store.state = ap (λ w. w.lists) c.contents-contents.ensures ∙ c.state.ensures.state in
    subst (λ (k : ManagerState). IfOk c.plan_sending.result (λ s. any_waits s.choices ≡ not (length (waiting_for k c.args.session c.args.now s.peer) == 0))) c.self.view_is
    (subst (λ (t : State). IfOk c.plan_sending.result (λ s. any_waits s.choices ≡ not (length (candidates_to t (known c.args.session (grown 0 (length t.outs) m.cursors.items)
    (grown false (length t.ins) m.owes.items)) c.args.now s.peer) == 0))) is
    (subst (λ (bs : List Bool). IfOk c.plan_sending.result (λ s. any_waits s.choices ≡ not (length (candidates_to kept (known c.args.session (grown 0 (length kept.outs) m.cursors.items)
    (grown false (length kept.ins) bs)) c.args.now s.peer) == 0))) c.deref-2.ensures.value
    (subst (λ (ns : List ℕ). IfOk c.plan_sending.result (λ s. any_waits s.choices ≡ not (length (candidates_to kept (known c.args.session (grown 0 (length kept.outs) ns)
    (grown false (length kept.ins) c.deref-2.result.now)) c.args.now s.peer) == 0))) c.deref.ensures.value c.plan_sending.ensures.any)))
