use Rattle.std.proofs.Common.{ap, sym, ◌∙◌}
use Rattle.mqb_model.specs.calls.Link.{session_for}
use Rattle.mqb_model.specs.state.State.{State}
use Rattle.mqb_manager.proofs.Linking.{link_valid}
use Rattle.mqb_manager.proofs.manager.Manager.link.Goals as goal

pub invariant_of-self : goal.invariant_of-self
invariant_of-self c = let m = c.self.inside in
    link_valid m.store m.session m.cursors.items m.owes.items c.linked_is_valid.ensures c.args.role c.args.window c.in-Some.session c.self.invariant
    (sym c.is_down.ensures ∙ c.if-is_down.false) (sym c.is_some.ensures ∙ c.if-is_some.false)
    (ap (λ (s : State). session_for s c.args.role c.args.window) (sym c.state.ensures.state) ∙ sym c.session_for.ensures ∙ c.in-Some.is)
