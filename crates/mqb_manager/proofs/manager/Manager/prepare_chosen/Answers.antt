use Rattle.std.proofs.Common.{◌≡◌, All, map, ap, subst, sym, ◌∙◌}
use Rattle.std.specs.Prelude.{IfOk}
use Rattle.mqb_choosing.specs.Choices.{IsThere, shown_in}
use Rattle.mqb_model.specs.calls.pump.Pump.{marks_for}
use Rattle.mqb_model.specs.state.State.{State}
use Rattle.mqb_manager.specs.States.{ManagerState}
use Rattle.mqb_manager.proofs.manager.Manager.prepare_chosen.Goals as goal

pub prepare_sending-requires : goal.prepare_sending-requires
prepare_sending-requires c =
    let is : c.contents-contents.result.now.lists ≡ c.args.self.now.store.state =
    ap (λ w. w.lists) c.contents-contents.ensures ∙ c.state.ensures.state ∙ ap (λ (x : ManagerState). x.store.state) c.self.view_is in
    subst (λ (s : State). All (IsThere s) c.args.sending.now.choices.choices) (sym is) c.requires

pub returns-clause-marks : goal.returns-clause-marks
returns-clause-marks c =
    let is : c.contents-contents.result.now.lists ≡ c.args.self.now.store.state =
    ap (λ w. w.lists) c.contents-contents.ensures ∙ c.state.ensures.state ∙ ap (λ (x : ManagerState). x.store.state) c.self.view_is in
    subst (λ (s : State). IfOk c.prepare_sending.result (λ marks. marks.items ≡ marks_for s (map (λ given. given.0) (shown_in s c.args.sending.now.choices.choices)))) is c.prepare_sending.ensures.marks
