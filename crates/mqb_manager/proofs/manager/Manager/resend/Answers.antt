use Rattle.std.proofs.Common.{ap, map, ◌∙◌}
use Rattle.std.specs.List.{zip}
use Rattle.std.specs.Prelude.{List}
use Rattle.mqb_model.specs.calls.Link.{begun_anew}
use Rattle.mqb_model.specs.managers.Manager.{linked_peer}
use Rattle.mqb_model.specs.state.State.{State}
use Rattle.mqb_orders.specs.Rows.{Row}
use Rattle.mqb_manager.proofs.Linking.{anew_left, anew_valid}
use Rattle.mqb_manager.proofs.manager.Manager.resend.Goals as goal

pub invariant_of-self : goal.invariant_of-self
invariant_of-self c = let m = c.self.inside in let k = c.linked_peer-peer.result in
    anew_valid c.resent_is_valid.ensures m.store m.session c.in-Some.session k m.cursors.items c.rewind.new.cursors.items m.owes.items c.in-Some.is c.self.invariant
    (c.linked_peer-peer.ensures ∙ ap (λ (s : State). linked_peer s c.in-Some.session) c.state-state.ensures.state)
    (c.rewind.ensures ∙ ap (λ (rows : List Row). map (begun_anew k) (zip rows m.cursors.items)) (c.out_rows.ensures ∙ ap (λ (s : State). s.outs) c.state-state.ensures.state))

pub returns-in-Some-clause-left : goal.returns-in-Some-clause-left
returns-in-Some-clause-left c = let m = c.self.inside in let k = c.linked_peer-peer.result in
    anew_left c.args.self.now m.store m.session c.in-Some.session k m.cursors.items c.rewind.new.cursors.items m.owes.items c.self.view_is c.in-Some.is c.self.invariant
    (c.linked_peer-peer.ensures ∙ ap (λ (s : State). linked_peer s c.in-Some.session) c.state-state.ensures.state)
    (c.rewind.ensures ∙ ap (λ (rows : List Row). map (begun_anew k) (zip rows m.cursors.items)) (c.out_rows.ensures ∙ ap (λ (s : State). s.outs) c.state-state.ensures.state))
