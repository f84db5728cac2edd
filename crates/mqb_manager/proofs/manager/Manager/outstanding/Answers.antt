use Rattle.std.proofs.Common.{ap, false, sym, ◌∙◌}
use Rattle.std.specs.List.{list_any}
use Rattle.std.specs.Option.{option_map_or}
use Rattle.std.specs.Prelude.{List, slice_get}
use Rattle.mqb_model.specs.managers.Manager.{linked_peer}
use Rattle.mqb_model.specs.managers.Readers.{awaits, has_plain}
use Rattle.mqb_model.specs.state.State.{State}
use Rattle.mqb_orders.specs.Rows.{Row}
use Rattle.mqb_manager.proofs.Linking.{any_row, outstanding_is}
use Rattle.mqb_manager.proofs.manager.Manager.outstanding.Goals as goal

pub returns-else-has_plain : goal.returns-else-has_plain
returns-else-has_plain c =
    let m = c.self.inside in let k = c.linked_peer-peer.result in let state = c.state-state.ensures.state in
    outstanding_is c.args.self.now m.store m.session c.in-Some.session k m.cursors.items m.owes.items c.any_awaits.result c.self.view_is c.in-Some.is
    (c.linked_peer-peer.ensures ∙ ap (λ (s : State). linked_peer s c.in-Some.session) state)
    (ap (λ (s : State). option_map_or has_plain (slice_get s.plain k) false) (sym state) ∙ sym c.has_plain.ensures ∙ c.if-has_plain.false)
    (c.any_awaits.ensures ∙ any_row (awaits k) c.out_rows.result.now
    ∙ ap (λ (rows : List Row). list_any (awaits k) rows) (c.out_rows.ensures ∙ ap (λ (s : State). s.outs) state))
