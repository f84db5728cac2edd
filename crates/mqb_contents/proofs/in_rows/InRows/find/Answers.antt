use Rattle.std.proofs.Common.{◌≡◌, ◌<◌, false, true, List, None, Some, length, sym, ap, ◌∙◌, subst}
use Rattle.std.specs.List.{position}
use Rattle.std.specs.Option.{option_map_or}
use Rattle.std.specs.Prelude.{slice_get}
use Rattle.mqb_base.specs.Rooms.{WithRooms}
use Rattle.mqb_tables.specs.mqb_model.state.Rows.{is_row_of}
use Rattle.mqb_orders.specs.declared.keys.InKey.{InKey}
use Rattle.mqb_orders.specs.declared.rows.InRow.{InRow}
use Rattle.mqb_contents.specs.Rooms.{InRooms}
use Rattle.mqb_contents.proofs.Sources.{entered_else, entered_row, not_entered, source_within}
use Rattle.mqb_contents.proofs.in_rows.InRows.find.Goals as goal
use Rattle.mqb_contents.proofs.in_rows.InRows.find.Goals.{Then-is_row_of, Else-is_row_of}

pub returns-in_err-row-clause-index : goal.returns-in_err-row-clause-index
returns-in_err-row-clause-index c =
    let i = c.self.inside in
    let key : InKey = record { source = c.args.source; destination = c.args.destination.now } in
    c.from_residual.ensures
    ∙ sym (subst (λ (w : WithRooms (List InRow) InRooms). position (is_row_of c.args.source c.args.destination.now) w.lists ≡ None) c.self.view_is
    (not_entered i.rows.items key i.sources c.self.invariant.1 (sym c.number_of.ensures ∙ c.in_err-row.was)))

module _ (c : Then-is_row_of) where
  passes : option_map_or (is_row_of c.args.source c.args.destination.now) (slice_get c.self.inside.rows.items c.in_ok-row.row) false ≡ true
  passes =
      ap (λ (l : List InRow). option_map_or (is_row_of c.args.source c.args.destination.now) (slice_get l c.in_ok-row.row) false) (sym c.as_slice.ensures.items)
      ∙ (sym c.is_row_of.ensures ∙ c.if-is_row_of.true)

  found : position (is_row_of c.args.source c.args.destination.now) c.self.inside.rows.items ≡ Some c.in_ok-row.row
  found = entered_row c.self.inside.rows.items (record { source = c.args.source; destination = c.args.destination.now }) c.self.inside.sources c.self.invariant.1 c.in_ok-row.row
      (sym c.number_of.ensures ∙ c.in_ok-row.was) passes

pub returns-then-is_row_of-clause-index : goal.returns-then-is_row_of-clause-index
returns-then-is_row_of-clause-index c =
    sym (subst (λ (w : WithRooms (List InRow) InRooms). position (is_row_of c.args.source c.args.destination.now) w.lists ≡ Some c.in_ok-row.row) c.self.view_is (found c))

pub returns-then-is_row_of-clause-within : goal.returns-then-is_row_of-clause-within
returns-then-is_row_of-clause-within c =
    subst (λ (w : WithRooms (List InRow) InRooms). c.in_ok-row.row < length w.lists) c.self.view_is
    (source_within (record { source = c.args.source; destination = c.args.destination.now }) c.self.inside.rows.items c.in_ok-row.row (found c))

pub returns-else-is_row_of-clause-index : goal.returns-else-is_row_of-clause-index
returns-else-is_row_of-clause-index c =
    let i = c.self.inside in
    let key : InKey = record { source = c.args.source; destination = c.args.destination.now } in
    let fails : option_map_or (is_row_of c.args.source c.args.destination.now) (slice_get i.rows.items c.in_ok-row.row) false ≡ false =
    ap (λ (l : List InRow). option_map_or (is_row_of c.args.source c.args.destination.now) (slice_get l c.in_ok-row.row) false) (sym c.as_slice.ensures.items)
    ∙ (sym c.is_row_of.ensures ∙ c.if-is_row_of.false) in
    sym (subst (λ (w : WithRooms (List InRow) InRooms). position (is_row_of c.args.source c.args.destination.now) w.lists ≡ None) c.self.view_is
    (entered_else i.rows.items key i.sources c.self.invariant.1 c.in_ok-row.row (sym c.number_of.ensures ∙ c.in_ok-row.was) fails))
