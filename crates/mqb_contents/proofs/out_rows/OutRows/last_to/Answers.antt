use Rattle.std.proofs.Common.{◌≡◌, ℕ, ◌≤◌, false, true, List, None, filter, length, map, sym, ap, ◌∙◌, subst, arith}
use Rattle.std.specs.List.{last_or}
use Rattle.std.specs.Option.{option_and_then, option_copied, option_map_or}
use Rattle.std.specs.Prelude.{slice_get}
use Rattle.std.proofs.lemmas.List.{length-map}
use Rattle.indexmap.specs.IndexMap.{index_map_len}
use Rattle.mqb_base.specs.Rooms.{WithRooms}
use Rattle.mqb_orders.specs.Rows.{Row, leads_to, row_of}
use Rattle.mqb_orders.specs.declared.keys.OutKey.{OutKey}
use Rattle.mqb_orders.specs.declared.rows.OutRow.{OutRow}
use Rattle.mqb_contents.specs.Rooms.{OutRooms}
use Rattle.mqb_contents.proofs.InUse.{last_at_place, no_last, none_in_use, none_numbered}
use Rattle.mqb_contents.proofs.out_rows.OutRows.last_to.Goals as goal

pub returns-in_err-ordinal-clause-row : goal.returns-in_err-ordinal-clause-row
returns-in_err-ordinal-clause-row c =
    let i = c.self.inside in
    let f = c.if-len.false in
    let key : OutKey = record { peer = c.args.peer; destination = c.args.destination.now } in
    let all : length (map row_of i.rows.items) ≤ index_map_len i.ordinals = omega (arith, c.len.ensures.len, c.len-2.ensures.len, c.if-len.false, length-map i.rows.items row_of) in
    subst (λ (w : WithRooms (List Row) OutRooms). option_and_then (slice_get w.lists) c.from_residual.result ≡ last_or None (filter (leads_to c.args.peer c.args.destination.now) w.lists))
    c.self.view_is
    (ap (option_and_then (slice_get (map row_of i.rows.items))) c.from_residual.ensures
    ∙ sym (none_in_use (map row_of i.rows.items) key i.in_use i.ordinals c.self.invariant.3 c.self.invariant.2.leads (c.self.invariant.2.own all) (sym c.number_of.ensures ∙ c.in_err-ordinal.was)))

pub returns-in_err-row-clause-row : goal.returns-in_err-row-clause-row
returns-in_err-row-clause-row c =
    let i = c.self.inside in
    let key : OutKey = record { peer = c.args.peer; destination = c.args.destination.now } in
    let all : length (map row_of i.rows.items) ≤ index_map_len i.ordinals = omega (arith, c.len.ensures.len, c.len-2.ensures.len, c.if-len.false, length-map i.rows.items row_of) in
    subst (λ (w : WithRooms (List Row) OutRooms). option_and_then (slice_get w.lists) c.from_residual-in_err-row.result
    ≡ last_or None (filter (leads_to c.args.peer c.args.destination.now) w.lists)) c.self.view_is
    (ap (option_and_then (slice_get (map row_of i.rows.items))) c.from_residual-in_err-row.ensures
    ∙ sym (none_numbered (map row_of i.rows.items) key i.in_use i.ordinals c.self.invariant.3 c.self.invariant.2.leads (c.self.invariant.2.own all) c.in_ok-ordinal.ordinal
    (sym c.number_of.ensures ∙ c.in_ok-ordinal.was) (sym c.get.ensures.value ∙ ap option_copied c.in_err-row.was)))

pub returns-then-leads_there-clause-row : goal.returns-then-leads_there-clause-row
returns-then-leads_there-clause-row c =
    let i = c.self.inside in
    let rows : List Row = map row_of i.rows.items in
    let n : ℕ = c.in_ok-row.field-0.now in
    let key : OutKey = record { peer = c.args.peer; destination = c.args.destination.now } in
    let all : length (map row_of i.rows.items) ≤ index_map_len i.ordinals = omega (arith, c.len.ensures.len, c.len-2.ensures.len, c.if-len.false, length-map i.rows.items row_of) in
    let passes : option_map_or (leads_to c.args.peer c.args.destination.now) (slice_get rows n) false ≡ true =
    ap (λ (l : List OutRow). option_map_or (leads_to c.args.peer c.args.destination.now) (slice_get (map row_of l) n) false) (sym c.as_slice-2.ensures.items)
    ∙ (sym c.leads_there.ensures ∙ c.if-leads_there.true) in
    subst (λ (w : WithRooms (List Row) OutRooms). slice_get w.lists n ≡ last_or None (filter (leads_to c.args.peer c.args.destination.now) w.lists)) c.self.view_is
    (last_at_place rows key i.in_use i.ordinals c.self.invariant.3 c.self.invariant.2.leads (c.self.invariant.2.own all) c.in_ok-ordinal.ordinal
    (sym c.number_of.ensures ∙ c.in_ok-ordinal.was) n (sym c.get.ensures.value ∙ ap option_copied c.in_ok-row.was) passes)

pub returns-else-leads_there-clause-row : goal.returns-else-leads_there-clause-row
returns-else-leads_there-clause-row c =
    let i = c.self.inside in
    let rows : List Row = map row_of i.rows.items in
    let n : ℕ = c.in_ok-row.field-0.now in
    let key : OutKey = record { peer = c.args.peer; destination = c.args.destination.now } in
    let all : length (map row_of i.rows.items) ≤ index_map_len i.ordinals = omega (arith, c.len.ensures.len, c.len-2.ensures.len, c.if-len.false, length-map i.rows.items row_of) in
    let fails : option_map_or (leads_to c.args.peer c.args.destination.now) (slice_get rows n) false ≡ false =
    ap (λ (l : List OutRow). option_map_or (leads_to c.args.peer c.args.destination.now) (slice_get (map row_of l) n) false) (sym c.as_slice-2.ensures.items)
    ∙ (sym c.leads_there.ensures ∙ c.if-leads_there.false) in
    subst (λ (w : WithRooms (List Row) OutRooms). None ≡ last_or None (filter (leads_to c.args.peer c.args.destination.now) w.lists)) c.self.view_is
    (sym (no_last rows key i.in_use i.ordinals c.self.invariant.3 c.self.invariant.2.leads (c.self.invariant.2.own all) c.in_ok-ordinal.ordinal
    (sym c.number_of.ensures ∙ c.in_ok-ordinal.was) n (sym c.get.ensures.value ∙ ap option_copied c.in_ok-row.was) fails))
