use Rattle.std.proofs.Common.{◌≡◌, ◌≤◌, ◌∷◌, ◌++◌, [], List, sym, ap, ◌∙◌, subst}
use Rattle.std.specs.List.{position}
use Rattle.mqb_base.specs.Rooms.{Room, WithRooms}
use Rattle.mqb_base.specs.declared.roomed.TheConstants.{MAX_MEMBERS}
use Rattle.mqb_orders.specs.declared.rows.InRow.{InRow}
use Rattle.mqb_tables.specs.mqb_model.state.Rows.{is_row_of}
use Rattle.mqb_tables.proofs.Keyed.{none_from, some_from}
use Rattle.mqb_contents.specs.Rooms.{InRooms}
use Rattle.mqb_contents.specs.declared.in_rows.InRows.TheInside.{Inside}
use Rattle.mqb_tables.specs.Tables.{LeadsToSource}
use Rattle.mqb_contents.proofs.Sources.{sources_again, sources_more}
use Rattle.mqb_contents.proofs.in_rows.InRows.push.Goals as goal
use Rattle.mqb_contents.proofs.in_rows.InRows.push.Goals.{then-is_none, else-is_none}

pub invariant_of-self : goal.invariant_of-self
invariant_of-self c =
    let i = c.self.inside in
    let r : InRow = c.args.row in
    let found : position (is_row_of r.source r.destination) i.rows.items ≡ c.find.result =
    ap (λ (w : WithRooms (List InRow) InRooms). position (is_row_of r.source r.destination) w.lists) c.self.view_is ∙ sym c.find.ensures.index in
    subst (λ (l : Room InRow). (l.room ≤ MAX_MEMBERS) × LeadsToSource l.items c.if-is_none.self-inside.sources) (sym c.push.ensures)
    (elim c.if-is_none.branch [
      | then-is_none w ↦
          subst (λ (j : Inside). (j.rows.room ≤ MAX_MEMBERS) × LeadsToSource (j.rows.items ++ r ∷ []) j.sources) (sym w.self-inside-is) (
            c.self.invariant.0,
            sources_more i.rows.items r w.len.result i.sources w.lead.new.sources w.len.ensures.len (found ∙ none_from c.find.result w.if-is_none.ensures) w.lead.ensures.updates c.self.invariant.1,
          )
      | else-is_none w ↦
          let known = some_from c.find.result w.if-is_none.ensures in
          subst (λ (j : Inside). (j.rows.room ≤ MAX_MEMBERS) × LeadsToSource (j.rows.items ++ r ∷ []) j.sources) (sym w.self-inside-is)
          (c.self.invariant.0, sources_again i.rows.items r known.0 i.sources (found ∙ known.1) c.self.invariant.1)
    ])
