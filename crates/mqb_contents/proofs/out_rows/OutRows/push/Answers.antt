use Rattle.std.proofs.Common.{◌≡◌, ◌≤◌, ◌∷◌, [], List, length, map, sym, ◌∙◌, subst}
use Rattle.std.specs.List.{All}
use Rattle.std.proofs.lemmas.List.{length-map, map-append}
use Rattle.std.proofs.lemmas.List.Elements.{All-append, All-cons, All-nil}
use Rattle.mqb_base.specs.Rooms.{Room}
use Rattle.mqb_base.specs.declared.roomed.TheConstants.{MAX_MEMBERS}
use Rattle.mqb_contents.specs.Rows.{KeepsCommitted}
use Rattle.mqb_tables.specs.Tables.{AreNumbered, LeadsToLast}
use Rattle.mqb_orders.specs.Rows.{Row, row_of}
use Rattle.mqb_orders.specs.declared.rows.OutRow.{OutRow}
use Rattle.mqb_contents.proofs.InUse.{in_use_more}
use Rattle.mqb_tables.proofs.Numbering.{numbered_more}
use Rattle.mqb_contents.proofs.out_rows.OutRows.push.Goals as goal

pub invariant_of-self : goal.invariant_of-self
invariant_of-self c =
    let items : List OutRow = c.self.inside.rows.items in
    let x : OutRow = c.into_row-row.result in
    let number : c.len.result ≡ length (map row_of items) = c.len.ensures.len ∙ sym (length-map items row_of) in
    let kept : KeepsCommitted (row_of x) = subst KeepsCommitted (sym c.into_row-row.ensures.row) (All-nil (λ k. k.number ≤ 0)) in (
      subst (λ (r : Room OutRow). r.room ≤ MAX_MEMBERS) (sym c.push.ensures) c.self.invariant.0,
      subst (λ (r : Room OutRow). All (λ y. KeepsCommitted (row_of y)) r.items) (sym c.push.ensures)
          (All-append (λ y. KeepsCommitted (row_of y)) items (x ∷ []) c.self.invariant.1
          (All-cons (λ y. KeepsCommitted (row_of y)) x [] kept (All-nil (λ y. KeepsCommitted (row_of y))))),
      subst (λ (r : Room OutRow). AreNumbered (map row_of r.items) r.room c.enter.new.ordinals) (sym c.push.ensures)
          (subst (λ (rs : List Row). AreNumbered rs c.self.inside.rows.room c.enter.new.ordinals) (sym (map-append row_of items (x ∷ [])))
          (numbered_more (map row_of items) (row_of x) c.self.inside.rows.room c.len.result c.self.inside.ordinals c.enter.new.ordinals number
          (record { kept = c.enter.ensures.kept; entered = c.enter.ensures.entered; own = c.enter.ensures.own }) c.enter.ensures.few c.enter.ensures.room c.self.invariant.2)),
      subst (λ (r : Room OutRow). LeadsToLast (map row_of r.items) c.lead.new.in_use) (sym c.push.ensures)
          (subst (λ (rs : List Row). LeadsToLast rs c.lead.new.in_use) (sym (map-append row_of items (x ∷ [])))
          (in_use_more (map row_of items) (row_of x) c.self.inside.in_use c.lead.new.in_use c.lead.ensures.updates c.self.invariant.3)),
    )
