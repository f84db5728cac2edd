use Rattle.std.proofs.Common.{◌≤◌, insert, sym, ap, subst}
use Rattle.std.proofs.lemmas.List.Elements.{All-set}
use Rattle.indexmap.specs.IndexMap.{keys}
use Rattle.mqb_contents.specs.Rows.{CanKeep, KeepsCommitted, keeping}
use Rattle.mqb_contents.specs.Seen.{room_of}
use Rattle.mqb_orders.specs.Rows.{Row, row_of}
use Rattle.mqb_orders.specs.declared.rows.OutRow.{OutRow}
use Rattle.mqb_contents.proofs.InUse.{in_use_written, members_of, rows_changed, tag}
use Rattle.mqb_tables.proofs.Lens.{fact_there}
use Rattle.mqb_tables.proofs.Members.{all_at, all_insert}
use Rattle.mqb_tables.proofs.Numbering.{numbered_written}
use Rattle.mqb_contents.proofs.out_rows.OutRows.insert_kept.Goals as goal

pub invariant_of-self : goal.invariant_of-self
invariant_of-self c =
    let x : OutRow = c.get_mut.result.now in
    let kept : KeepsCommitted (row_of x) = all_at (λ r. KeepsCommitted (row_of r)) c.self.inside.rows.items c.args.row x c.get_mut.ensures.value c.self.invariant.1 in
    let can : CanKeep c.args.index c.args.kept (row_of x) =
    fact_there row_of room_of c.self.inside.rows (members_of c.args.self.now) (ap members_of c.self.view_is) c.args.row c.get_mut.result.now c.get_mut.ensures.value (CanKeep c.args.index c.args.kept) c.requires.can in (
      c.self.invariant.0,
      All-set (λ r. KeepsCommitted (row_of r)) c.self.inside.rows.items c.args.row c.insert_kept.new.row
          (subst KeepsCommitted (sym c.insert_kept.ensures.row) (all_insert (λ k. k.number ≤ x.committed) x.kept.items c.args.index c.args.kept can.2 kept))
          c.self.invariant.1,
      numbered_written c.self.inside.rows.items c.args.row x c.insert_kept.new.row c.self.inside.rows.room c.self.inside.ordinals c.get_mut.ensures.value
          (ap (λ (r : Row). r.sequence.ordinal) c.insert_kept.ensures.row) c.self.invariant.2,
      in_use_written c.self.inside.rows.items c.args.row x c.insert_kept.new.row c.self.inside.in_use c.get_mut.ensures.value
          (ap tag c.insert_kept.ensures.row) c.self.invariant.3,
    )

pub returns : goal.returns
returns c = record {
  rows = rows_changed c.self.inside.rows (keys c.self.inside.in_use) c.args.self.now c.self.view_is c.args.row c.get_mut.result.now c.get_mut.ensures.value c.insert_kept.new.row
      (λ r. keeping (insert r.kept c.args.index c.args.kept) r) c.insert_kept.ensures.row c.insert_kept.ensures.room;
}
