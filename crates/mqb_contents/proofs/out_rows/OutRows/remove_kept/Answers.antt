use Rattle.std.proofs.Common.{◌≡◌, ◌≤◌, Some, insert, length, remove, sym, ap, subst}
use Rattle.std.specs.Prelude.{slice_get}
use Rattle.std.proofs.lemmas.List.Elements.{All-set}
use Rattle.std.proofs.lemmas.Option.{slice_get_within}
use Rattle.indexmap.specs.IndexMap.{keys}
use Rattle.mqb_contents.specs.Rows.{CanKeep, KeepsCommitted, keeping}
use Rattle.mqb_orders.specs.KeptLists.{Rises}
use Rattle.mqb_contents.specs.Seen.{room_of}
use Rattle.mqb_orders.specs.Rows.{Row, row_of}
use Rattle.mqb_orders.specs.declared.kept.Kept.{Kept}
use Rattle.mqb_orders.specs.declared.rows.OutRow.{OutRow}
use Rattle.mqb_contents.proofs.InUse.{in_use_written, members_of, rows_changed, tag}
use Rattle.mqb_tables.proofs.Lens.{fact_back, fact_now, left}
use Rattle.mqb_tables.proofs.Members.{all_at, all_remove, insert-remove, length-removed}
use Rattle.mqb_tables.proofs.Numbering.{numbered_written}
use Rattle.mqb_contents.proofs.out_rows.OutRows.remove_kept.Goals as goal

pub invariant_of-self : goal.invariant_of-self
invariant_of-self c =
    let x : OutRow = c.get_mut.result.now in
    let kept : KeepsCommitted (row_of x) = all_at (λ r. KeepsCommitted (row_of r)) c.self.inside.rows.items c.args.row x c.get_mut.ensures.value c.self.invariant.1 in (
      c.self.invariant.0,
      All-set (λ r. KeepsCommitted (row_of r)) c.self.inside.rows.items c.args.row c.remove_kept.new.row
          (subst KeepsCommitted (sym c.remove_kept.ensures.row) (all_remove (λ k. k.number ≤ x.committed) x.kept.items c.args.index kept))
          c.self.invariant.1,
      numbered_written c.self.inside.rows.items c.args.row x c.remove_kept.new.row c.self.inside.rows.room c.self.inside.ordinals c.get_mut.ensures.value
          (ap (λ (r : Row). r.sequence.ordinal) c.remove_kept.ensures.row) c.self.invariant.2,
      in_use_written c.self.inside.rows.items c.args.row x c.remove_kept.new.row c.self.inside.in_use c.get_mut.ensures.value
          (ap tag c.remove_kept.ensures.row) c.self.invariant.3,
    )

pub returns-clause-removed : goal.returns-clause-removed
returns-clause-removed c =
    fact_back row_of room_of c.self.inside.rows (members_of c.args.self.now) (ap members_of c.self.view_is) c.args.row c.get_mut.result.now c.get_mut.ensures.value (λ r. slice_get r.kept c.args.index ≡ Some c.remove_kept.result) c.remove_kept.ensures.removed

pub returns-clause-rows : goal.returns-clause-rows
returns-clause-rows c =
    rows_changed c.self.inside.rows (keys c.self.inside.in_use) c.args.self.now c.self.view_is c.args.row c.get_mut.result.now c.get_mut.ensures.value c.remove_kept.new.row (λ r. keeping (remove r.kept c.args.index) r) c.remove_kept.ensures.row c.remove_kept.ensures.room

pub returns-clause-back : goal.returns-clause-back
returns-clause-back c =
    let x : OutRow = c.get_mut.result.now in
    let k : Kept = c.remove_kept.result in
    let kept : KeepsCommitted (row_of x) = all_at (λ r. KeepsCommitted (row_of r)) c.self.inside.rows.items c.args.row x c.get_mut.ensures.value c.self.invariant.1 in
    let back : insert (remove x.kept.items c.args.index) c.args.index k ≡ x.kept.items = insert-remove x.kept.items c.args.index k c.remove_kept.ensures.removed in
    fact_now row_of room_of c.self.inside.rows (members_of c.args.self.now) (ap members_of c.self.view_is) c.args.row c.get_mut.result.now c.get_mut.ensures.value c.remove_kept.new.row (CanKeep c.args.index k)
    (subst (λ (r : Row). CanKeep c.args.index k r) (sym c.remove_kept.ensures.row) (
      length-removed x.kept.items c.args.index (slice_get_within x.kept.items c.args.index k c.remove_kept.ensures.removed),
      subst Rises (sym back) c.remove_kept.ensures.rises,
      all_at (λ k. k.number ≤ x.committed) x.kept.items c.args.index k c.remove_kept.ensures.removed kept,
    ))

pub returns-clause-room : goal.returns-clause-room
returns-clause-room c =
    left row_of room_of c.self.inside.rows (members_of c.args.self.now) (ap members_of c.self.view_is) c.args.row c.get_mut.result.now c.get_mut.ensures.value c.remove_kept.new.row (λ r. length r.kept) (λ n. n) c.remove_kept.ensures.left
