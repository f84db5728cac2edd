use Rattle.std.proofs.Common.{sym, ap, subst}
use Rattle.std.proofs.lemmas.List.Elements.{All-set}
use Rattle.indexmap.specs.IndexMap.{keys}
use Rattle.mqb_contents.specs.Rows.{KeepsCommitted, with_marks}
use Rattle.mqb_contents.specs.declared.marks.RowMarks.{RowMarks}
use Rattle.mqb_contents.specs.Seen.{room_of}
use Rattle.mqb_orders.specs.Rows.{Row, row_of}
use Rattle.mqb_orders.specs.declared.rows.OutRow.{OutRow}
use Rattle.mqb_contents.proofs.InUse.{in_use_written, members_of, rows_changed, tag}
use Rattle.mqb_tables.proofs.Lens.{fact_now, fact_there}
use Rattle.mqb_tables.proofs.Members.{all_at}
use Rattle.mqb_tables.proofs.Numbering.{numbered_written}
use Rattle.mqb_contents.proofs.out_rows.OutRows.mark.Goals as goal

pub invariant_of-self : goal.invariant_of-self
invariant_of-self c =
    let x : OutRow = c.get_mut.result.now in
    let kept : KeepsCommitted (with_marks c.args.marks (row_of x)) =
    fact_there row_of room_of c.self.inside.rows (members_of c.args.self.now) (ap members_of c.self.view_is) c.args.row x c.get_mut.ensures.value (λ r. KeepsCommitted (with_marks c.args.marks r)) c.requires in (
      c.self.invariant.0,
      All-set (λ r. KeepsCommitted (row_of r)) c.self.inside.rows.items c.args.row c.mark.new.row (subst KeepsCommitted (sym c.mark.ensures.row) kept) c.self.invariant.1,
      numbered_written c.self.inside.rows.items c.args.row x c.mark.new.row c.self.inside.rows.room c.self.inside.ordinals c.get_mut.ensures.value
          (ap (λ (r : Row). r.sequence.ordinal) c.mark.ensures.row) c.self.invariant.2,
      in_use_written c.self.inside.rows.items c.args.row x c.mark.new.row c.self.inside.in_use c.get_mut.ensures.value
          (ap tag c.mark.ensures.row) c.self.invariant.3,
    )

pub returns-clause-rows : goal.returns-clause-rows
returns-clause-rows c =
    rows_changed c.self.inside.rows (keys c.self.inside.in_use) c.args.self.now c.self.view_is c.args.row c.get_mut.result.now c.get_mut.ensures.value c.mark.new.row (with_marks c.args.marks) c.mark.ensures.row c.mark.ensures.room

pub returns-clause-back : goal.returns-clause-back
returns-clause-back c =
    let x : OutRow = c.get_mut.result.now in
    let kept : KeepsCommitted (row_of x) = all_at (λ r. KeepsCommitted (row_of r)) c.self.inside.rows.items c.args.row x c.get_mut.ensures.value c.self.invariant.1 in
    fact_now row_of room_of c.self.inside.rows (members_of c.args.self.now) (ap members_of c.self.view_is) c.args.row c.get_mut.result.now c.get_mut.ensures.value c.mark.new.row (λ r. KeepsCommitted (with_marks c.mark.result r))
    (subst (λ (r : Row). KeepsCommitted (with_marks c.mark.result r)) (sym c.mark.ensures.row)
    (subst (λ (m : RowMarks). KeepsCommitted (with_marks m (with_marks c.args.marks (row_of x)))) (sym c.mark.ensures.before) kept))
