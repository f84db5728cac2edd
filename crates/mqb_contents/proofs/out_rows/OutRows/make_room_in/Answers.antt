use Rattle.std.proofs.Common.{length, sym, ap, subst}
use Rattle.std.proofs.lemmas.List.Elements.{All-set}
use Rattle.mqb_queue.proofs.Changed.{on_ok}
use Rattle.mqb_contents.specs.Seen.{room_of}
use Rattle.mqb_contents.specs.Rows.{KeepsCommitted}
use Rattle.mqb_orders.specs.Rows.{Row, row_of}
use Rattle.mqb_orders.specs.declared.rows.OutRow.{OutRow}
use Rattle.mqb_contents.proofs.InUse.{in_use_written, members_of, tag}
use Rattle.mqb_tables.proofs.Lens.{grown, left, stays}
use Rattle.mqb_tables.proofs.Members.{all_at}
use Rattle.mqb_tables.proofs.Numbering.{numbered_written}
use Rattle.mqb_contents.proofs.out_rows.OutRows.make_room_in.Goals as goal

pub invariant_of-self : goal.invariant_of-self
invariant_of-self c =
    let x : OutRow = c.get_mut.result.now in
    let kept : KeepsCommitted (row_of x) = all_at (λ r. KeepsCommitted (row_of r)) c.self.inside.rows.items c.args.row x c.get_mut.ensures.value c.self.invariant.1 in (
      c.self.invariant.0,
      All-set (λ r. KeepsCommitted (row_of r)) c.self.inside.rows.items c.args.row c.make_room_in.new.row (subst KeepsCommitted (sym c.make_room_in.ensures.row) kept) c.self.invariant.1,
      numbered_written c.self.inside.rows.items c.args.row x c.make_room_in.new.row c.self.inside.rows.room c.self.inside.ordinals c.get_mut.ensures.value
          (ap (λ (r : Row). r.sequence.ordinal) c.make_room_in.ensures.row) c.self.invariant.2,
      in_use_written c.self.inside.rows.items c.args.row x c.make_room_in.new.row c.self.inside.in_use c.get_mut.ensures.value
          (ap tag c.make_room_in.ensures.row) c.self.invariant.3,
    )

pub returns-clause-rows : goal.returns-clause-rows
returns-clause-rows c = stays row_of room_of c.self.inside.rows (members_of c.args.self.now) (ap members_of c.self.view_is) c.args.row c.get_mut.result.now c.get_mut.ensures.value c.make_room_in.new.row c.make_room_in.ensures.row

pub returns-clause-grown : goal.returns-clause-grown
returns-clause-grown c = grown row_of room_of c.self.inside.rows (members_of c.args.self.now) (ap members_of c.self.view_is) c.args.row c.get_mut.result.now c.get_mut.ensures.value c.make_room_in.new.row (λ n. n) c.make_room_in.ensures.grows

pub returns-clause-ok : goal.returns-clause-ok
returns-clause-ok c =
    on_ok c.make_room_in.result c.make_room_in.ensures.ok (left row_of room_of c.self.inside.rows (members_of c.args.self.now) (ap members_of c.self.view_is) c.args.row c.get_mut.result.now c.get_mut.ensures.value c.make_room_in.new.row (λ r. length r.kept) (λ n. n))
