use Rattle.std.proofs.Common.{◌≡◌, ◌≤◌, ◌+◌, ◌*◌}
use Rattle.mqb_contents.specs.Rooms.{IsGrown}
use Rattle.mqb_records.specs.Ops.{takes_in, takes_tried}
use Rattle.mqb_records.specs.Ordered.{IsOrdered}
use Rattle.mqb_records.proofs.commit.take_all.Given as goal

abbrev pub invariant-loop-op : goal.invariant-loop-op
invariant-loop-op l = record {
  so_far : takes_tried l.now l.draft.effect l.op-iterator ≡ takes_tried l.now l.initial.draft.effect l.ops;
  ordered : IsOrdered l.draft.effect.state;
  start : l.draft.start ≡ l.initial.draft.start;
  grown : IsGrown l.initial.draft.rooms l.draft.rooms;
  held : l.draft.held + 3 * takes_in l.op-iterator ≤ l.initial.draft.held + 3 * takes_in l.ops;
}
