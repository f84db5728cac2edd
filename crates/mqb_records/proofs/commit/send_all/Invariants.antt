use Rattle.std.proofs.Common.{◌≡◌, ◌≤◌, ◌+◌, ◌*◌, length}
use Rattle.mqb_contents.specs.Rooms.{IsGrown}
use Rattle.mqb_records.specs.Ops.{sends_tried}
use Rattle.mqb_records.specs.Ordered.{IsOrdered}
use Rattle.mqb_records.proofs.commit.send_all.Given as goal

abbrev pub invariant-loop-packet : goal.invariant-loop-packet
invariant-loop-packet l = record {
  so_far : sends_tried l.now l.draft.effect l.packets.items ≡ sends_tried l.now l.initial.draft.effect l.initial.packets.items;
  ordered : IsOrdered l.draft.effect.state;
  start : l.draft.start ≡ l.initial.draft.start;
  grown : IsGrown l.initial.draft.rooms l.draft.rooms;
  held : l.draft.held + 3 * length l.packets.items ≤ l.initial.draft.held + 3 * length l.initial.packets.items;
}

abbrev pub decreases-loop-packet : goal.decreases-loop-packet
decreases-loop-packet l = length l.packets.items
