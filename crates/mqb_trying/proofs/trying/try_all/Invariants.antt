use Rattle.std.proofs.Common.{◌≡◌, ◌≤◌, ◌+◌, drop, length}
use Rattle.mqb_trying.specs.Notes.{nothing_noted}
use Rattle.mqb_trying.specs.Trying.{try_all}
use Rattle.mqb_trying.proofs.trying.try_all.Given as goal

abbrev pub invariant-loop-index : goal.invariant-loop-index
invariant-loop-index l = record {
  left : try_all l.contents.lists l.now l.index l.notes (drop l.index l.ops) ≡ try_all l.contents.lists l.now 0 (nothing_noted l.contents.lists) l.ops;
  number : l.notes.next_number ≤ l.contents.lists.next_number + l.index;
  ops : length l.notes.ops ≡ l.index;
}
