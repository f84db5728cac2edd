use Rattle.std.proofs.Common.{◌≡◌, length}
use Rattle.mqb_contents.specs.Changes.{AllReady, redone, rooms_redone}
use Rattle.mqb_drafts.proofs.turns.redo.Given as goal

abbrev pub invariant-loop-change : goal.invariant-loop-change
invariant-loop-change l = record {
  ready : AllReady l.contents l.log.items;
  made : redone l.contents.lists l.log.items ≡ redone l.initial.contents.lists l.initial.log.items;
  rooms : rooms_redone l.contents.rooms l.log.items ≡ rooms_redone l.initial.contents.rooms l.initial.log.items;
}

abbrev pub decreases-loop-change : goal.decreases-loop-change
decreases-loop-change l = length l.log.items
