use Rattle.std.proofs.Common.{◌≡◌, ◌≤◌, ◌+◌, length}
use Rattle.mqb_contents.specs.Changes.{AllReady, messages, messages_back, redone, rooms_redone}
use Rattle.mqb_drafts.proofs.turns.turn.Given as goal

abbrev pub invariant-loop-change : goal.invariant-loop-change
invariant-loop-change l = record {
  ready : AllReady l.contents l.from.items;
  made : redone l.contents.lists l.from.items ≡ redone l.initial.contents.lists l.initial.from.items;
  rooms : rooms_redone l.contents.rooms l.from.items ≡ rooms_redone l.initial.contents.rooms l.initial.from.items;
  room : length l.from.items + length l.onto.items ≤ l.onto.room;
  ready_back : AllReady l.contents l.onto.items;
  made_back : redone l.contents.lists l.onto.items ≡ l.initial.contents.lists;
  count : messages l.onto.items + messages_back l.from.items ≡ messages_back l.initial.from.items;
}

abbrev pub decreases-loop-change : goal.decreases-loop-change
decreases-loop-change l = length l.from.items
