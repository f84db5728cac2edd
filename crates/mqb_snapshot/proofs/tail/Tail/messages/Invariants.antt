use Rattle.std.proofs.Common.{◌≡◌}
use Rattle.mqb_snapshot.specs.Spelled.{spelled_message}
use Rattle.mqb_snapshot.specs.Values.{IsHeld}
use Rattle.mqb_snapshot.proofs.SoFar.{SoFar}
use Rattle.mqb_snapshot.proofs.Walks.{PutSoFar}
use Rattle.mqb_snapshot.proofs.tail.Tail.messages.Given as goal

abbrev pub invariant-loop-index : goal.invariant-loop-index
invariant-loop-index l = record {
  put : PutSoFar spelled_message l.messages l.index l.initial.self.text l.self.text;
  front : l.self.front ≡ l.fn.self.front;
  typed : SoFar IsHeld l.messages l.index;
}
