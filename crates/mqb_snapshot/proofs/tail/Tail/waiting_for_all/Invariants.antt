use Rattle.std.proofs.Common.{◌≡◌}
use Rattle.mqb_snapshot.specs.Spelled.{spelled_plain}
use Rattle.mqb_plain.specs.Lists.{messages_of}
use Rattle.mqb_snapshot.specs.Values.{AreHeld}
use Rattle.mqb_snapshot.proofs.SoFar.{SoFar}
use Rattle.mqb_snapshot.proofs.Walks.{PutSoFar}
use Rattle.mqb_snapshot.proofs.tail.Tail.waiting_for_all.Given as goal

abbrev pub invariant-loop-k : goal.invariant-loop-k
invariant-loop-k l = record {
  put : PutSoFar spelled_plain l.contents.lists.plain l.k l.initial.self.text l.self.text;
  front : l.self.front ≡ l.fn.self.front;
  typed : SoFar (λ p. AreHeld (messages_of p.recoverable)) l.contents.lists.plain l.k;
}
