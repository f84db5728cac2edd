use Rattle.std.proofs.Common.{◌≡◌}
use Rattle.mqb_snapshot.specs.Spelled.{spelled_queue}
use Rattle.mqb_snapshot.specs.Values.{AreHeld}
use Rattle.mqb_snapshot.proofs.SoFar.{SoFar}
use Rattle.mqb_snapshot.proofs.Walks.{PutSoFar}
use Rattle.mqb_snapshot.proofs.tail.Tail.queues.Given as goal

abbrev pub invariant-loop-k : goal.invariant-loop-k
invariant-loop-k l = record {
  put : PutSoFar spelled_queue l.queues.lists.queues l.k l.initial.self.text l.self.text;
  front : l.self.front ≡ l.fn.self.front;
  typed : SoFar (λ q. AreHeld q.lists.durable × AreHeld q.journal.durable) l.queues.lists.queues l.k;
}
