use Rattle.std.proofs.Common.{◌≡◌}
use Rattle.mqb_snapshot.specs.Spelled.{spelled_plan}
use Rattle.mqb_snapshot.specs.Values.{IsPlan}
use Rattle.mqb_snapshot.proofs.SoFar.{SoFar}
use Rattle.mqb_snapshot.proofs.Walks.{PutSoFar}
use Rattle.mqb_snapshot.proofs.tail.Tail.plans.Given as goal

abbrev pub invariant-loop-k : goal.invariant-loop-k
invariant-loop-k l = record {
  put : PutSoFar (λ q. spelled_plan q.plan) l.queues.lists.queues l.k l.initial.self.text l.self.text;
  front : l.self.front ≡ l.fn.self.front;
  typed : SoFar (λ q. IsPlan q.plan) l.queues.lists.queues l.k;
}
