use Rattle.std.proofs.Common.{◌≡◌}
use Rattle.mqb_snapshot.specs.Spelled.{spelled_kept}
use Rattle.mqb_snapshot.specs.Values.{IsHeld}
use Rattle.mqb_snapshot.proofs.SoFar.{SoFar}
use Rattle.mqb_snapshot.proofs.Walks.{PutSoFar}
use Rattle.mqb_snapshot.proofs.tail.Tail.kept_list.Given as goal

abbrev pub invariant-loop-at : goal.invariant-loop-at
invariant-loop-at l = record {
  put : PutSoFar spelled_kept l.list.items l.at l.initial.self.text l.self.text;
  front : l.self.front ≡ l.fn.self.front;
  typed : SoFar (λ k. IsHeld k.message) l.list.items l.at;
}
