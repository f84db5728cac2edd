use Rattle.std.proofs.Common.{◌≡◌}
use Rattle.mqb_snapshot.specs.Spelled.{spelled_identity}
use Rattle.mqb_snapshot.specs.Values.{IsIdentity}
use Rattle.mqb_snapshot.proofs.SoFar.{SoFar}
use Rattle.mqb_snapshot.proofs.Walks.{PutSoFar}
use Rattle.mqb_snapshot.proofs.tail.Tail.identities.Given as goal

abbrev pub invariant-loop-identity : goal.invariant-loop-identity
invariant-loop-identity l = record {
  put : PutSoFar spelled_identity l.identities l.identity-index l.initial.self.text l.self.text;
  front : l.self.front ≡ l.fn.self.front;
  typed : SoFar IsIdentity l.identities l.identity-index;
}
