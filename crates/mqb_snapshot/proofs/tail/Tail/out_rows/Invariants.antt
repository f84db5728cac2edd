use Rattle.std.proofs.Common.{◌≡◌}
use Rattle.mqb_orders.specs.Rows.{row_of}
use Rattle.mqb_snapshot.specs.Spelled.{spelled_out}
use Rattle.mqb_snapshot.specs.Values.{IsOut}
use Rattle.mqb_snapshot.proofs.SoFar.{SoFar}
use Rattle.mqb_snapshot.proofs.Walks.{PutSoFar}
use Rattle.mqb_snapshot.proofs.tail.Tail.out_rows.Given as goal

abbrev pub invariant-loop-row : goal.invariant-loop-row
invariant-loop-row l = record {
  put : PutSoFar (λ r. spelled_out (row_of r)) l.rows l.row-index l.initial.self.text l.self.text;
  front : l.self.front ≡ l.fn.self.front;
  typed : SoFar (λ r. IsOut (row_of r)) l.rows l.row-index;
}
