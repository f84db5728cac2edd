use Rattle.std.proofs.Common.{◌≡◌, length}
use Rattle.mqb_snapshot.specs.Reading.{kept_joined}
use Rattle.mqb_read_back.proofs.Loops.{JoinedSoFar}
use Rattle.mqb_read_back.proofs.parts.ReadParts.kept_list.Given as goal

abbrev pub invariant-loop : goal.invariant-loop
invariant-loop l = record {
  joined : JoinedSoFar (kept_joined l.row) l.count l.counter l.initial.self l.initial.cursor l.self l.cursor;
  rows : length l.self.state.outs ≡ length l.initial.self.state.outs;
}
