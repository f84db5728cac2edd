use Rattle.std.proofs.Common.{◌≡◌, length}
use Rattle.mqb_snapshot.specs.Reading.{plain_joined}
use Rattle.mqb_read_back.proofs.Loops.{JoinedSoFar}
use Rattle.mqb_read_back.proofs.parts.ReadParts.waiting.Given as goal

abbrev pub invariant-loop : goal.invariant-loop
invariant-loop l = record {
  joined : JoinedSoFar (plain_joined l.k) l.count l.counter l.initial.self l.initial.cursor l.self l.cursor;
  peers : length l.self.state.plain ≡ length l.initial.self.state.plain;
}
