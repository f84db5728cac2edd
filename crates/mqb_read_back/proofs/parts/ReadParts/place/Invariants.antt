use Rattle.std.proofs.Common.{◌≡◌, length}
use Rattle.mqb_snapshot.specs.Reading.{placed_joined}
use Rattle.mqb_read_back.proofs.Loops.{JoinedSoFar}
use Rattle.mqb_read_back.proofs.parts.ReadParts.place.Given as goal

abbrev pub invariant-loop : goal.invariant-loop
invariant-loop l = record {
  joined : JoinedSoFar (placed_joined l.at) l.count l.counter l.initial.self l.initial.cursor l.self l.cursor;
  queues : length l.self.state.places.queues ≡ length l.initial.self.state.places.queues;
}
