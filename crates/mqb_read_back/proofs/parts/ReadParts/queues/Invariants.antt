use Rattle.std.proofs.Common.{◌≡◌, length}
use Rattle.mqb_snapshot.specs.Reading.{queue_joined}
use Rattle.mqb_read_back.proofs.Loops.{JoinedSoFar}
use Rattle.mqb_read_back.proofs.parts.ReadParts.queues.Given as goal

abbrev pub invariant-loop : goal.invariant-loop
invariant-loop l = record {
  joined : JoinedSoFar queue_joined l.count l.counter l.initial.self l.initial.cursor l.self l.cursor;
  queues : length l.self.state.places.queues ≡ l.counter;
}
