use Rattle.std.proofs.Common.{◌≡◌, length}
use Rattle.mqb_snapshot.specs.Reading.{peer_joined}
use Rattle.mqb_read_back.proofs.Loops.{JoinedSoFar}
use Rattle.mqb_read_back.proofs.parts.ReadParts.peers.Given as goal

abbrev pub invariant-loop : goal.invariant-loop
invariant-loop l = record {
  joined : JoinedSoFar peer_joined l.count l.counter l.initial.self l.initial.cursor l.self l.cursor;
  peers : length l.self.state.peers ≡ l.counter;
  places : l.self.state.places ≡ l.initial.self.state.places;
}
