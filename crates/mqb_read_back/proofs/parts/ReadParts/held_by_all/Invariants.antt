use Rattle.std.proofs.Common.{◌≡◌, length}
use Rattle.mqb_snapshot.specs.Reading.{held_joined}
use Rattle.mqb_read_back.proofs.Loops.{EachSoFar}
use Rattle.mqb_read_back.proofs.parts.ReadParts.held_by_all.Given as goal

abbrev pub invariant-loop-k : goal.invariant-loop-k
invariant-loop-k l = record {
  joined : EachSoFar held_joined (length l.fn.self.state.places.queues) l.k l.fn.self l.fn.cursor l.self l.cursor;
  queues : length l.self.state.places.queues ≡ length l.fn.self.state.places.queues;
}
