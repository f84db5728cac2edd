use Rattle.std.proofs.Common.{◌≡◌, length}
use Rattle.mqb_snapshot.specs.Reading.{waiting_joined}
use Rattle.mqb_read_back.proofs.Loops.{EachSoFar}
use Rattle.mqb_read_back.proofs.parts.ReadParts.waiting_for_all.Given as goal

abbrev pub invariant-loop-k : goal.invariant-loop-k
invariant-loop-k l = record {
  joined : EachSoFar waiting_joined (length l.fn.self.state.plain) l.k l.fn.self l.fn.cursor l.self l.cursor;
  peers : length l.self.state.plain ≡ length l.fn.self.state.plain;
}
