use Rattle.mqb_snapshot.specs.Reading.{source_joined}
use Rattle.mqb_read_back.proofs.Loops.{JoinedSoFar}
use Rattle.mqb_read_back.proofs.parts.ReadParts.sources.Given as goal

abbrev pub invariant-loop : goal.invariant-loop
invariant-loop l = JoinedSoFar source_joined l.count l.counter l.initial.self l.initial.cursor l.self l.cursor
