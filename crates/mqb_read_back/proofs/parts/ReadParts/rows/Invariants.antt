use Rattle.mqb_snapshot.specs.Reading.{row_joined}
use Rattle.mqb_read_back.proofs.Loops.{JoinedSoFar}
use Rattle.mqb_read_back.proofs.parts.ReadParts.rows.Given as goal

abbrev pub invariant-loop : goal.invariant-loop
invariant-loop l = JoinedSoFar row_joined l.count l.counter l.initial.self l.initial.cursor l.self l.cursor
