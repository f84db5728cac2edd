use Rattle.std.proofs.Common.{◌≡◌, length}
use Rattle.mqb_commands.specs.Viewing.{GoesOn, IsOpen}
use Rattle.mqb_commands.proofs.viewer.Viewer.show_piece.Given as goal

abbrev pub invariant-loop-rest : goal.invariant-loop-rest
invariant-loop-rest g l = record {
  shown : GoesOn l.initial.self.framer l.self.framer l.piece l.rest (g.K.Sink.taken l.initial.out) (g.K.Sink.taken l.out);
  wants : IsOpen l.self.framer;
  faults : g.K.Sink.write_faults l.out ≡ g.K.Sink.write_faults l.initial.out;
}

abbrev pub decreases-loop-rest : goal.decreases-loop-rest
decreases-loop-rest g l = length l.rest
