use Rattle.std.proofs.Common.{◌≡◌, length}
use Rattle.mqb_inspect.proofs.Sinking.{TookSoFar}
use Rattle.mqb_inspect.proofs.output.write_all.Given as goal

abbrev pub invariant-loop-rest : goal.invariant-loop-rest
invariant-loop-rest g l = record {
  taken : TookSoFar (g.K.Sink.taken l.initial.out) (g.K.Sink.taken l.out) l.text l.rest;
  faults : g.K.Sink.write_faults l.out ≡ g.K.Sink.write_faults l.initial.out;
}

abbrev pub decreases-loop-rest : goal.decreases-loop-rest
decreases-loop-rest g l = length l.rest
