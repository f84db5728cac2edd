use Rattle.std.proofs.Common.{◌≡◌, ◌≤◌, ◌-◌, length}
use Rattle.mqb_serving.specs.declared.limits.TheConstants.{MAX_READ}
use Rattle.mqb_commands.proofs.Inputs.{SoFar}
use Rattle.mqb_commands.proofs.showing.show_all.Given as goal

abbrev pub invariant-loop-count : goal.invariant-loop-count
invariant-loop-count g l = record {
  so_far : SoFar (g.S.Source.held l.fn.input) (g.S.Source.held l.input) (g.K.Sink.taken l.fn.out) (g.K.Sink.taken l.out) l.viewer.framer l.count;
  most : l.count ≤ MAX_READ;
  buffer : length l.buffer ≡ 4096;
  reads : g.S.Source.read_faults l.input ≡ g.S.Source.read_faults l.fn.input;
  writes : g.K.Sink.write_faults l.out ≡ g.K.Sink.write_faults l.fn.out;
}

abbrev pub decreases-loop-count : goal.decreases-loop-count
decreases-loop-count g l = MAX_READ - l.count
