use Rattle.std.proofs.Common.{◌-◌, ◌≡◌, ◌≤◌, length, vec_len}
use Rattle.mqb_capture.specs.declared.answers.TheConstants.{MAX_CAPTURE}
use Rattle.mqb_outside.specs.Told.{Gave}
use Rattle.mqb_inspect.proofs.input.read_most.Given as goal

abbrev pub invariant-loop-buffer : goal.invariant-loop-buffer
invariant-loop-buffer g l = record {
  most : vec_len l.text ≤ MAX_CAPTURE;
  whole : length l.buffer ≡ 4096;
  gave : Gave (g.S.Source.held l.initial.source) (g.S.Source.held l.source) l.text.items;
  quiet : g.S.Source.read_faults l.source ≡ g.S.Source.read_faults l.initial.source;
}

abbrev pub decreases-loop-buffer : goal.decreases-loop-buffer
decreases-loop-buffer g l = MAX_CAPTURE - vec_len l.text
