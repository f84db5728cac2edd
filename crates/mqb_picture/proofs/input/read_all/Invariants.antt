use Rattle.std.proofs.Common.{◌≡◌, ◌-◌, ◌≤◌, length, vec_len}
use Rattle.mqb_outside.specs.Told.{Gave}
use Rattle.mqb_picture.specs.Input.{LONGEST}
use Rattle.mqb_picture.proofs.input.read_all.Given as goal

abbrev pub invariant-loop-count : goal.invariant-loop-count
invariant-loop-count g l = record {
  few : vec_len l.text ≤ LONGEST;
  whole : length l.buffer ≡ 4096;
  gave : Gave (g.S.Source.held l.initial.source) (g.S.Source.held l.source) l.text.items;
  quiet : g.S.Source.read_faults l.source ≡ g.S.Source.read_faults l.initial.source;
}

abbrev pub decreases-loop-count : goal.decreases-loop-count
decreases-loop-count g l = LONGEST - vec_len l.text
