use Rattle.std.proofs.Common.{◌≡◌, ◌-◌}
use Rattle.mqb_deque.specs.Gaps.{around}
use Rattle.mqb_deque.proofs.gap_buffer.lower_gap.Given as goal

abbrev pub invariant-loop-k : goal.invariant-loop-k
invariant-loop-k g l = around (l.front - l.k) l.gap l.slots ≡ around l.front l.gap l.initial.slots
