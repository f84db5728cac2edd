use Rattle.std.proofs.Common.{◌≡◌, ◌≤◌, ◌+◌, ◌++◌, length}
use Rattle.std.specs.VecDeque.{deque_capacity, deque_len}
use Rattle.mqb_model.specs.declared.limits.TheConstants.{MAX_NUMBER}
use Rattle.mqb_records.specs.Ops.{packets_fit, packets_shown}
use Rattle.mqb_records.proofs.commit.read_all.Given as goal

abbrev pub invariant-loop-op : goal.invariant-loop-op
invariant-loop-op l = record {
  fit : packets_fit l.draft.effect.state l.number l.op-iterator ≡ packets_fit l.draft.effect.state l.draft.effect.state.next_number l.ops;
  read : l.packets.items ++ packets_shown l.op-iterator ≡ packets_shown l.ops;
  room : deque_len l.packets + length l.op-iterator ≤ deque_capacity l.packets;
  count : l.number ≡ l.draft.effect.state.next_number + deque_len l.packets;
  left : l.number ≤ MAX_NUMBER + 1;
}
