use Rattle.std.proofs.Common.{◌≡◌, ◌≤◌, ◌+◌, ◌*◌, drop, map}
use Rattle.std.specs.List.{list_any}
use Rattle.std.specs.Prelude.{sum_by}
use Rattle.mqb_model.specs.records.Counting.{commit_size, op_size}
use Rattle.mqb_trying.specs.Notes.{record_op}
use Rattle.mqb_trying.specs.Trying.{is_large}
use Rattle.mqb_trying.proofs.counting.record_size.Given as goal

abbrev pub invariant-loop-k : goal.invariant-loop-k
invariant-loop-k l = record {
  size : l.size + sum_by op_size (map record_op (drop l.k l.ops)) ≡ commit_size (map record_op l.ops);
  large : list_any is_large (drop l.k l.ops) ≡ list_any is_large l.ops;
  most : l.size ≤ 6 + l.k * 4194309;
}
