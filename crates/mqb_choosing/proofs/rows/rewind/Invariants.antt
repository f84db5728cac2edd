use Rattle.std.proofs.Common.{◌≡◌, ◌++◌, drop, length, map, take}
use Rattle.std.specs.List.{zip}
use Rattle.mqb_model.specs.calls.Link.{begun_anew}
use Rattle.mqb_orders.specs.Rows.{row_of}
use Rattle.mqb_choosing.proofs.rows.rewind.Given as goal

abbrev pub invariant-loop-k : goal.invariant-loop-k
invariant-loop-k l = record {
  left : take l.k l.cursors.items ++ map (begun_anew l.peer) (zip (drop l.k (map row_of l.rows)) (drop l.k l.cursors.items))
      ≡ map (begun_anew l.peer) (zip (map row_of l.rows) l.fn.cursors.items);
  same : length l.cursors.items ≡ length l.fn.cursors.items;
}
