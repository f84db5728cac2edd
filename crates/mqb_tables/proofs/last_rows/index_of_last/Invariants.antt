use Rattle.std.proofs.Common.{◌≡◌, ◌<◌, None, map, take}
use Rattle.std.specs.Prelude.{IfSome, filter, option_and_then, slice_get}
use Rattle.std.specs.List.{last_or}
use Rattle.mqb_orders.specs.Rows.{leads_to, row_of}
use Rattle.mqb_tables.proofs.last_rows.index_of_last.Given as goal

abbrev pub invariant-loop-k : goal.invariant-loop-k
invariant-loop-k l = record {
  row : option_and_then (slice_get (map row_of l.rows)) l.last ≡ last_or None (filter (leads_to l.peer l.destination) (take l.k (map row_of l.rows)));
  within : IfSome l.last (λ j. j < l.k);
}
