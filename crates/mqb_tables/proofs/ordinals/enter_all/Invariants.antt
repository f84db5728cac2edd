use Rattle.std.proofs.Common.{◌≤◌, ◌+◌, map, take}
use Rattle.indexmap.specs.IndexMap.{index_map_len, spare}
use Rattle.mqb_tables.specs.Tables.{HaveOwnOrdinals, LeadsTo}
use Rattle.mqb_orders.specs.Rows.{row_of}
use Rattle.mqb_tables.proofs.ordinals.enter_all.Given as goal

abbrev pub invariant-loop-k : goal.invariant-loop-k
invariant-loop-k l = record {
  leads : LeadsTo (map row_of (take l.k l.rows)) l.ordinals;
  few : index_map_len l.ordinals ≤ l.k;
  own : l.k ≤ index_map_len l.ordinals → HaveOwnOrdinals (map row_of (take l.k l.rows));
  room : index_map_len l.initial.ordinals + spare l.initial.ordinals ≤ index_map_len l.ordinals + spare l.ordinals;
}
