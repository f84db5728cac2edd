use Rattle.std.proofs.Common.{◌≡◌, ◌≤◌, ◌+◌, map, take}
use Rattle.indexmap.specs.IndexMap.{index_map_len, spare}
use Rattle.mqb_queue.specs.Names.{LeadsTo}
use Rattle.mqb_queue.specs.Seen.{queue_of}
use Rattle.mqb_queue.proofs.name_keys.enter_all.Given as goal

abbrev pub invariant-loop-k : goal.invariant-loop-k
invariant-loop-k l = record {
  leads : LeadsTo (map queue_of (take l.k l.queues)) l.names;
  len : index_map_len l.names ≡ l.k;
  room : index_map_len l.initial.names + spare l.initial.names ≤ index_map_len l.names + spare l.names;
}
