use Rattle.std.proofs.Common.{◌≡◌, false, length, take}
use Rattle.std.specs.List.{All}
use Rattle.mqb_model.specs.rules.Timeouts.{expires}
use Rattle.mqb_orders.specs.Rows.{row_of}
use Rattle.mqb_timeouts.proofs.expiries.index_in.Given as goal

abbrev pub invariant-loop-k : goal.invariant-loop-k
invariant-loop-k l = record {
  none : All (λ x. expires l.now (row_of l.row) x ≡ false) (take l.k l.row.kept.items);
  end : l.k-end ≡ length l.row.kept.items;
}
