use Rattle.std.proofs.Common.{◌≡◌, ◌+◌, ◌*◌, ◌≤◌, length, take}
use Rattle.std.specs.Prelude.{sum_by}
use Rattle.mqb_contents.specs.Rooms.{IsGrown}
use Rattle.mqb_model.specs.Loops.{for_each_below}
use Rattle.mqb_model.specs.rules.Timeouts.{expiring_in, row_expired}
use Rattle.mqb_timeouts.proofs.expiries.rows_expired.Given as goal

abbrev pub invariant-loop-k : goal.invariant-loop-k
invariant-loop-k l = record {
  so_far : l.draft.effect ≡ for_each_below l.k (row_expired l.now) l.initial.draft.effect;
  end : l.k-end ≡ length l.fn.draft.effect.state.outs;
  start : l.draft.start ≡ l.initial.draft.start;
  grown : IsGrown l.initial.draft.rooms l.draft.rooms;
  held : l.draft.held ≤ l.initial.draft.held + 2 * sum_by (expiring_in l.now) (take l.k l.initial.draft.effect.state.outs);
}
