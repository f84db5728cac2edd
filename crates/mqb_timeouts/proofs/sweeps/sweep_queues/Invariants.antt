use Rattle.std.proofs.Common.{◌≡◌, ◌+◌, ◌*◌, ◌≤◌, take}
use Rattle.std.specs.Prelude.{sum_by}
use Rattle.mqb_contents.specs.Rooms.{IsGrown}
use Rattle.mqb_model.specs.Loops.{for_each_below}
use Rattle.mqb_model.specs.rules.Timeouts.{queue_swept, sweeping_in}
use Rattle.mqb_timeouts.proofs.sweeps.sweep_queues.Given as goal

abbrev pub invariant-loop-k : goal.invariant-loop-k
invariant-loop-k l = record {
  so_far : l.draft.effect ≡ for_each_below l.k (queue_swept l.lane l.now) l.initial.draft.effect;
  start : l.draft.start ≡ l.initial.draft.start;
  grown : IsGrown l.initial.draft.rooms l.draft.rooms;
  held : l.draft.held ≤ l.initial.draft.held + 2 * sum_by (sweeping_in l.lane l.now) (take l.k l.initial.draft.effect.state.places.queues);
}
