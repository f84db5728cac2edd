use Rattle.std.proofs.Common.{◌≡◌, ◌+◌, ◌*◌, ◌≤◌}
use Rattle.mqb_contents.specs.Rooms.{IsGrown}
use Rattle.mqb_model.specs.Loops.{repeated}
use Rattle.mqb_model.specs.rules.Timeouts.{next_swept}
use Rattle.mqb_timeouts.specs.Waiting.{NoneSwept, swept_count}
use Rattle.mqb_timeouts.proofs.sweeps.sweep_queue.Given as goal

abbrev pub invariant-loop : goal.invariant-loop
invariant-loop l = record {
  so_far : l.draft.effect ≡ repeated l.counter (next_swept l.lane l.now l.k) l.initial.draft.effect;
  end : l.end ≡ swept_count l.lane l.now l.fn.draft.effect.state l.k;
  none : NoneSwept l.lane l.now l.draft.effect.state l.k l.from;
  start : l.draft.start ≡ l.initial.draft.start;
  grown : IsGrown l.initial.draft.rooms l.draft.rooms;
  held : l.draft.held ≤ l.initial.draft.held + 2 * l.counter;
}
