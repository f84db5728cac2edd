use Rattle.std.proofs.Common.{◌≡◌, ◌+◌, ◌*◌, ◌≤◌}
use Rattle.mqb_contents.specs.Rooms.{IsGrown}
use Rattle.mqb_model.specs.Loops.{repeated}
use Rattle.mqb_model.specs.rules.Timeouts.{next_lapsed}
use Rattle.mqb_timeouts.specs.Waiting.{NoneLapses, lapsed_count}
use Rattle.mqb_timeouts.proofs.lapses.lapse_peer.Given as goal

abbrev pub invariant-loop : goal.invariant-loop
invariant-loop l = record {
  so_far : l.draft.effect ≡ repeated l.counter (next_lapsed l.lane l.now l.k) l.initial.draft.effect;
  end : l.end ≡ lapsed_count l.lane l.now l.fn.draft.effect.state l.k;
  none : NoneLapses l.lane l.now l.draft.effect.state l.k l.from;
  start : l.draft.start ≡ l.initial.draft.start;
  grown : IsGrown l.initial.draft.rooms l.draft.rooms;
  held : l.draft.held ≤ l.initial.draft.held + 2 * l.counter;
}
