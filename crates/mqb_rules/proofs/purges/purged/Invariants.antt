use Rattle.std.proofs.Common.{◌≡◌, ◌+◌, ◌*◌, ◌≤◌}
use Rattle.mqb_drafts.specs.mqb_contents.Rooms.{IsGrown}
use Rattle.mqb_model.specs.Loops.{repeated}
use Rattle.mqb_model.specs.rules.Purges.{count_at, oldest_purged}
use Rattle.mqb_rules.proofs.purges.purged.Given as goal

abbrev pub invariant-loop : goal.invariant-loop
invariant-loop l = record {
  so_far : l.draft.effect ≡ repeated l.counter (oldest_purged l.lane l.at l.now) l.initial.draft.effect;
  end : l.end ≡ count_at l.lane l.fn.draft.effect.state l.at;
  start : l.draft.start ≡ l.initial.draft.start;
  grown : IsGrown l.initial.draft.rooms l.draft.rooms;
  held : l.draft.held ≤ l.initial.draft.held + 2 * l.counter;
}
