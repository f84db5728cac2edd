use Rattle.std.proofs.Common.{◌≡◌, ◌≤◌}
use Rattle.mqb_contents.specs.Rooms.{IsGrown}
use Rattle.mqb_model.specs.records.Stepwise.{releases_stepwise}
use Rattle.mqb_arrivals.proofs.releases.release_all.Given as goal

abbrev pub invariant-loop-number : goal.invariant-loop-number
invariant-loop-number l = record {
  so_far : releases_stepwise l.draft.effect l.number-iterator ≡ releases_stepwise l.initial.draft.effect l.numbers;
  start : l.draft.start ≡ l.initial.draft.start;
  grown : IsGrown l.initial.draft.rooms l.draft.rooms;
  held : l.draft.held ≤ l.initial.draft.held;
}
