use Rattle.std.proofs.Common.{◌≡◌, ◌≤◌}
use Rattle.mqb_contents.specs.Rooms.{IsGrown}
use Rattle.mqb_model.specs.records.Stepwise.{marks_stepwise}
use Rattle.mqb_records.proofs.offered.raise_all.Given as goal

abbrev pub invariant-loop-mark : goal.invariant-loop-mark
invariant-loop-mark l = record {
  so_far : marks_stepwise l.draft.effect.state l.mark-iterator ≡ marks_stepwise l.initial.draft.effect.state l.marks;
  lines : l.draft.effect.lines ≡ l.initial.draft.effect.lines;
  start : l.draft.start ≡ l.initial.draft.start;
  grown : IsGrown l.initial.draft.rooms l.draft.rooms;
  held : l.draft.held ≤ l.initial.draft.held;
}
