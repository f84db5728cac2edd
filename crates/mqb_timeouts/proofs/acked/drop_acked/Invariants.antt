use Rattle.std.proofs.Common.{◌≡◌, ◌≤◌}
use Rattle.mqb_base.specs.declared.message.Lane.TheVariants as lane
use Rattle.mqb_contents.specs.Rooms.{IsGrown}
use Rattle.mqb_contents.specs.mqb_tables.Waits.{plain_count}
use Rattle.mqb_model.specs.managers.Beside.{without_acked}
use Rattle.mqb_model.specs.state.Places.{with_plain}
use Rattle.mqb_timeouts.proofs.acked.drop_acked.Given as goal

abbrev pub invariant-loop-draft : goal.invariant-loop-draft
invariant-loop-draft l = record {
  same : with_plain (without_acked l.number) l.draft.effect.state l.peer ≡ with_plain (without_acked l.number) l.initial.draft.effect.state l.peer;
  lines : l.draft.effect.lines ≡ l.initial.draft.effect.lines;
  start : l.draft.start ≡ l.initial.draft.start;
  grown : IsGrown l.initial.draft.rooms l.draft.rooms;
  held : l.draft.held ≤ l.initial.draft.held;
}

abbrev pub decreases-loop-draft : goal.decreases-loop-draft
decreases-loop-draft l = plain_count l.draft.effect.state.plain l.peer lane.Express
