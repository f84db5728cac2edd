use Rattle.std.proofs.Common.{◌≡◌, ◌-◌, ◌≤◌}
use Rattle.mqb_contents.specs.Rooms.{IsGrown}
use Rattle.mqb_contents.specs.Rows.{kept_count, with_out}
use Rattle.mqb_drafts.specs.Rows.{StaysBefore, releasing}
use Rattle.mqb_drafts.proofs.drafts.Draft.release.Given as goal

abbrev pub invariant-loop-self : goal.invariant-loop-self
invariant-loop-self l = record {
  same : with_out (releasing l.number) l.self.effect.state l.row ≡ with_out (releasing l.number) l.initial.self.effect.state l.row;
  lines : l.self.effect.lines ≡ l.initial.self.effect.lines;
  stays : StaysBefore l.self.effect.state l.row l.index;
  start : l.self.start ≡ l.initial.self.start;
  grown : IsGrown l.initial.self.rooms l.self.rooms;
  held : l.self.held ≤ l.initial.self.held;
}

abbrev pub decreases-loop-self : goal.decreases-loop-self
decreases-loop-self l = kept_count l.self.effect.state.outs l.row - l.index
