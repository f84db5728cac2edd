use Rattle.std.proofs.Common.{◌≡◌, drop}
use Rattle.mqb_disk.specs.Extent.{standing}
use Rattle.mqb_disk.specs.Picks.{left_by}
use Rattle.mqb_disk.proofs.change.replay.Given as goal

abbrev pub invariant-loop-change : goal.invariant-loop-change
invariant-loop-change l = record {
  room : l.image.room ≡ l.initial.image.room;
  left : left_by l.pick (standing l.now) (drop l.change-index l.changes) l.image.contents ≡ left_by l.pick (standing l.now) l.changes l.initial.image.contents;
}
