use Rattle.std.proofs.Common.{◌≡◌, false, take}
use Rattle.std.specs.List.{list_any}
use Rattle.mqb_model.specs.records.Releases.{has_recoverable}
use Rattle.mqb_arrivals.proofs.releases.place_of.Given as goal

abbrev pub invariant-loop-peer : goal.invariant-loop-peer
invariant-loop-peer l = list_any (has_recoverable l.contents.lists l.number) (take l.peer l.contents.lists.plain) ≡ false
