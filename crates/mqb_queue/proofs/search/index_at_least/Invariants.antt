use Rattle.std.proofs.Common.{◌≡◌, false, leb, ◌&&◌, take}
use Rattle.std.specs.List.{All}
use Rattle.mqb_queue.specs.First.{is_wanted}
use Rattle.mqb_queue.proofs.search.index_at_least.Given as goal

abbrev pub invariant-loop-index : goal.invariant-loop-index
invariant-loop-index l = record {
  none : All (λ m. (is_wanted l.choice.at l.choice.moment l.choice.id m && leb l.priority m.priority) ≡ false) (take l.index l.messages);
}
