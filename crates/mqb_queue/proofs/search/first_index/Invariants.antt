use Rattle.std.proofs.Common.{◌≡◌, ◌≤◌, ◌+◌, true}
use Rattle.std.specs.List.{All}
use Rattle.mqb_queue.specs.First.{is_wanted}
use Rattle.mqb_queue.proofs.search.first_index.Given as goal

abbrev pub invariant-loop-k : goal.invariant-loop-k
invariant-loop-k l = record {
  below : All (λ m. is_wanted l.choice.at l.choice.moment l.choice.id m ≡ true → m.priority + l.k ≤ l.bound) l.messages;
}
