use Rattle.std.proofs.Common.{◌≤◌, List, sym, subst}
use Rattle.std.specs.List.{All}
use Rattle.mqb_base.specs.declared.message.Message.{Message}
use Rattle.mqb_queue.specs.Levels.{Counted}
use Rattle.mqb_queue.specs.Passes.{ArePassed}
use Rattle.mqb_queue.proofs.Levels.{none_above}
use Rattle.mqb_queue.proofs.messages.MessageList.first_index.Goals as goal

pub first_index-requires-clause-bound : goal.first_index-requires-clause-bound
first_index-requires-clause-bound c =
    let l = c.self.inside in
    subst (λ (ms : List Message). All (λ m. m.priority ≤ c.bound_of-bound.result) ms) (sym c.as_split-messages.ensures.items)
    (none_above l.counts l.top c.bound_of-bound.result l.messages.items c.self.invariant.counted c.bound_of-bound.ensures c.self.invariant.bounded)

pub first_index-requires-clause-counted : goal.first_index-requires-clause-counted
first_index-requires-clause-counted c =
    subst (λ (ms : List Message). Counted c.self.inside.counts ms) (sym c.as_split-messages.ensures.items) c.self.invariant.counted

pub first_index-requires-clause-passed : goal.first_index-requires-clause-passed
first_index-requires-clause-passed c =
    subst (λ (ms : List Message). ArePassed c.self.inside.passes ms) (sym c.as_split-messages.ensures.items) c.self.invariant.passed
