use Rattle.std.proofs.Common.{Some, subst, sym, ◌≡◌}
use Rattle.std.specs.Prelude.{IfSome}
use Rattle.mqb_trying.specs.Takes.{next_index}
use Rattle.mqb_trying.proofs.Walks.{found_behind}
use Rattle.mqb_trying.proofs.takes.index_behind.Goals as goal

pub returns-in-Some-clause-index : goal.returns-in-Some-clause-index
returns-in-Some-clause-index c =
    sym (subst (λ o. IfSome o (λ k. next_index (Some c.args.last) c.args.now c.args.messages.now ≡ Some k)) c.in-Some.is
    (found_behind c.args.last c.args.now c.args.messages.now c.index_at_least.result c.index_at_least.ensures.index))
