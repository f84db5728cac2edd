use Rattle.std.proofs.Common.{sym, subst}
use Rattle.mqb_model.specs.rules.Effects.{Effect}
use Rattle.mqb_records.specs.Ordered.{IsOrdered}
use Rattle.mqb_records.proofs.Ordering.{sent_ordered}
use Rattle.mqb_records.proofs.commit.send.Goals as goal

pub returns-clause-ordered : goal.returns-clause-ordered
returns-clause-ordered c = subst (λ (e : Effect). IsOrdered e.state) (sym c.in_ok-message_sent.ensures.ok)
    (sent_ordered c.args.now c.args.draft.now.effect c.in_transaction.result c.requires)
