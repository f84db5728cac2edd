use Rattle.std.proofs.Common.{◌≡◌, subst}
use Rattle.std.specs.Option.{IsSomeAnd}
use Rattle.std.specs.Prelude.{slice_get}
use Rattle.mqb_base.specs.declared.message.Lane.TheVariants.{Durable}
use Rattle.mqb_contents.specs.mqb_tables.Waits.{plain_count}
use Rattle.mqb_plain.specs.Lists.{InOrder}
use Rattle.mqb_snapshot.specs.Parts.{Parts}
use Rattle.mqb_read_back.proofs.Waiting.{can_wait}
use Rattle.mqb_read_back.proofs.parts.ReadParts.push_plain.Goals as goal

pub change-requires : goal.change-requires
change-requires c =
    can_wait c.args.self.now.state.plain c.args.peer c.plain_count-index.result c.args.message
    (subst (λ (p : Parts). c.plain_count-index.result ≡ plain_count p.state.plain c.args.peer Durable) c.self.view_is c.plain_count-index.ensures.count)
    (subst (λ (p : Parts). IsSomeAnd (slice_get p.state.plain c.args.peer) (λ l. InOrder l.recoverable)) c.self.view_is c.plain_count-index.ensures.in_order)
