use Rattle.std.proofs.Common.{sym, ◌∙◌, false}
use Rattle.std.specs.Option.{option_map_or}
use Rattle.mqb_base.specs.Same.{same_guid}
use Rattle.mqb_read_back.proofs.Searching.{seen_fails, seen_passes}
use Rattle.mqb_read_back.proofs.queues.guid_registered.Goals as goal

pub returns-then-is_registered : goal.returns-then-is_registered
returns-then-is_registered c = sym (seen_passes (λ q. q.plan) (λ plan. option_map_or (same_guid c.args.guid) plan.public false)
    c.args.queues.now.lists.queues c.loop-k.k c.plan.result.now c.plan.ensures (sym c.is_registered.ensures ∙ c.if-is_registered.true))

pub loop-k-preserved : goal.loop-k-preserved
loop-k-preserved c = seen_fails (λ q. q.plan) (λ plan. option_map_or (same_guid c.args.guid) plan.public false)
    c.args.queues.now.lists.queues c.loop-k.k c.plan.result.now c.loop-k.invariant c.plan.ensures (sym c.is_registered.ensures ∙ c.if-is_registered.false)
