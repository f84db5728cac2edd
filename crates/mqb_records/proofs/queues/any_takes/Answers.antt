use Rattle.std.proofs.Common.{refl, sym, ◌∙◌}
use Rattle.std.specs.Option.{option_map_or}
use Rattle.std.specs.Prelude.{◌||◌, false}
use Rattle.mqb_base.specs.Same.{same_guid, same_ignoring_case}
use Rattle.mqb_model.specs.records.Peer.{is_taken_by}
use Rattle.mqb_records.proofs.Finding.{queue_fails, queue_passes}
use Rattle.mqb_records.proofs.queues.any_takes.Goals as goal

pub returns-then-is_taken_by : goal.returns-then-is_taken_by
returns-then-is_taken_by c = sym (queue_passes (is_taken_by c.args.plan.now)
    (λ other. same_ignoring_case other.name c.args.plan.now.name || option_map_or (λ guid. option_map_or (same_guid guid) other.public false) c.args.plan.now.public false)
    (λ q. refl) c.args.queues.now.lists.queues c.loop-k.k c.plan.result.now c.plan.ensures (sym c.is_taken_by.ensures ∙ c.if-is_taken_by.true))

pub loop-k-preserved : goal.loop-k-preserved
loop-k-preserved c = queue_fails (is_taken_by c.args.plan.now)
    (λ other. same_ignoring_case other.name c.args.plan.now.name || option_map_or (λ guid. option_map_or (same_guid guid) other.public false) c.args.plan.now.public false)
    (λ q. refl) c.args.queues.now.lists.queues c.loop-k.k c.plan.result.now c.loop-k.invariant c.plan.ensures (sym c.is_taken_by.ensures ∙ c.if-is_taken_by.false)
