-- Why a message that arrives is refused.
use Rattle.std.specs.Prelude.{ℕ, Bool, not, ◌==◌, ◌&&◌, nat_le, List, length, slice_get, Option}
use Rattle.std.specs.Prelude.{Some, None, option_map, option_and_then, if◌then◌else◌}
use Rattle.std.specs.Option.{option_map_or}
use Rattle.mqb_base.specs.declared.class.Class.{Class}
use Rattle.mqb_base.specs.declared.class.TheConstants.Class.{BAD_DESTINATION, REACH_TIMEOUT}
use Rattle.mqb_base.specs.declared.class.TheConstants.Class.{QUOTA_EXCEEDED}
use Rattle.mqb_base.specs.declared.class.TheConstants.Class.{QUEUE_NOT_TRANSACTIONAL}
use Rattle.mqb_base.specs.declared.class.TheConstants.Class.{MESSAGE_NOT_TRANSACTIONAL}
use Rattle.mqb_base.specs.declared.queues.QueuePlan.{QueuePlan}
use Rattle.mqb_queue.specs.Lists.{Lists, count}
use Rattle.mqb_queue.specs.Places.{Queue}

-- the length that an arrival meets: where it is recorded, the durable messages alone, so that the
-- record decides the same whenever it is read
abbrev pub length_met : Bool → Lists → ℕ
length_met recorded l = if recorded then length l.durable else count l

-- why a queue of this plan and length refuses an arrival: it is not of the
-- message's kind, or it is full
abbrev pub queue_refusal : QueuePlan → ℕ → Bool → Option Class
queue_refusal plan messages transactional =
    if transactional && not plan.transactional then Some QUEUE_NOT_TRANSACTIONAL
    else if not transactional && plan.transactional then Some MESSAGE_NOT_TRANSACTIONAL
    else if nat_le plan.quota messages then Some QUOTA_EXCEEDED
    else None

-- why the queue that a name leads to refuses it, or that there is none
abbrev pub destination_refusal : Option QueuePlan → ℕ → Bool → Option Class
destination_refusal None messages transactional = Some BAD_DESTINATION
destination_refusal (Some plan) messages transactional = queue_refusal plan messages transactional

-- why an arrival is refused, the first reason: no time is left to reach the queue, or the
-- destination refuses it
abbrev pub arrival_refusal : Option QueuePlan → ℕ → Bool → ℕ → Option Class
arrival_refusal plan messages transactional remaining =
    if remaining == 0 then Some REACH_TIMEOUT else destination_refusal plan messages transactional

-- why an arrival is refused at the queue at a place in the list, or at none
abbrev pub refusal_at : List Queue → Option ℕ → Bool → Bool → ℕ → Option Class
refusal_at queues k transactional recorded remaining =
    let queue = option_and_then (slice_get queues) k in
    arrival_refusal (option_map (λ q. q.plan) queue)
    (option_map_or (λ q. length_met recorded q.lists) queue 0) transactional remaining
