-- Why a message that arrives is refused, by the first reason that holds.
use Rattle.std.specs.Option.{option_map_or}
use Rattle.std.specs.Prelude.{◌==◌, Bool, Option, Some, false, if◌then◌else◌, true}
use Rattle.mqb_base.specs.declared.class.Class.{Class}
use Rattle.mqb_base.specs.declared.class.TheConstants.Class.{BAD_DESTINATION, REACH_TIMEOUT}
use Rattle.mqb_base.specs.declared.message.Delivery.{Delivery}
use Rattle.mqb_base.specs.declared.message.Delivery.TheVariants.{Express}
use Rattle.mqb_fate.specs.Asking.{is_transactional}
use Rattle.mqb_packet.specs.declared.packet.UserPacket.{UserPacket}
use Rattle.mqb_queue.specs.Arrival.{length_met, queue_refusal}
use Rattle.mqb_queue.specs.Places.{Queue, numbered}
use Rattle.mqb_model.specs.declared.target.Target.{Target}
use Rattle.mqb_model.specs.declared.target.Target.TheVariants.{Here}
use Rattle.mqb_model.specs.state.Resolving.{is_for_order_layer, resolved}
use Rattle.mqb_model.specs.state.State.{State}

-- a message that is not express is judged by a record, and so meets the durable messages alone
abbrev pub is_recorded : Delivery → Bool
is_recorded Express = false
is_recorded _ = true

-- why a queue refuses a message
abbrev pub refusal_by : Delivery → Queue → Option Class
refusal_by delivery q =
    queue_refusal q.plan (length_met (is_recorded delivery) q.lists) (is_transactional delivery)

-- why a target refuses it
abbrev pub target_refusal : State → Target → Delivery → Option Class
target_refusal s (Here (Some number)) delivery = option_map_or (refusal_by delivery)
    (numbered s.places.queues number) (Some BAD_DESTINATION)
target_refusal s _ delivery = Some BAD_DESTINATION

-- why its arrival is refused: no time was left for it, or its destination refuses it
abbrev pub refusal_of : State → UserPacket → Option Class
refusal_of s p = if p.remaining == 0
    then Some REACH_TIMEOUT
    else target_refusal s (resolved s p.message.destination) p.message.delivery

-- why a recoverable message is: the order layer takes none
abbrev pub storing_refusal : State → UserPacket → Option Class
storing_refusal s p = if is_for_order_layer s p.message.destination
    then Some BAD_DESTINATION
    else refusal_of s p
