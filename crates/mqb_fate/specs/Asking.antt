use Rattle.std.specs.Prelude.{ℕ, Bool, true, false, not, ◌==◌, ◌&&◌, Option, Some}
use Rattle.std.specs.Prelude.{None, if◌then◌else◌}
use Rattle.std.specs.Option.{option_map_or}
use Rattle.mqb_base.specs.declared.ids.Guid.{Guid}
use Rattle.mqb_base.specs.declared.bits.TheConstants.{POSITIVE_ARRIVAL, POSITIVE_RECEIVE}
use Rattle.mqb_base.specs.declared.bits.TheConstants.{NEGATIVE_ARRIVAL, NEGATIVE_RECEIVE}
use Rattle.mqb_base.specs.declared.class.Class.{Class}
use Rattle.mqb_base.specs.declared.class.TheConstants.Class.{NORMAL, REACHED_QUEUE, RECEIVED}
use Rattle.mqb_base.specs.declared.message.Message.{Message}
use Rattle.mqb_base.specs.declared.message.Delivery.{Delivery}
use Rattle.mqb_base.specs.declared.message.Delivery.TheVariants.{Transactional}
use Rattle.mqb_base.specs.declared.queues.Place.{Place}
use Rattle.mqb_base.specs.declared.queues.Place.TheVariants.{Dead, DeadXact}
use Rattle.mqb_base.specs.Bits.{has_bit, keeps_dead}
use Rattle.mqb_base.specs.Classes.{is_arrival_refusal, is_negative}
use Rattle.mqb_base.specs.Same.{same_guid}

-- no notice is made about a notice
abbrev pub is_ordinary : Message → Bool
is_ordinary m = m.class.0 == NORMAL.0

abbrev pub is_transactional : Delivery → Bool
is_transactional Transactional = true
is_transactional _ = false

-- the acknowledgement bit by which a message asks to hear of a class: positive arrival, positive
-- receive, negative arrival or negative receive
abbrev pub matching_bit : ℕ → Option ℕ
matching_bit class = if class == REACHED_QUEUE.0 then Some POSITIVE_ARRIVAL
    else if class == RECEIVED.0 then Some POSITIVE_RECEIVE
    else if is_arrival_refusal class then Some NEGATIVE_ARRIVAL
    else if is_negative class then Some NEGATIVE_RECEIVE
    else None

-- a message asks for an administration message about a class
abbrev pub asks_for : Message → Class → Bool
asks_for m class = option_map_or (λ bit. has_bit m.ack bit) (matching_bit class.0) false

-- A final acknowledgement is due to the source: an ordinary transactional message came from another
-- manager, has the dead-letter bit and met another class than that it reached its queue.
abbrev pub final_is_due : Message → Class → Guid → Bool
final_is_due m class own =
    (is_ordinary m && is_transactional m.delivery && not (same_guid m.id.qm own)) && keeps_dead m
    && not (class.0 == REACHED_QUEUE.0)

-- A message goes to a dead-letter queue: it met a negative class, has the dead-letter bit, and no
-- final acknowledgement was due.
abbrev pub goes_dead : Message → Class → Guid → Option Place
goes_dead m class own =
    if (is_ordinary m && is_negative class.0) && keeps_dead m && not (final_is_due m class own)
    then Some (if is_transactional m.delivery then DeadXact else Dead)
    else None
