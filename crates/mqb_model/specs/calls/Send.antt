-- The call send, of a message that is not transactional.
use Rattle.std.specs.Option.{option_map_or, option_or}
use Rattle.std.specs.Prelude.{◌&&◌, Bool, None, Ok, Option, Result, Some, false, if◌then◌else◌}
use Rattle.std.specs.Prelude.{nat_le, nat_lt, true, ℕ}
use Rattle.mqb_base.specs.declared.draft.Parts.{Parts}
use Rattle.mqb_base.specs.declared.ids.MessageId.{MessageId}
use Rattle.mqb_base.specs.declared.message.Message.{Message}
use Rattle.mqb_packet.specs.declared.packet.Headers.TheVariants as headers
use Rattle.mqb_queue.specs.Lists.{count}
use Rattle.mqb_queue.specs.Places.{Queue, numbered}
use Rattle.mqb_model.specs.calls.Messages.{plain_message}
use Rattle.mqb_model.specs.declared.faults.SendFault.{SendFault}
use Rattle.mqb_model.specs.declared.faults.SendFault.TheVariants as fault
use Rattle.mqb_model.specs.declared.limits.TheConstants.{MAX_NUMBER}
use Rattle.mqb_model.specs.declared.target.Target.{Target}
use Rattle.mqb_model.specs.declared.target.Target.TheVariants.{AtPeer, Here, Nowhere}
use Rattle.mqb_model.specs.managers.Beside as beside
use Rattle.mqb_model.specs.managers.Manager.{Manager, is_down}
use Rattle.mqb_model.specs.managers.Outcomes.{Outcome, changing, recording, unless}
use Rattle.mqb_model.specs.records.Packets.{is_too_large, packet_to}
use Rattle.mqb_model.specs.records.Record as entry
use Rattle.mqb_model.specs.state.Resolving.{resolved}
use Rattle.mqb_model.specs.state.State.{State}

-- why a queue takes no plain message of its own manager
abbrev pub queue_fault : Queue → Option SendFault
queue_fault q = if q.plan.transactional then Some fault.Transactional
    else if nat_le q.plan.quota (count q.lists) then Some fault.QueueFull
    else None

-- why a message may not go to a target
abbrev pub target_fault : State → Target → Option SendFault
target_fault s (AtPeer k) = None
target_fault s Nowhere = Some fault.UnknownPeer
target_fault s (Here None) = Some fault.NoQueue
target_fault s (Here (Some number)) = option_map_or queue_fault
    (numbered s.places.queues number) (Some fault.NoQueue)

-- why it is not sent, the target left aside
abbrev pub message_fault : State → Bool → Message → Option SendFault
message_fault s recoverable m =
    if recoverable && nat_lt MAX_NUMBER s.next_number then Some fault.NumbersSpent
    else if is_too_large headers.Session m then Some fault.TooLarge
    else None

-- the first reason against a message
abbrev pub send_refusal : Manager → Bool → Message → Option SendFault
send_refusal m recoverable message = if is_down m then Some fault.Down
    else option_or (target_fault m.state (resolved m.state message.destination))
    (message_fault m.state recoverable message)

-- the record of a message that is sent
abbrev pub plain_entry : State → ℕ → Message → entry.Record
plain_entry s now message = entry.Plain now (packet_to s (resolved s message.destination) message)

-- a message is sent, a recoverable one by a record
abbrev pub sending : Manager → Bool → Message → ℕ → Outcome (Result MessageId SendFault)
sending m true message now = recording m (plain_entry m.state now message) (Ok message.id)
sending m false message now = changing m (beside.SendsExpress now message) (Ok message.id)

-- unless it is refused
abbrev pub send_message : Manager → Bool → Message → ℕ → Outcome (Result MessageId SendFault)
send_message m recoverable message now =
    unless m (send_refusal m recoverable message) (sending m recoverable message now)

-- it answers the message's identifier
abbrev pub send : Manager → Parts → (recoverable : Bool) → ℕ → Outcome (Result MessageId SendFault)
send m p recoverable now = send_message m recoverable (plain_message m.state recoverable now p) now
