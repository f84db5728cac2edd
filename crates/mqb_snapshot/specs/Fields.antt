-- The fields of a state, each with what it must be beside the parts before it.
use Rattle.std.specs.List.{list_any}
use Rattle.std.specs.Prelude.{◌&&◌, ◌==◌, ◌||◌, Bool, Err, List, None, Ok, Option, Result, Some}
use Rattle.std.specs.Prelude.{false, if◌then◌else◌, is_none, is_some, nat_le, not, option_and_then}
use Rattle.std.specs.Prelude.{true, ℕ}
use Rattle.mqb_base.specs.Same.{same_guid, same_ignoring_case}
use Rattle.mqb_base.specs.declared.ids.Guid.{Guid}
use Rattle.mqb_base.specs.declared.message.Delivery.{Delivery}
use Rattle.mqb_base.specs.declared.message.Delivery.TheVariants as delivery
use Rattle.mqb_base.specs.declared.message.Message.{Message}
use Rattle.mqb_base.specs.declared.queue_names.QueueName.{QueueName}
use Rattle.mqb_entries.specs.Fields.{field, flag_at, guid_at, name_at, outside, packet_at, u32_at}
use Rattle.mqb_entries.specs.declared.faults.EntryFault.{EntryFault}
use Rattle.mqb_fate.specs.Orders.{is_order_name}
use Rattle.mqb_fields.specs.Reading.{◌>>=◌, Reading, number_at, part_at, rest_of}
use Rattle.mqb_names.specs.Wire.{spelled, wire_at}
use Rattle.mqb_names.specs.declared.wire.WireFault.{WireFault}
use Rattle.mqb_packet.specs.declared.packet.Headers.{Headers}
use Rattle.mqb_packet.specs.declared.packet.UserPacket.{UserPacket}
use Rattle.mqb_queue.specs.Places.{found}
use Rattle.mqb_model.specs.records.Packets.{is_recoverable, is_too_large}
use Rattle.mqb_model.specs.records.Reading.{user_packet_of}
use Rattle.mqb_model.specs.state.Resolving.{is_registered, peer_known}
use Rattle.mqb_model.specs.state.State.{State}
use Rattle.mqb_snapshot.specs.Parts.{Parts, found_in, tested}
use Rattle.mqb_snapshot.specs.declared.messages.TheConstants.{NOBODY}

-- some manager that is known has a host
abbrev pub host_known : State → List ℕ → Bool
host_known s host = same_ignoring_case s.identity.host host
    || list_any (λ peer. same_ignoring_case peer.host host) s.peers

-- some manager that is known has a GUID
abbrev pub guid_known : State → Guid → Bool
guid_known s guid = same_guid s.identity.guid guid || is_some (peer_known s guid)

-- the host of a peer that is new
unfoldable pub host_at : State → Reading → Result (List ℕ × Reading) EntryFault
host_at s r = tested (λ host. not (host_known s host)) name_at r

-- the GUID of a peer that is new
unfoldable pub peer_guid_at : State → Reading → Result (Guid × Reading) EntryFault
peer_guid_at s r = tested (λ guid. not (guid_known s guid)) guid_at r

-- a name that is the order layer's or some queue's
abbrev pub is_queue_taken : State → List ℕ → Bool
is_queue_taken s name = is_order_name name || is_some (found s.places.queues name)

-- the name of a queue that is new
unfoldable pub queue_name_at : State → Reading → Result (List ℕ × Reading) EntryFault
queue_name_at s r = tested (λ name. not (is_queue_taken s name)) name_at r

-- some queue is registered under a GUID
abbrev pub guid_registered : State → Guid → Bool
guid_registered s guid = list_any (is_registered guid) s.places.queues

-- the GUID of a queue that is new
unfoldable pub queue_guid_at : State → Reading → Result (Guid × Reading) EntryFault
queue_guid_at s r = tested (λ guid. not (guid_registered s guid)) guid_at r

-- a flag, and that GUID where it is 1
unfoldable pub registered_at : State → Reading → Result (Option Guid × Reading) EntryFault
registered_at s r = do
  flag ← flag_at r
  if flag.0 then (queue_guid_at s flag.1 >>= λ guid. Ok (Some guid.0, guid.1))
      else Ok (None, flag.1)

-- a number within limits
unfoldable pub within_at : ℕ → ℕ → Reading → Result (ℕ × Reading) EntryFault
within_at least most r = tested (λ n. nat_le least n && nat_le n most) u32_at r

-- a packet in which a store has a message
abbrev pub is_stored : UserPacket → Bool
is_stored p = (is_recoverable p.message.delivery && is_none p.tx)
    && (is_none p.session && same_guid p.to NOBODY)

-- how its message travels
abbrev pub durably : Bool → Delivery
durably true = delivery.Transactional
durably false = delivery.Recoverable

-- the message of a packet in which a store has one
abbrev pub message_of : Bool → UserPacket → Option Message
message_of transactional p =
    if is_stored p then Some (record p.message { delivery = durably transactional }) else None

-- the message that a store has in the bytes of a packet
abbrev pub stored_in : Bool → List ℕ → Option Message
stored_in transactional bytes = option_and_then (message_of transactional) (user_packet_of bytes)

-- a message that can be carried with these headers
abbrev pub is_carried : Headers → Message → Bool
is_carried beside m = not (is_too_large beside m)

abbrev pub if_carried : Headers → Message → Option Message
if_carried beside m = if is_carried beside m then Some m else None

-- a packet in which a store has a message that can be carried with these headers
unfoldable pub message_at : Headers → Bool → Reading → Result (Message × Reading) EntryFault
message_at beside transactional r = do
  packet ← packet_at r
  found_in r packet.1 (option_and_then (if_carried beside) (stored_in transactional packet.0))

-- a message of the manager, with a number that no other one has
abbrev pub is_own : Parts → Message → Bool
is_own p m =
    same_guid m.id.qm p.state.identity.guid && not (list_any (λ n. m.id.number == n) p.numbers)

-- a packet in which a store has such a message
unfoldable pub own_at : Parts → Headers → Bool → Reading → Result (Message × Reading) EntryFault
own_at p beside transactional r = tested (is_own p) (message_at beside transactional) r

-- the name of a type that so many bytes spell, behind a byte at r
abbrev pub name_behind : Reading → Reading → ℕ → ℕ → Result (QueueName × Reading) EntryFault
name_behind r behind kind len = do
  part ← field r (part_at len behind)
  found_in r part.1 (spelled kind part.0)

abbrev pub name_in : Reading → Reading → ℕ → Result ℕ WireFault
    → Result (QueueName × Reading) EntryFault
name_in r behind kind (Ok len) = name_behind r behind kind len
name_in r behind kind (Err fault) = outside r

-- A queue's name in its wire form, behind its type. What is no name fails at the byte of the type.
unfoldable pub destination_at : Reading → Result (QueueName × Reading) EntryFault
destination_at r = do
  kind ← field r (number_at 1 r)
  name_in r kind.1 kind.0 (wire_at kind.0 (rest_of kind.1))
