-- The ops of a transaction, as an entry shows them: their packets are bytes.
use Rattle.std.specs.Option.{option_map_or}
use Rattle.std.specs.Prelude.{[], ◌&&◌, ◌+◌, ◌∷◌, Bool, List, None, Option, Some, false, filter_map}
use Rattle.std.specs.Prelude.{if◌then◌else◌, map, option_map, true, ℕ}
use Rattle.mqb_base.specs.declared.queues.EntryPlace.TheVariants as place
use Rattle.mqb_entries.specs.declared.members.OpView.{OpView}
use Rattle.mqb_entries.specs.declared.members.OpView.TheVariants.{Send, Take}
use Rattle.mqb_packet.specs.declared.packet.Headers.TheVariants as headers
use Rattle.mqb_packet.specs.declared.packet.UserPacket.{UserPacket}
use Rattle.mqb_model.specs.records.Commit.{join_fits, take_fits}
use Rattle.mqb_model.specs.records.Packets.{in_transaction, is_sendable}
use Rattle.mqb_model.specs.records.Reading.{all_some, op_of, user_packet_of}
use Rattle.mqb_model.specs.records.Record.{Record}
use Rattle.mqb_model.specs.records.Record as entry
use Rattle.mqb_model.specs.records.Stepwise.{sends_stepwise}
use Rattle.mqb_model.specs.rules.Effects.{Effect}
use Rattle.mqb_model.specs.rules.Takes.{taken}
use Rattle.mqb_model.specs.state.Resolving.{resolved}
use Rattle.mqb_model.specs.state.State.{State}

-- bytes are a user packet that a transaction can send under a number
abbrev pub bytes_fit : State → ℕ → List ℕ → Bool
bytes_fit s number bytes =
    option_map_or (is_sendable s headers.TxAndSession number) (user_packet_of bytes) false

-- those of all sends are, under numbers from this one on
abbrev pub packets_fit : State → ℕ → List OpView → Bool
packets_fit s number [] = true
packets_fit s number (Send bytes ∷ ops) = bytes_fit s number bytes && packets_fit s (number + 1) ops
packets_fit s number (Take queue id ∷ ops) = packets_fit s number ops

-- the packet of an op that sends one
abbrev pub packet_shown : OpView → Option UserPacket
packet_shown (Send bytes) = user_packet_of bytes
packet_shown (Take queue id) = None

-- those of all sends, in order
abbrev pub packets_shown : List OpView → List UserPacket
packets_shown ops = filter_map packet_shown ops

-- how many take
abbrev pub takes_in : List OpView → ℕ
takes_in [] = 0
takes_in (Send bytes ∷ ops) = takes_in ops
takes_in (Take queue id ∷ ops) = 1 + takes_in ops

-- the takes are made, where each is there after those before it
abbrev pub takes_tried : ℕ → Effect → List OpView → Option Effect
takes_tried now e [] = Some e
takes_tried now e (Send bytes ∷ ops) = takes_tried now e ops
takes_tried now e (Take queue id ∷ ops) = if take_fits e.state now (place.Queue queue) id
    then takes_tried now (taken (place.Queue queue) id now e) ops
    else None

-- the message of a packet finds its sequence
abbrev pub packet_joins : State → UserPacket → Bool
packet_joins s p = join_fits s (resolved s p.message.destination) p.message.destination

-- the messages of packets are sent, where each does after those before it
abbrev pub sends_tried : ℕ → Effect → List UserPacket → Option Effect
sends_tried now e packets = sends_stepwise now e (map in_transaction packets)

-- the record of a transaction, where all its packets are user packets
abbrev pub record_shown : ℕ → List OpView → Option Record
record_shown now ops = option_map (λ ops. entry.Commit now ops) (all_some (map op_of ops))
