-- What one end of a connection gave and heard, in its order: it hears packet by
-- packet, and answers each.
use Rattle.std.specs.Option.{option_map_or}
use Rattle.std.specs.Prelude.{[], ◌++◌, ◌∷◌, Err, List, Ok, Result, drop, if◌then◌else◌, is_some}
use Rattle.std.specs.Prelude.{length, map, ℕ}
use Rattle.mqb_fields.specs.declared.faults.HeadFault.{HeadFault}
use Rattle.mqb_packet.specs.Parts.{PacketParts, packet_of}
use Rattle.mqb_packet.specs.Spelled.{packet_in}
use Rattle.mqb_packet.specs.declared.packet.Packet.{Packet}
use Rattle.mqb_stream.specs.Framing.{Answer, Whole, next}
use Rattle.mqb_serving.specs.Conversations.{Conversation, StoredManager, byte_read, holding, opened}
use Rattle.mqb_serving.specs.declared.purpose.Purpose.{Purpose}
use Rattle.mqb_capture.specs.Events.{Event, Heard, Sent}

-- packets are given
abbrev pub given : List Packet → List Event
given packets = map (λ p. Sent p) packets

-- what a conversation gave, beyond what another gave
abbrev pub given_since : Conversation → Conversation → List Event
given_since c d = given (drop (length c.given) d.given)

-- the packet that was read of a frame is heard
abbrev pub heard_of : Result PacketParts HeadFault → List Event
heard_of (Ok parts) = option_map_or (λ p. Heard p ∷ []) (packet_in parts) []
heard_of (Err why) = []

-- what waits is heard where it is a whole packet
abbrev pub heard_in : Answer → List Event
heard_in (Whole frame) = heard_of (packet_of frame)
heard_in _ = []

-- the packet whose last byte comes; behind the end none is heard
abbrev pub heard_at : Conversation → ℕ → List Event
heard_at c byte = if is_some c.end then [] else heard_in (next (holding c (byte ∷ [])).framing)

-- each packet that these bytes are, and what is given once it was heard
abbrev pub events_from : Conversation → List ℕ → List Event
events_from c [] = []
events_from c (byte ∷ bytes) =
    heard_at c byte ++ given_since c (byte_read c byte) ++ events_from (byte_read c byte) bytes

-- all that one end gives and hears of a connection that brings these bytes
abbrev pub events_of : StoredManager → Purpose → ℕ → List ℕ → List Event
events_of m asks now bytes = let c = opened m asks now in given c.given ++ events_from c bytes
