-- Laws of connections.
use Rattle.std.specs.Prelude.{[], ◌+◌, ◌++◌, ◌<◌, ◌≡◌, ◌≤◌, List, None, Some, fold, if◌then◌else◌}
use Rattle.std.specs.Prelude.{is_some, length, true, ℕ}
use Rattle.std.specs.List.{AllByRecursion}
use Rattle.mqb_heads.specs.declared.base.TheConstants.{MAX_PACKET}
use Rattle.mqb_packet.specs.Plain.{IsWellFormedPacket, packet_size, plain_spelling}
use Rattle.mqb_packet.specs.Values.{IsPacket}
use Rattle.mqb_packet.specs.declared.packet.Packet.{Packet}
use Rattle.mqb_stream.specs.Cutting.{joined}
use Rattle.mqb_stream.specs.Framing.{advanced, fed, next, wants_more}
use Rattle.mqb_stream.specs.Histories.{part_of}
use Rattle.mqb_serving.specs.declared.purpose.Purpose.{Purpose}
use Rattle.mqb_model.specs.managers.Valid.{IsValidManager}
use Rattle.mqb_serving.specs.Conversations.{Conversation, End, StoredManager, bytes_of, count_read}
use Rattle.mqb_serving.specs.Conversations.{heard, holding, looked_at, opened, pumped}
use Rattle.mqb_serving.specs.Conversations.{read_on, served}
use Rattle.mqb_serving.specs.declared.limits.TheConstants.{MAX_PUMPS, MAX_READ}

-- The pieces in which bytes come do not matter.
abbrev pub CuttingDoesNotMatter : Type 0
CuttingDoesNotMatter =
    (c : Conversation) (pieces others : List (List ℕ)) → joined pieces ≡ joined others
    → fold read_on c pieces ≡ fold read_on c others

-- bytes with which others begin
abbrev pub Begins : List ℕ → List ℕ → Type 0
Begins front bytes = (rest : List ℕ) × (bytes ≡ front ++ rest)

-- What is written for the first of the bytes that come begins what is written for all.
abbrev pub PrefixesWritePrefixes : Type 0
PrefixesWritePrefixes = (m : StoredManager) (asks : Purpose) (now : ℕ) (front more : List ℕ)
    → Begins (served m asks now front).written (served m asks now (front ++ more)).written

-- A connection that has ended is not changed by what comes.
abbrev pub EndsLast : Type 0
EndsLast = (c : Conversation) (end : End) (bytes : List ℕ) → c.end ≡ Some end → read_on c bytes ≡ c

-- A connection that goes on: its framer wants more bytes of a packet.
pub record GoesOn (c : Conversation) : Type 0 where
  pub end : c.end ≡ None
  pub wants : wants_more (next c.framing) ≡ true

-- Where a framer takes its part of a piece, that part is read, and then what is
-- held is looked at once.
abbrev pub PiecesFillPackets : Type 0
PiecesFillPackets = (c : Conversation) (piece : List ℕ) → GoesOn c → 0 < length piece
    → count_read c + length piece ≤ MAX_READ
    → read_on c (part_of c.framing piece) ≡ looked_at (record c { framing = fed c.framing piece })

-- a packet that can be written, within the limit
pub record IsWritable (p : Packet) : Type 0 where
  pub well_formed : IsWellFormedPacket p
  pub numbers : IsPacket p
  pub size : packet_size p ≤ MAX_PACKET

-- a whole packet comes and is dropped from the framer
abbrev pub passed : Conversation → List ℕ → Conversation
passed c frame = record c { framing = advanced (holding c frame).framing }

-- a packet comes; behind the end none is heard
abbrev pub packet_heard : Conversation → Packet → Conversation
packet_heard c p = if is_some c.end then c else heard (passed c (plain_spelling p)) p

-- a connection whose framer holds nothing, and may hold the greatest packet
pub record IsBetween (c : Conversation) : Type 0 where
  pub limit : c.framing.limit ≡ MAX_PACKET
  pub held : c.framing.held ≡ []

-- What is written for packets is heard as these packets.
abbrev pub PacketsAreHeard : Type 0
PacketsAreHeard =
    (c : Conversation) (packets : List Packet) → IsBetween c → AllByRecursion IsWritable packets
    → count_read c + length (bytes_of packets) < MAX_READ
    → read_on c (bytes_of packets) ≡ fold packet_heard c packets

-- A valid manager that pumps comes to a pump that sends nothing: more pumps would change nothing.
abbrev pub PumpsComeToRest : Type 0
PumpsComeToRest = (c : Conversation) (more : ℕ) → IsValidManager c.stored.manager
    → pumped (MAX_PUMPS + more) c ≡ pumped MAX_PUMPS c
