-- Packets that a manager gives out, and their strings.
use Rattle.std.specs.List.{AllByRecursion}
use Rattle.std.specs.Prelude.{◌++◌, ◌≡◌, ◌≤◌, List, flat_map, map, ℕ}
use Rattle.mqb_heads.specs.declared.base.TheConstants.{MAX_PACKET}
use Rattle.mqb_packet.specs.Plain.{IsWellFormedPacket, packet_size, plain_spelling}
use Rattle.mqb_packet.specs.Values.{IsPacket}
use Rattle.mqb_packet.specs.declared.packet.Packet.{Packet}

-- a packet that can be written, within the limit
pub record IsWritable (p : Packet) : Type 0 where
  pub well_formed : IsWellFormedPacket p
  pub numbers : IsPacket p
  pub size : packet_size p ≤ MAX_PACKET

-- each of them can
abbrev pub AreWritable : List Packet → Type 0
AreWritable packets = AllByRecursion IsWritable packets

-- bytes begin with a packet
pub record BeginWithPacket (bytes : List ℕ) : Type 0 where
  pub packet : Packet
  pub rest : List ℕ
  pub writable : IsWritable packet
  pub are : bytes ≡ plain_spelling packet ++ rest

-- bytes are the plain spellings of packets, one behind the other
pub record SpellPackets (bytes : List ℕ) : Type 0 where
  pub packets : List Packet
  pub writable : AreWritable packets
  pub are : bytes ≡ flat_map plain_spelling packets

-- strings are the plain spellings of packets
pub record ArePackets (strings : List (List ℕ)) : Type 0 where
  pub packets : List Packet
  pub writable : AreWritable packets
  pub are : strings ≡ map plain_spelling packets
