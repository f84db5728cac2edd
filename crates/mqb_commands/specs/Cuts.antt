-- The packets at the front of a stream, and why what follows them is none.
use Rattle.std.specs.Prelude.{◌++◌, ◌≡◌, ◌⊎◌, Err, IsOk, List, true, ℕ}
use Rattle.std.specs.List.{AllByRecursion}
use Rattle.mqb_fields.specs.declared.faults.HeadFault.{HeadFault}
use Rattle.mqb_heads.specs.declared.base.TheConstants.{MAX_PACKET}
use Rattle.mqb_packet.specs.Parts.{packet_of}
use Rattle.mqb_stream.specs.Cutting.{joined}
use Rattle.mqb_stream.specs.Framing.{Broken, Framing, Whole, next, wants_more}

-- a framer that holds these bytes, the first of which stands at a place of the stream
abbrev pub held_at : ℕ → List ℕ → Framing
held_at place bytes = record { limit = MAX_PACKET; room = MAX_PACKET; place = place; held = bytes }

-- The bytes at a place begin a packet that is not whole, or there are none.
abbrev pub IsUnfinished : ℕ → List ℕ → Type 0
IsUnfinished place bytes = wants_more (next (held_at place bytes)) ≡ true

-- The bytes at a place have a bad base header, or they are a frame that is no packet.
abbrev pub IsBad : ℕ → List ℕ → HeadFault → Type 0
IsBad place bytes why = (next (held_at place bytes) ≡ Broken why place)
    ⊎ ((next (held_at place bytes) ≡ Whole bytes) × (packet_of bytes ≡ Err why))

-- some of these bytes, from the first on, are bad
pub record BeginsBad (place : ℕ) (bytes : List ℕ) (why : HeadFault) : Type 0 where
  pub front : List ℕ
  pub unread : List ℕ
  pub whole : bytes ≡ front ++ unread
  pub bad : IsBad place front why

-- bytes that are packets, one after another, and a rest
pub record IsCut (bytes : List ℕ) (packets : List (List ℕ)) (rest : List ℕ) : Type 0 where
  pub whole : bytes ≡ joined packets ++ rest
  pub each : AllByRecursion (λ packet. IsOk (packet_of packet)) packets
