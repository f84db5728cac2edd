-- What a framer holds, answers and takes.
use Rattle.std.specs.Prelude.{ℕ, ◌+◌, ◌-◌, ◌^◌, ◌<◌, ◌≤◌, Bool, true, false, nat_lt, List, [], ◌++◌}
use Rattle.std.specs.Prelude.{take, length, Result, Ok, Err, if◌then◌else◌}
use Rattle.mqb_fields.specs.declared.faults.HeadFault.{HeadFault}
use Rattle.mqb_heads.specs.declared.base.TheConstants.{MIN_PACKET, MAX_PACKET}
use Rattle.mqb_stream.specs.declared.framer.Full.{Full}
use Rattle.mqb_stream.specs.declared.framer.Next.{Next}
use Rattle.mqb_stream.specs.declared.framer.Next.TheVariants as answer
use Rattle.mqb_stream.specs.Cutting.{packet_size}

-- the greatest size of a packet, the room of the buffer, the place in the stream of the present
-- packet's first byte, and the bytes of it that were taken
pub record Framing : Type 0 where
  pub limit : ℕ
  pub room : ℕ
  pub place : ℕ
  pub held : List ℕ

-- what is to be done: a whole packet, a bad base header, or a count of bytes that are wanted
pub data Answer : Type 0 where
  Whole : (bytes : List ℕ) → Answer
  Broken : (fault : HeadFault) (place : ℕ) → Answer
  Wants : (need : ℕ) → Answer

-- an answer without where it lies in memory
abbrev pub answer_of : Next → Answer
answer_of (answer.Packet bytes) = Whole bytes.now
answer_of (answer.Bad fault place) = Broken fault place
answer_of (answer.More need) = Wants need

-- what is to be done of a packet, by its size
abbrev pub by_size : Framing → Result ℕ HeadFault → Answer
by_size f (Ok size) =
    if nat_lt (length f.held) size then Wants (size - length f.held) else Whole f.held
by_size f (Err fault) = Broken fault f.place

unfoldable pub next : Framing → Answer
next f = if nat_lt (length f.held) 16 then Wants (16 - length f.held)
    else by_size f (packet_size f.limit f.held)

abbrev pub wants_more : Answer → Bool
wants_more (Wants need) = true
wants_more other = false

abbrev pub is_whole : Answer → Bool
is_whole (Whole bytes) = true
is_whole other = false

abbrev pub end_by : Result ℕ HeadFault → ℕ
end_by (Ok size) = size
end_by (Err fault) = 16

-- how far the packet at the front of bytes reaches, as far as it is known: to the end of its
-- base header at least
unfoldable pub packet_end : ℕ → List ℕ → ℕ
packet_end limit bytes = if nat_lt (length bytes) 16 then 16 else end_by (packet_size limit bytes)

-- the framer once bytes were offered: it holds what belongs to the present packet
unfoldable pub fed : Framing → List ℕ → Framing
fed f bytes = record f { held = take (packet_end f.limit (f.held ++ bytes)) (f.held ++ bytes) }

-- how many of the bytes it takes, where no packet and no bad header waits
abbrev pub taken_of : Framing → List ℕ → Result ℕ Full
taken_of f bytes =
    if wants_more (next f) then Ok (length (fed f bytes).held - length f.held) else Err (record {})

-- the framer once the packet was dropped
abbrev pub advanced : Framing → Framing
advanced f = record f { place = f.place + length f.held; held = [] }

-- The bytes that are held are of one packet, and there is room for the greatest.
pub record IsFramer (limit place : ℕ) (held : List ℕ) (room : ℕ) : Type 0 where
  pub least : MIN_PACKET ≤ limit
  pub most : limit ≤ MAX_PACKET
  pub room_fits : limit ≤ room
  pub one_packet : length held ≤ packet_end limit held
  pub place_fits : place + length held < 2 ^ 64
