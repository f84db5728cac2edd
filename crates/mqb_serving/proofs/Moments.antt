-- All calls of a connection have one moment.
use Rattle.std.proofs.Common.{◌≡◌, ◌==◌, Bool, true, false, List, [], ◌∷◌, Option, None, Some, Result, Ok, Err, ℕ, zero, suc, cond, is_some, refl, ◌∙◌}
use Rattle.std.specs.Option.{option_map_or, option_or}
use Rattle.mqb_fields.specs.declared.faults.HeadFault.{HeadFault}
use Rattle.mqb_packet.specs.Parts.{PacketParts, packet_of}
use Rattle.mqb_packet.specs.Spelled.{packet_in}
use Rattle.mqb_packet.specs.declared.packet.Packet.{Packet}
use Rattle.mqb_stream.specs.Framing.{Answer, Broken, Wants, Whole, advanced, next}
use Rattle.mqb_model.specs.calls.pump.Pump.{PumpOutcome, pump}
use Rattle.mqb_serving.specs.Conversations.{Conversation, answered, at_rest, byte_read, count_read, gave, heard, heard_as, holding, looked_at, pumped, read_on, sent_some}
use Rattle.mqb_serving.specs.declared.faults.PeerFault.TheVariants as fault
use Rattle.mqb_serving.specs.declared.limits.TheConstants.{MAX_PUMPS, MAX_READ}
use Rattle.mqb_serving.specs.Serving.{hearing}

pump_now : (count : ℕ) (c : Conversation) (outcome : PumpOutcome) (some : Bool) → ((d : Conversation) → (pumped count d).now ≡ d.now)
    → (cond some (pumped count (gave outcome c)) (at_rest outcome.answer (gave outcome c))).now ≡ c.now
pump_now count c outcome true more = more (gave outcome c)
pump_now count c outcome false more = refl

pub pumped_now : (count : ℕ) (c : Conversation) → (pumped count c).now ≡ c.now
pumped_now zero c = refl
pumped_now (suc count) c = pump_now count c (pump c.stored.manager c.now) (sent_some (pump c.stored.manager c.now).answer) (pumped_now count)

packet_now : (c : Conversation) (p : Option Packet) → (option_map_or (heard c) p c).now ≡ c.now
packet_now c (Some p) = pumped_now MAX_PUMPS (hearing c p)
packet_now c None = refl

frame_now : (place : ℕ) (read : Result PacketParts HeadFault) (c : Conversation) → (heard_as place read c).now ≡ c.now
frame_now place (Ok parts) c = packet_now c (packet_in parts)
frame_now place (Err why) c = refl

answer_now : (answer : Answer) (c : Conversation) → (answered answer c).now ≡ c.now
answer_now (Whole frame) c = frame_now c.framing.place (packet_of frame) (record c { framing = advanced c.framing })
answer_now (Broken why place) c = refl
answer_now (Wants need) c = refl

limit_now : (c ended : Conversation) (b : Bool) → ended.now ≡ c.now → (cond b ended c).now ≡ c.now
limit_now c ended true same = same
limit_now c ended false same = refl

look_now : (c : Conversation) → (looked_at c).now ≡ c.now
look_now c = let d = answered (next c.framing) c in
    limit_now d (record d { end = option_or d.end (Some (Err fault.TooMuch)) }) (count_read d == MAX_READ) refl ∙ answer_now (next c.framing) c

byte_now : (c : Conversation) (byte : ℕ) (b : Bool) → (cond b c (looked_at (holding c (byte ∷ [])))).now ≡ c.now
byte_now c byte true = refl
byte_now c byte false = look_now (holding c (byte ∷ []))

pub read_now : (c : Conversation) (bytes : List ℕ) → (read_on c bytes).now ≡ c.now
read_now c [] = refl
read_now c (byte ∷ bytes) = read_now (byte_read c byte) bytes ∙ byte_now c byte (is_some c.end)
