-- What was given stays, and more packets stand behind it.
use Rattle.std.proofs.Common.{◌≡◌, ◌==◌, Bool, true, false, List, [], ◌∷◌, ◌++◌, Option, None, Some, Result, Ok, Err, ℕ, zero, suc, cond, is_some, refl, sym, ap, ◌∙◌, append_assoc}
use Rattle.std.proofs.lemmas.List.{append-nil}
use Rattle.std.proofs.lemmas.List.Sums.{fold-append}
use Rattle.std.proofs.lemmas.Grind.{flat_map-append}
use Rattle.std.specs.Option.{option_map_or, option_or}
use Rattle.mqb_fields.specs.declared.faults.HeadFault.{HeadFault}
use Rattle.mqb_packet.specs.Parts.{PacketParts, packet_of}
use Rattle.mqb_packet.specs.Plain.{plain_spelling}
use Rattle.mqb_packet.specs.Spelled.{packet_in}
use Rattle.mqb_packet.specs.declared.packet.Packet.{Packet}
use Rattle.mqb_stream.specs.Framing.{Answer, Broken, Wants, Whole, advanced, next}
use Rattle.mqb_model.specs.calls.hear.Hear.{hear}
use Rattle.mqb_model.specs.calls.pump.Pump.{PumpOutcome, pump}
use Rattle.mqb_serving.specs.Conversations.{Conversation, answered, at_rest, byte_read, bytes_of, count_read, frame_heard, gave, heard, heard_as, holding, limited, looked_at, opened, pumped, read_on, sent_some, served, stored_after}
use Rattle.mqb_serving.specs.Laws.{Begins, PrefixesWritePrefixes}
use Rattle.mqb_serving.specs.declared.faults.PeerFault.TheVariants as fault
use Rattle.mqb_serving.specs.declared.limits.TheConstants.{MAX_PUMPS, MAX_READ}

-- the packets of one connection begin those of another
abbrev Grows : Conversation → Conversation → Type 0
Grows c d = (rest : List Packet) × (d.given ≡ c.given ++ rest)

same : (c d : Conversation) → d.given ≡ c.given → Grows c d
same c d e = ([], e ∙ sym (append-nil c.given))

then_on : (b c d : Conversation) → Grows b c → Grows c d → Grows b d
then_on b c d first second = (first.0 ++ second.0, second.1 ∙ ap (λ (t : List Packet). t ++ second.0) first.1 ∙ append_assoc b.given first.0 second.0)

mutual_pump : (count : ℕ) (c : Conversation) (outcome : PumpOutcome) (some : Bool) → ((d : Conversation) → Grows d (pumped count d))
    → Grows c (cond some (pumped count (gave outcome c)) (at_rest outcome.answer (gave outcome c)))
mutual_pump count c outcome true more = then_on c (gave outcome c) (pumped count (gave outcome c)) (outcome.packets, refl) (more (gave outcome c))
mutual_pump count c outcome false more = (outcome.packets, refl)

pumps_grow : (count : ℕ) (c : Conversation) → Grows c (pumped count c)
pumps_grow zero c = same c c refl
pumps_grow (suc count) c = mutual_pump count c (pump c.stored.manager c.now) (sent_some (pump c.stored.manager c.now).answer) (pumps_grow count)

hearing_grows : (c : Conversation) (p : Packet) → Grows c (heard c p)
hearing_grows c p = pumps_grow MAX_PUMPS (record c { stored = stored_after c.stored (hear c.stored.manager p c.now) })

packet_grows : (c : Conversation) (p : Option Packet) → Grows c (option_map_or (heard c) p c)
packet_grows c (Some p) = hearing_grows c p
packet_grows c None = same c c refl

reading_grows : (place : ℕ) (read : Result PacketParts HeadFault) (c : Conversation) → Grows c (heard_as place read c)
reading_grows place (Ok parts) c = packet_grows c (packet_in parts)
reading_grows place (Err why) c = same c (heard_as place (Err why) c) refl

answer_grows : (answer : Answer) (c : Conversation) → Grows c (answered answer c)
answer_grows (Whole frame) c = reading_grows c.framing.place (packet_of frame) (record c { framing = advanced c.framing })
answer_grows (Broken why place) c = same c (answered (Broken why place) c) refl
answer_grows (Wants need) c = same c c refl

limit_grows : (c ended : Conversation) (b : Bool) → ended.given ≡ c.given → Grows c (cond b ended c)
limit_grows c ended true e = same c ended e
limit_grows c ended false e = same c c refl

look_grows : (c : Conversation) → Grows c (looked_at c)
look_grows c = let d = answered (next c.framing) c in
    then_on c d (looked_at c) (answer_grows (next c.framing) c) (limit_grows d (record d { end = option_or d.end (Some (Err fault.TooMuch)) }) (count_read d == MAX_READ) refl)

byte_grows : (c : Conversation) (byte : ℕ) (b : Bool) → Grows c (cond b c (looked_at (holding c (byte ∷ []))))
byte_grows c byte true = same c c refl
byte_grows c byte false = look_grows (holding c (byte ∷ []))

bytes_grow : (c : Conversation) (bytes : List ℕ) → Grows c (read_on c bytes)
bytes_grow c [] = same c c refl
bytes_grow c (byte ∷ bytes) = then_on c (byte_read c byte) (read_on c (byte ∷ bytes)) (byte_grows c byte (is_some c.end)) (bytes_grow (byte_read c byte) bytes)

pub prefixes_write_prefixes : PrefixesWritePrefixes
prefixes_write_prefixes m asks now front more =
    let c = opened m asks now in
    let begun = read_on c front in
    let grown = bytes_grow begun more in
    let given = ap (λ (d : Conversation). d.given) (fold-append byte_read c front more) ∙ grown.1 in
    (bytes_of grown.0, ap bytes_of given ∙ flat_map-append plain_spelling begun.given grown.0)
