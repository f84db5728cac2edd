-- What one end writes for packets, the other hears as these packets.
use Rattle.std.proofs.Common.{◌≡◌, ◌≤◌, ◌<◌, ◌+◌, ◌*◌, ◌^◌, ◌==◌, ℕ, zero, suc, Bool, true, false, cond, leb, ltb, is_some, List, [], ◌∷◌, ◌++◌, length, take, Option, None, Some, Result, Ok, Err, refl, sym, ap, subst, ◌∙◌, arith, length-append, append_assoc}
use Rattle.std.specs.Prelude.{fold}
use Rattle.std.specs.List.{AllByRecursion}
use Rattle.std.specs.Option.{option_map_or}
use Rattle.std.proofs.lemmas.Bool.{le-leb, le-ltb}
use Rattle.std.proofs.lemmas.List.{append-nil, take_at}
use Rattle.std.proofs.lemmas.List.Sums.{fold-append}
use Rattle.mqb_fields.specs.Faults.{past_end}
use Rattle.mqb_fields.specs.Reading.{◌>>=◌}
use Rattle.mqb_fields.specs.declared.faults.HeadFault.{HeadFault}
use Rattle.mqb_heads.specs.Base.{IsBaseHead, base_of, plain_base}
use Rattle.mqb_heads.specs.declared.base.BaseHead.{BaseHead}
use Rattle.mqb_heads.specs.declared.base.TheConstants.{MAX_PACKET}
use Rattle.mqb_heads.specs.User.{plain_user}
use Rattle.mqb_heads.specs.Properties.{plain_props}
use Rattle.mqb_heads.specs.lemmas.HeadsAgain.{base_again}
use Rattle.mqb_packet.specs.Parts.{PacketParts, packet_of}
use Rattle.mqb_packet.specs.Plain.{base_for, internal_base, packet_size, parts_of, plain_spelling, session_or_none, tx_or_none}
use Rattle.mqb_packet.specs.Spelled.{packet_in}
use Rattle.mqb_packet.specs.declared.packet.Packet.{Packet}
use Rattle.mqb_packet.specs.declared.packet.Packet.TheVariants as packet
use Rattle.mqb_packet.specs.declared.packet.UserPacket.{UserPacket}
use Rattle.mqb_packet.proofs.Behind.{plain_length}
use Rattle.mqb_packet.proofs.PacketAgain.{packet_again, said_again}
use Rattle.mqb_setup.specs.Internals.{plain_internal}
use Rattle.mqb_setup.specs.declared.internal.Internal.TheVariants as part
use Rattle.mqb_stream.specs.Cutting as cut
use Rattle.mqb_stream.specs.Framing.{Answer, Framing, Whole, by_size, end_by, next, packet_end}
use Rattle.mqb_stream.proofs.Filling.{end_long, size_is}
use Rattle.mqb_model.specs.calls.hear.Hear.{hear}
use Rattle.mqb_model.specs.calls.pump.Pump.{PumpOutcome, pump}
use Rattle.mqb_serving.specs.declared.purpose.Purpose.{Purpose}
use Rattle.mqb_serving.specs.Conversations.{Conversation, End, StoredManager, answered, at_rest, byte_read, bytes_of, count_read, frame_heard, gave, heard, heard_as, holding, limited, linked, looked_at, opened, pumped, read_on, sent_some, stored_after}
use Rattle.mqb_serving.specs.Laws.{IsBetween, IsWritable, PacketsAreHeard, packet_heard, passed}
use Rattle.mqb_serving.specs.declared.limits.TheConstants.{MAX_PUMPS, MAX_READ}
use Rattle.mqb_serving.proofs.Filling.{fills, limit_far}
use Rattle.mqb_serving.proofs.Reading.{ends_last}

-- What is written is a frame.

begun_by : (base : BaseHead) (bytes rest : List ℕ) → bytes ≡ plain_base base ++ rest → IsBaseHead base → base.reach < 2 ^ 32 → base.size ≡ length bytes → cut.IsFrame MAX_PACKET bytes
unfolding cut.packet_size
begun_by base bytes rest whole valid fits size =
    let front : take 16 bytes ≡ plain_base base = ap (take 16) whole ∙ take_at (plain_base base) rest 16 refl in
    let read : base_of (take 16 bytes) ≡ Ok base = ap base_of (front ∙ sym (append-nil (plain_base base))) ∙ base_again base [] valid fits in
    rw (read, le-leb base.size MAX_PACKET valid.most) (ap (λ (n : ℕ). as_size n) size)
  where
    as_size : ℕ → Result ℕ HeadFault
    as_size n = Ok n

frame_is : (p : Packet) → IsWritable p → cut.IsFrame MAX_PACKET (plain_spelling p)
frame_is (packet.User u) w =
    let rest = plain_user u.message u.to ++ tx_or_none u.tx ++ plain_props u.message ++ session_or_none u.session in
    begun_by (base_for u) (plain_spelling (packet.User u)) rest (simp append_assoc)
    (record { priority = w.well_formed.message.priority; least = omega arith; most = w.size; internal = λ internal. absurd cc }) w.numbers.remaining (sym (plain_length (packet.User u)))
frame_is (packet.Establish e) w = begun_by (internal_base false 572) (plain_spelling (packet.Establish e)) (plain_internal (part.Establish e)) refl
    (record { priority = omega arith; least = omega arith; most = omega arith; internal = λ internal. (refl, refl) }) (omega arith) (sym (plain_length (packet.Establish e)))
frame_is (packet.Parameters p) w = begun_by (internal_base false 32) (plain_spelling (packet.Parameters p)) (plain_internal (part.Parameters p)) refl
    (record { priority = omega arith; least = omega arith; most = omega arith; internal = λ internal. (refl, refl) }) (omega arith) refl
frame_is (packet.Ack head) w = begun_by (internal_base true 36) (plain_spelling (packet.Ack head)) (plain_internal (part.Ack head)) refl
    (record { priority = omega arith; least = omega arith; most = omega arith; internal = λ internal. (refl, refl) }) (omega arith) refl

-- a frame waits
frame_waits : (f : Framing) (frame : List ℕ) → f.held ≡ frame → cut.IsFrame f.limit frame → next f ≡ Whole frame
unfolding next
frame_waits f frame held is =
    let long = (size_is f.limit frame (length frame) is).head in
    rw (held, le-ltb (length frame) 16 long, is, le-ltb (length frame) (length frame) (omega arith)) refl

-- What a pump leaves.

pump_keeps : (count : ℕ) (c : Conversation) (outcome : PumpOutcome) (some : Bool) → ((d : Conversation) → (pumped count d).framing ≡ d.framing)
    → (cond some (pumped count (gave outcome c)) (at_rest outcome.answer (gave outcome c))).framing ≡ c.framing
pump_keeps count c outcome true more = more (gave outcome c)
pump_keeps count c outcome false more = refl

framing_stays : (count : ℕ) (c : Conversation) → (pumped count c).framing ≡ c.framing
framing_stays zero c = refl
framing_stays (suc count) c = pump_keeps count c (pump c.stored.manager c.now) (sent_some (pump c.stored.manager c.now).answer) (framing_stays count)

heard_stays : (c : Conversation) (p : Packet) → (heard c p).framing ≡ c.framing
heard_stays c p = framing_stays MAX_PUMPS (record c { stored = stored_after c.stored (hear c.stored.manager p c.now) })

-- One packet.

said_as : (place : ℕ) (read : Result PacketParts HeadFault) (p : Packet) (c : Conversation) (parts : PacketParts) → read ≡ Ok parts → packet_in parts ≡ Some p → heard_as place read c ≡ heard c p
said_as place read p c parts is said = ap (λ (r : Result PacketParts HeadFault). heard_as place r c) is ∙ ap (λ (o : Option Packet). option_map_or (heard c) o c) said

whole_is_heard : (c : Conversation) (p : Packet) → IsBetween c → IsWritable p → c.end ≡ None → count_read c + length (plain_spelling p) < MAX_READ
    → read_on c (plain_spelling p) ≡ heard (passed c (plain_spelling p)) p
whole_is_heard c p between w e few =
    let frame = plain_spelling p in
    let d = holding c frame in
    let is : cut.IsFrame c.framing.limit frame = subst (λ (n : ℕ). cut.IsFrame n frame) (sym between.limit) (frame_is p w) in
    let size = size_is c.framing.limit frame (length frame) is in
    let held : c.framing.held ++ frame ≡ frame = ap (λ (t : List ℕ). t ++ frame) between.held in
    let end : packet_end c.framing.limit frame ≡ length frame = end_long c.framing.limit frame size.head ∙ ends_at c.framing.limit frame is in
    let one : length (c.framing.held ++ frame) ≤ packet_end c.framing.limit (c.framing.held ++ frame) =
    subst (λ (t : List ℕ). length t ≤ packet_end c.framing.limit t) (sym held) (omega (arith, end)) in
    let looked : answered (next d.framing) d ≡ heard (passed c frame) p =
    ap (λ (a : Answer). answered a d) (frame_waits d.framing frame held is) ∙ said_as d.framing.place (packet_of frame) p (passed c frame) (parts_of p)
    (packet_again p w.well_formed w.numbers w.size) (said_again p w.well_formed w.numbers) in
    let count : count_read (heard (passed c frame) p) ≡ count_read c + length frame =
    ap (λ (f : Framing). f.place + length f.held) (heard_stays (passed c frame) p) ∙ omega (arith, ap (λ (t : List ℕ). length t) held, ap (λ (t : List ℕ). length t) between.held) in
    fills c frame e (omega (arith, size.least)) one (omega (arith, few)) ∙ ap limited looked ∙ limit_far (heard (passed c frame) p) (omega (arith, count, few))
  where
    ends_at : (limit : ℕ) (frame : List ℕ) → cut.IsFrame limit frame → end_by (cut.packet_size limit frame) ≡ length frame
    ends_at limit frame is = rw is refl

-- All of them.

-- a packet that comes, by the end that is known
abbrev heard_by : Option End → Conversation → Packet → Conversation
heard_by end c p = cond (is_some end) c (heard (passed c (plain_spelling p)) p)

none_heard : (c : Conversation) (end : End) (p : Packet) → c.end ≡ Some end → packet_heard c p ≡ c
none_heard c end p e = ap (λ (end : Option End). heard_by end c p) e

going_on : (c : Conversation) (p : Packet) → c.end ≡ None → packet_heard c p ≡ heard (passed c (plain_spelling p)) p
going_on c p e = ap (λ (end : Option End). heard_by end c p) e

heard_last : (c : Conversation) (end : End) (packets : List Packet) → c.end ≡ Some end → fold packet_heard c packets ≡ c
heard_last c end [] e = refl
heard_last c end (p ∷ packets) e = ap (λ (d : Conversation). fold packet_heard d packets) (none_heard c end p e) ∙ heard_last c end packets e

between_still : (c : Conversation) (p : Packet) → IsBetween c → IsBetween (heard (passed c (plain_spelling p)) p)
between_still c p between = let same = heard_stays (passed c (plain_spelling p)) p in record {
  limit = ap (λ (f : Framing). f.limit) same ∙ between.limit;
  held = ap (λ (f : Framing). f.held) same;
}

-- one packet and then others
one_and_more : (c : Conversation) (p : Packet) (packets : List Packet) → IsBetween c → IsWritable p → count_read c + length (bytes_of (p ∷ packets)) < MAX_READ
    → ((d : Conversation) → IsBetween d → count_read d + length (bytes_of packets) < MAX_READ → read_on d (bytes_of packets) ≡ fold packet_heard d packets)
    → (end : Option End) → c.end ≡ end → read_on c (bytes_of (p ∷ packets)) ≡ fold packet_heard c (p ∷ packets)
one_and_more c p packets between w few more (Some end) e = ends_last c end (bytes_of (p ∷ packets)) e ∙ sym (heard_last c end (p ∷ packets) e)
one_and_more c p packets between w few more None e =
    let frame = plain_spelling p in
    let d = heard (passed c frame) p in
    let count : count_read d ≡ count_read c + length frame =
    ap (λ (f : Framing). f.place + length f.held) (heard_stays (passed c frame) p) ∙ omega (arith, length-append c.framing.held frame) in
    let long : length (bytes_of (p ∷ packets)) ≡ length frame + length (bytes_of packets) = length-append frame (bytes_of packets) in
    fold-append byte_read c frame (bytes_of packets)
    ∙ ap (λ (x : Conversation). read_on x (bytes_of packets)) (whole_is_heard c p between w e (omega (arith, long, few)))
    ∙ more d (between_still c p between) (omega (arith, long, count, few))
    ∙ ap (λ (x : Conversation). fold packet_heard x packets) (sym (going_on c p e))

pub packets_are_heard : PacketsAreHeard
packets_are_heard c [] between w few = refl
packets_are_heard c (p ∷ packets) between w few =
    one_and_more c p packets between w.0 few (λ d between few. packets_are_heard d packets between w.1 few) c.end refl

-- a connection begins between packets
pub opened_between : (m : StoredManager) (asks : Purpose) (now : ℕ) → IsBetween (opened m asks now)
opened_between m asks now = let same = framing_stays MAX_PUMPS (linked m asks now) in record { limit = ap (λ (f : Framing). f.limit) same; held = ap (λ (f : Framing). f.held) same }

none_read : (m : StoredManager) (asks : Purpose) (now : ℕ) → count_read (opened m asks now) ≡ 0
none_read m asks now = ap (λ (f : Framing). f.place + length f.held) (framing_stays MAX_PUMPS (linked m asks now))

few_bytes : (packets : List Packet) → AllByRecursion IsWritable packets → length (bytes_of packets) ≤ length packets * MAX_PACKET
few_bytes [] w = omega arith
few_bytes (p ∷ packets) w =
    let long : length (bytes_of (p ∷ packets)) ≡ length (plain_spelling p) + length (bytes_of packets) = length-append (plain_spelling p) (bytes_of packets) in
    let size : length (plain_spelling p) ≤ MAX_PACKET = omega (arith, plain_length p, w.0.size) in
    omega (arith, long, size, few_bytes packets w.1)

-- what a conversation hears from its beginning on
pub packets_served : (m : StoredManager) (asks : Purpose) (now : ℕ) (packets : List Packet) → AllByRecursion IsWritable packets → length packets < 256
    → read_on (opened m asks now) (bytes_of packets) ≡ fold packet_heard (opened m asks now) packets
packets_served m asks now packets w few =
    packets_are_heard (opened m asks now) packets (opened_between m asks now) w (omega (arith, few, few_bytes packets w, none_read m asks now))

-- the first bytes, up to the end of a packet or before it
pub bytes_looked_at : (m : StoredManager) (asks : Purpose) (now : ℕ) (bytes : List ℕ) → (opened m asks now).end ≡ None → 0 < length bytes → length bytes ≤ packet_end MAX_PACKET bytes → length bytes < MAX_READ
    → read_on (opened m asks now) bytes ≡ looked_at (holding (opened m asks now) bytes)
bytes_looked_at m asks now bytes e some one few =
    let c = opened m asks now in
    let between = opened_between m asks now in
    let held : c.framing.held ++ bytes ≡ bytes = ap (λ (t : List ℕ). t ++ bytes) between.held in
    let end : length (c.framing.held ++ bytes) ≤ packet_end c.framing.limit (c.framing.held ++ bytes) =
    subst (λ (n : ℕ). length (c.framing.held ++ bytes) ≤ packet_end n (c.framing.held ++ bytes)) (sym between.limit) (subst (λ (t : List ℕ). length t ≤ packet_end MAX_PACKET t) (sym held) one) in
    fills c bytes e some end (omega (arith, few, none_read m asks now))
