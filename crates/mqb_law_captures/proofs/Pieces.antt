-- The pieces of a packet are its event.
use Rattle.std.proofs.Common.{◌≡◌, ◌<◌, ◌≤◌, ℕ, true, List, [], ◌∷◌, ◌++◌, length, Option, Result, refl, sym, ap, subst, ◌∙◌, inl, inr, arith, length-append, append_assoc, append-nil}
use Rattle.std.specs.List.{AllByRecursion, AllZip}
use Rattle.std.specs.Option.{option_map_or}
use Rattle.std.specs.Prelude.{flat_map, fold}
use Rattle.std.proofs.lemmas.Bool.{cases_lt, le-ltb}
use Rattle.std.proofs.lemmas.List.Sums.{fold-append}
use Rattle.mqb_fields.specs.declared.faults.HeadFault.{HeadFault}
use Rattle.mqb_heads.specs.declared.base.TheConstants.{MAX_PACKET}
use Rattle.mqb_packet.specs.Parts.{PacketParts, packet_of}
use Rattle.mqb_packet.specs.Spelled.{Spells}
use Rattle.mqb_packet.specs.declared.packet.Packet.{Packet}
use Rattle.mqb_stream.specs.Cutting.{IsFrame, packet_size}
use Rattle.mqb_stream.specs.Framing.{Answer, Broken, Framing, Wants, Whole, end_by, next, packet_end, wants_more}
use Rattle.mqb_stream.proofs.Filling.{end_long, end_short, same_end, size_is}
use Rattle.mqb_serving.proofs.Filling.{wants_before}
use Rattle.mqb_capture.specs.Events.{Bad, Event, Heard, Sent, Watch, answer_to, answered, byte_came, event_of, held, holding, piece_came, read_as, watched, with_event}
use Rattle.mqb_capture.specs.Grammar.{Piece}
use Rattle.mqb_capture.specs.declared.answers.Way.{Way}
use Rattle.mqb_capture.specs.declared.answers.Way.TheVariants as way
use Rattle.mqb_law_captures.specs.Laws.{AreOf, ArePacket, bytes_in}

-- Frames.

pub frame_waits : (f : Framing) (frame : List ℕ) → f.held ≡ frame → IsFrame f.limit frame → next f ≡ Whole frame
unfolding next
frame_waits f frame held is =
    let long = (size_is f.limit frame (length frame) is).head in
    rw (held, le-ltb (length frame) 16 long, is, le-ltb (length frame) (length frame) (omega arith)) refl

ends_at : (limit : ℕ) (frame : List ℕ) → IsFrame limit frame → end_by (packet_size limit frame) ≡ length frame
ends_at limit frame is = rw is refl

-- a front of a frame is no whole packet
front_before : (limit : ℕ) (front more : List ℕ) → 0 < length more → length (front ++ more) ≤ packet_end limit (front ++ more) → length front < packet_end limit front
front_before limit front more some one = elim (cases_lt (length front) 16) [
  | inl short ↦ omega (arith, short, end_short limit front short)
  | inr long ↦ omega (arith, some, one, same_end limit front more long, length-append front more)
]

pub framer_wants : (f : Framing) (front more frame : List ℕ) → f.held ≡ front → f.limit ≡ MAX_PACKET → IsFrame MAX_PACKET frame → front ++ more ≡ frame → 0 < length more → wants_more (next f) ≡ true
framer_wants f front more frame held limit is whole some =
    let size = size_is MAX_PACKET frame (length frame) is in
    let end : packet_end MAX_PACKET frame ≡ length frame = end_long MAX_PACKET frame size.head ∙ ends_at MAX_PACKET frame is in
    let one : length (front ++ more) ≤ packet_end MAX_PACKET (front ++ more) = subst (λ (t : List ℕ). length t ≤ packet_end MAX_PACKET t) (sym whole) (omega (arith, end)) in
    wants_before f (subst (λ (n : ℕ). length f.held < packet_end n f.held) (sym limit)
    (subst (λ (t : List ℕ). length t < packet_end MAX_PACKET t) (sym held) (front_before MAX_PACKET front more some one)))

front_wants : (front more frame : List ℕ) → IsFrame MAX_PACKET frame → front ++ more ≡ frame → 0 < length more → wants_more (answer_to front) ≡ true
front_wants front more frame is whole some = framer_wants (record { limit = MAX_PACKET; room = MAX_PACKET; place = 0; held = front }) front more frame refl refl is whole some

-- Bytes of one way.

-- events, and nothing is held
abbrev pub idle : List Event → Watch
idle events = record { events = events; sent = []; heard = [] }

byte_comes : (d : Way) (es : List Event) (front : List ℕ) (b : ℕ) → byte_came d (holding d front (idle es)) b ≡ answered d (answer_to (front ++ b ∷ [])) (holding d (front ++ b ∷ []) (idle es))
byte_comes way.Sent es front b = refl
byte_comes way.Heard es front b = refl

dropped : (d : Way) (es : List Event) (bytes : List ℕ) → holding d [] (holding d bytes (idle es)) ≡ idle es
dropped way.Sent es bytes = refl
dropped way.Heard es bytes = refl

none_held : (d : Way) (es : List Event) → holding d [] (idle es) ≡ idle es
none_held way.Sent es = refl
none_held way.Heard es = refl

waits_still : (d : Way) (a : Answer) (w : Watch) → wants_more a ≡ true → answered d a w ≡ w
waits_still d (Whole bytes) w e = absurd cc
waits_still d (Broken fault place) w e = absurd cc
waits_still d (Wants need) w e = refl

last_comes : (d : Way) (es : List Event) (bytes frame : List ℕ) (p : Packet) → Spells p frame → answered d (Whole frame) (holding d bytes (idle es)) ≡ idle (es ++ event_of d p ∷ [])
last_comes d es bytes frame p s =
    ap (λ (w : Watch). read_as d (packet_of frame) w) (dropped d es bytes)
    ∙ ap (λ (r : Result PacketParts HeadFault). read_as d r (idle es)) s.read
    ∙ ap (λ (o : Option Packet). option_map_or (λ p. with_event (event_of d p) (idle es)) o (idle es)) s.said

bytes_come : (d : Way) (es : List Event) (frame : List ℕ) (p : Packet) → IsFrame MAX_PACKET frame → Spells p frame → (front more : List ℕ) → front ++ more ≡ frame → 0 < length more
    → fold (byte_came d) (holding d front (idle es)) more ≡ idle (es ++ event_of d p ∷ [])
bytes_come d es frame p is s front [] whole some = absurd (omega (arith, some))
bytes_come d es frame p is s front (b ∷ []) whole some =
    byte_comes d es front b
    ∙ ap (λ (a : Answer). answered d a (holding d (front ++ b ∷ []) (idle es))) (frame_waits (record { limit = MAX_PACKET; room = MAX_PACKET; place = 0; held = front ++ b ∷ [] }) frame whole is)
    ∙ last_comes d es (front ++ b ∷ []) frame p s
bytes_come d es frame p is s front (b ∷ x ∷ more) whole some =
    let over : (front ++ b ∷ []) ++ x ∷ more ≡ frame = append_assoc front (b ∷ []) (x ∷ more) ∙ whole in
    let wants = front_wants (front ++ b ∷ []) (x ∷ more) frame is over (omega arith) in
    ap (λ (w : Watch). fold (byte_came d) w (x ∷ more))
    (byte_comes d es front b ∙ waits_still d (answer_to (front ++ b ∷ [])) (holding d (front ++ b ∷ []) (idle es)) wants)
    ∙ bytes_come d es frame p is s (front ++ b ∷ []) (x ∷ more) over (omega arith)

-- Pieces of one way are its bytes.

pieces_come : (d : Way) (w : Watch) (pieces : List Piece) → AllByRecursion (λ piece. piece.way ≡ d) pieces → fold piece_came w pieces ≡ fold (byte_came d) w (bytes_in pieces)
pieces_come d w [] h = refl
pieces_come d w (piece ∷ pieces) h =
    ap (λ (x : Way). fold piece_came (fold (byte_came x) w piece.bytes) pieces) h.0
    ∙ pieces_come d (fold (byte_came d) w piece.bytes) pieces h.1
    ∙ sym (fold-append (byte_came d) w piece.bytes (bytes_in pieces))

packet_comes : (d : Way) (es : List Event) (p : Packet) (pieces : List Piece) → ArePacket d p pieces → fold piece_came (idle es) pieces ≡ idle (es ++ event_of d p ∷ [])
packet_comes d es p pieces h =
    let long = (size_is MAX_PACKET (bytes_in pieces) (length (bytes_in pieces)) h.frame).head in
    pieces_come d (idle es) pieces h.way
    ∙ ap (λ (w : Watch). fold (byte_came d) w (bytes_in pieces)) (sym (none_held d es))
    ∙ bytes_come d es (bytes_in pieces) p h.frame h.spells [] (bytes_in pieces) refl (omega (arith, long))

event_comes : (es : List Event) (e : Event) (pieces : List Piece) → AreOf e pieces → fold piece_came (idle es) pieces ≡ idle (es ++ e ∷ [])
event_comes es (Sent p) pieces h = packet_comes way.Sent es p pieces h
event_comes es (Heard p) pieces h = packet_comes way.Heard es p pieces h
event_comes es (Bad fault) pieces h = absurd h

events_come : (es events : List Event) (groups : List (List Piece)) → AllZip AreOf events groups → fold piece_came (idle es) (flat_map (λ group. group) groups) ≡ idle (es ++ events)
events_come es [] [] h = ap idle (sym (append-nil es))
events_come es [] (group ∷ groups) h = absurd h
events_come es (e ∷ events) [] h = absurd h
events_come es (e ∷ events) (group ∷ groups) h =
    fold-append piece_came (idle es) group (flat_map (λ group. group) groups)
    ∙ ap (λ (w : Watch). fold piece_came w (flat_map (λ group. group) groups)) (event_comes es e group h.0)
    ∙ events_come (es ++ e ∷ []) events groups h.1
    ∙ ap idle (append_assoc es (e ∷ []) events)

-- a capture of packets is watched as these packets
pub packets_watched : (events : List Event) (groups : List (List Piece)) → AllZip AreOf events groups → watched (flat_map (λ group. group) groups) ≡ idle events
unfolding watched
packets_watched events groups h = events_come [] events groups h
