-- A conversation and its events: whatever bytes are read, they may come to be lawful.
use Rattle.std.proofs.Common.{refl, ap, sym, subst, ◌∙◌}
use Rattle.std.proofs.lemmas.List.{append_assoc}
use Rattle.std.specs.List.{AllByRecursion}
use Rattle.std.specs.Option.{option_map_or, option_or}
use Rattle.std.specs.Prelude.{[], ◌++◌, ◌==◌, ◌∷◌, ◌≡◌, Bool, Err, List, None, Ok, Option, Result, Some, cond, drop, false, is_some, length, suc, true, zero, ℕ}
use Rattle.mqb_fields.specs.declared.faults.HeadFault.{HeadFault}
use Rattle.mqb_packet.specs.Parts.{PacketParts, packet_of}
use Rattle.mqb_packet.specs.Plain.{IsWellFormedPacket}
use Rattle.mqb_packet.specs.Spelled.{packet_in}
use Rattle.mqb_packet.proofs.WellFormed.{one_packet, packet_read, said_packet}
use Rattle.mqb_packet.specs.declared.packet.Packet.{Packet}
use Rattle.mqb_packet.specs.declared.packet.Packet.TheVariants as packet
use Rattle.mqb_stream.specs.Framing.{Answer, Broken, Wants, Whole, advanced, next}
use Rattle.mqb_model.specs.calls.hear.Hear.{hear}
use Rattle.mqb_model.specs.calls.pump.Pump.{PumpOutcome, pump}
use Rattle.mqb_serving.specs.Conversations.{Conversation, StoredManager, answered, at_rest, byte_read, count_read, gave, heard, heard_as, holding, limited, looked_at, pumped, read_on, sent_some, stored_after}
use Rattle.mqb_serving.specs.declared.faults.PeerFault.TheVariants as fault
use Rattle.mqb_serving.specs.declared.limits.TheConstants.{MAX_PUMPS, MAX_READ}
use Rattle.mqb_capture.specs.Events.{Event, Heard, Sent}
use Rattle.mqb_capture.specs.Grammar.{Head}
use Rattle.mqb_law_captures.specs.Laws.{IsFromPeer}
use Rattle.mqb_law_captures.specs.Traces.{events_from, given, given_since, heard_at, heard_in, heard_of}
use Rattle.mqb_law_captures.proofs.Courses.{MayBeLawful}
use Rattle.mqb_law_captures.proofs.Hearing.{IsOfKind, hear_comes}
use Rattle.mqb_law_captures.proofs.Pumping.{pump_comes}
use Rattle.mqb_law_captures.proofs.Lists.{append_nothing, all_left, all_right}

-- the manager of a conversation, and its events
abbrev pub IsSoFar : Head → Conversation → List Event → Type 0
IsSoFar h c events = MayBeLawful h c.stored.manager events

-- what is given stands behind what was given
given_append : (ps qs : List Packet) → given (ps ++ qs) ≡ given ps ++ given qs
given_append [] qs = refl
given_append (p ∷ ps) qs = ap (λ es. Sent p ∷ es) (given_append ps qs)

-- Pumps lead from one conversation to another, and give these packets.
pub record Gives (h : Head) (c d : Conversation) (events : List Event) : Type 0 where
  pub packets : List Packet
  pub gives : d.given ≡ c.given ++ packets
  pub holds : IsSoFar h d (events ++ given packets)

-- A byte leads from one to another: these events, and then packets that are given.
pub record Steps (h : Head) (c d : Conversation) (events more : List Event) : Type 0 where
  pub packets : List Packet
  pub gives : d.given ≡ c.given ++ packets
  pub holds : IsSoFar h d (events ++ more ++ given packets)

steps_none : (h : Head) (c d : Conversation) (events : List Event) → d.given ≡ c.given → d.stored ≡ c.stored → IsSoFar h c events → Steps h c d events []
steps_none h c d events same kept so = record {
  packets = [];
  gives = same ∙ sym (append_nothing c.given);
  holds = subst (λ (m : StoredManager). MayBeLawful h m.manager (events ++ [] ++ [])) (sym kept)
      (subst (MayBeLawful h c.stored.manager) (sym (append_nothing (events ++ []) ∙ append_nothing events)) so);
}

-- Pumps.

pumps_step : (h : Head) (count : ℕ) (c : Conversation) (events : List Event) → IsSoFar h c events → Gives h c (pumped count c) events
pumps_step h zero c events so = record { packets = []; gives = sym (append_nothing c.given); holds = subst (IsSoFar h c) (sym (append_nothing events)) so }
pumps_step h (suc count) c events so = at (sent_some outcome.answer) (pumps_step h count (gave outcome c) (events ++ given outcome.packets) one)
  where
    outcome : PumpOutcome
    outcome = pump c.stored.manager c.now

    one : IsSoFar h (gave outcome c) (events ++ given outcome.packets)
    one = pump_comes h c.stored.manager events c.now so

    at : (b : Bool) → Gives h (gave outcome c) (pumped count (gave outcome c)) (events ++ given outcome.packets)
        → Gives h c (cond b (pumped count (gave outcome c)) (at_rest outcome.answer (gave outcome c))) events
    at true more = record {
      packets = outcome.packets ++ more.packets;
      gives = more.gives ∙ append_assoc c.given outcome.packets more.packets;
      holds = subst (IsSoFar h (pumped count (gave outcome c))) (append_assoc events (given outcome.packets) (given more.packets) ∙ ap (λ es. events ++ es) (sym (given_append outcome.packets more.packets))) more.holds;
    }
    at false more = record { packets = outcome.packets; gives = refl; holds = one }

-- What is read.

-- a packet that was read is transactional exactly where it has a place in a sequence
of_kind : (frame : List ℕ) (parts : PacketParts) (p : Packet) → packet_of frame ≡ Ok parts → packet_in parts ≡ Some p → IsOfKind p
of_kind frame parts p read said =
    let s = said_packet frame parts read (packet_read frame parts read) in
    subst IsOfKind (one_packet s.0 p frame s.1 (record { parts = parts; read = read; said = said })) (well s.0 s.2)
  where
    well : (q : Packet) → IsWellFormedPacket q → IsOfKind q
    well (packet.User u) h = h.tx
    well (packet.Establish e) h = tt
    well (packet.Parameters x) h = tt
    well (packet.Ack x) h = tt

-- One packet is heard, and answered.

heard_step : (h : Head) (c d : Conversation) (events : List Event) (p : Packet) → d.given ≡ c.given → d.stored ≡ c.stored → IsOfKind p → IsFromPeer h (Heard p) → IsSoFar h c events
    → Steps h c (heard d p) events (Heard p ∷ [])
heard_step h c d events p same kept kind from so = record {
  packets = pumps.packets;
  gives = pumps.gives ∙ ap (λ (ps : List Packet). ps ++ pumps.packets) same;
  holds = pumps.holds;
}
  where
    listening : Conversation
    listening = record d { stored = stored_after d.stored (hear d.stored.manager p d.now) }

    pumps : Gives h listening (pumped MAX_PUMPS listening) (events ++ Heard p ∷ [])
    pumps = pumps_step h MAX_PUMPS listening (events ++ Heard p ∷ [])
        (hear_comes h d.stored.manager events d.now p kind from (subst (λ (m : StoredManager). MayBeLawful h m.manager events) (sym kept) so))

limited_step : (h : Head) (c d : Conversation) (events more : List Event) → Steps h c d events more → Steps h c (limited d) events more
limited_step h c d events more s = at (count_read d == MAX_READ)
  where
    at : (b : Bool) → Steps h c (cond b (record d { end = option_or d.end (Some (Err fault.TooMuch)) }) d) events more
    at true = record { packets = s.packets; gives = s.gives; holds = s.holds }
    at false = s

-- A byte comes.

answer_step : (h : Head) (c d : Conversation) (events : List Event) (answer : Answer) → d.given ≡ c.given → d.stored ≡ c.stored → AllByRecursion (IsFromPeer h) (heard_in answer) → IsSoFar h c events
    → Steps h c (answered answer d) events (heard_in answer)
answer_step h c d events (Wants need) same kept from so = steps_none h c d events same kept so
answer_step h c d events (Broken why place) same kept from so = steps_none h c (answered (Broken why place) d) events same kept so
answer_step h c d events (Whole frame) same kept from so = at (packet_of frame) refl from
  where
    by : (parts : PacketParts) → packet_of frame ≡ Ok parts → (o : Option Packet) → packet_in parts ≡ o → AllByRecursion (IsFromPeer h) (option_map_or (λ p. Heard p ∷ []) o [])
        → Steps h c (option_map_or (heard (record d { framing = advanced d.framing })) o (record d { framing = advanced d.framing })) events (option_map_or (λ p. Heard p ∷ []) o [])
    by parts read None e from = steps_none h c (record d { framing = advanced d.framing }) events same kept so
    by parts read (Some p) e from = heard_step h c (record d { framing = advanced d.framing }) events p same kept (of_kind frame parts p read e) from.0 so

    at : (r : Result PacketParts HeadFault) → packet_of frame ≡ r → AllByRecursion (IsFromPeer h) (heard_of r)
        → Steps h c (heard_as d.framing.place r (record d { framing = advanced d.framing })) events (heard_of r)
    at (Err why) e from = steps_none h c (heard_as d.framing.place (Err why) (record d { framing = advanced d.framing })) events same kept so
    at (Ok parts) e from = by parts e (packet_in parts) refl from

byte_step : (h : Head) (c : Conversation) (events : List Event) (byte : ℕ) → AllByRecursion (IsFromPeer h) (heard_at c byte) → IsSoFar h c events → Steps h c (byte_read c byte) events (heard_at c byte)
byte_step h c events byte from so = at (is_some c.end) from
  where
    d : Conversation
    d = holding c (byte ∷ [])

    at : (b : Bool) → AllByRecursion (IsFromPeer h) (cond b [] (heard_in (next (holding c (byte ∷ [])).framing)))
        → Steps h c (cond b c (looked_at (holding c (byte ∷ [])))) events (cond b [] (heard_in (next (holding c (byte ∷ [])).framing)))
    at true from = steps_none h c c events refl refl so
    at false from = limited_step h c (answered (next (holding c (byte ∷ [])).framing) (holding c (byte ∷ []))) events (heard_in (next (holding c (byte ∷ [])).framing))
        (answer_step h c (holding c (byte ∷ [])) events (next (holding c (byte ∷ [])).framing) refl refl from so)

-- what is given since is what a step gives
dropped : (ps qs : List Packet) → drop (length ps) (ps ++ qs) ≡ qs
dropped [] qs = refl
dropped (p ∷ ps) qs = dropped ps qs

pub given_is : (c d : Conversation) (qs : List Packet) → d.given ≡ c.given ++ qs → given_since c d ≡ given qs
given_is c d qs e = ap (λ (ps : List Packet). given (drop (length c.given) ps)) e ∙ ap given (dropped c.given qs)

-- All bytes.

pub bytes_come : (h : Head) (c : Conversation) (events : List Event) (bytes : List ℕ) → AllByRecursion (IsFromPeer h) (events_from c bytes) → IsSoFar h c events → IsSoFar h (read_on c bytes) (events ++ events_from c bytes)
bytes_come h c events [] from so = subst (IsSoFar h c) (sym (append_nothing events)) so
bytes_come h c events (byte ∷ bytes) from so =
    let d = byte_read c byte in
    let here = heard_at c byte in
    let since = given_since c d in
    let later = events_from d bytes in
    let step = byte_step h c events byte (all_left (IsFromPeer h) here since (all_left (IsFromPeer h) (here ++ since) later from)) so in
    subst (IsSoFar h (read_on d bytes)) (ap (λ (es : List Event). es ++ later) (append_assoc events here since) ∙ append_assoc events (here ++ since) later)
    (bytes_come h d (events ++ here ++ since) bytes (all_right (IsFromPeer h) (here ++ since) later from)
    (subst (λ (es : List Event). IsSoFar h d (events ++ here ++ es)) (sym (given_is c d step.packets step.gives)) step.holds))

-- Its beginning.

pub opened_comes : (h : Head) (c : Conversation) → c.given ≡ [] → IsSoFar h c [] → IsSoFar h (pumped MAX_PUMPS c) (given (pumped MAX_PUMPS c).given)
opened_comes h c none so = let step = pumps_step h MAX_PUMPS c [] so in
    subst (λ (ps : List Packet). IsSoFar h (pumped MAX_PUMPS c) (given ps)) (sym (step.gives ∙ ap (λ (ps : List Packet). ps ++ step.packets) none)) step.holds
