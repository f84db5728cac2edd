-- The law: a connection that ends well is lawful, as its end captures it.
use Rattle.std.proofs.Common.{refl, ap, sym, subst, ◌∙◌, inl, inr, arith}
use Rattle.std.proofs.lemmas.Bool.{and_parts}
use Rattle.std.proofs.lemmas.List.Elements.{recursion_from_All}
use Rattle.std.specs.List.{AllByRecursion, flat_map}
use Rattle.std.specs.Option.{option_map_or, option_or}
use Rattle.std.specs.Prelude.{[], ◌&&◌, ◌++◌, ◌<◌, ◌==◌, ◌∷◌, ◌≡◌, All, Bool, Err, List, None, Ok, Option, Result, Some, cond, false, is_some, length, map, not, option_and_then, option_map, slice_get, suc, true, unwrap_or, zero, ℕ}
use Rattle.mqb_base.specs.Same.{same_guid}
use Rattle.mqb_base.specs.declared.heard.Cause.{Cause}
use Rattle.mqb_base.specs.declared.ids.Guid.{Guid}
use Rattle.mqb_base.specs.declared.ids.Identity.{Identity}
use Rattle.mqb_base.specs.declared.message.Delivery.{Delivery}
use Rattle.mqb_base.specs.declared.message.Delivery.TheVariants as delivery
use Rattle.mqb_base.specs.declared.message.Message.{Message}
use Rattle.mqb_fate.specs.Asking.{is_transactional}
use Rattle.mqb_fields.specs.declared.faults.HeadFault.{HeadFault}
use Rattle.mqb_orders.specs.Rows.{Row}
use Rattle.mqb_packet.specs.Parts.{PacketParts, packet_of}
use Rattle.mqb_packet.specs.Spelled.{packet_in}
use Rattle.mqb_packet.specs.declared.packet.Packet.{Packet}
use Rattle.mqb_stream.specs.Framing.{Answer, Broken, Wants, Whole, advanced, next}
use Rattle.mqb_orders.specs.declared.kept.Kept.{Kept}
use Rattle.mqb_plain.specs.Lists.{messages_of}
use Rattle.mqb_plain.specs.Plain.{PlainLists}
use Rattle.mqb_plain.specs.declared.outgoing.Outgoing.{Outgoing}
use Rattle.mqb_session.specs.Sending.{is_ready}
use Rattle.mqb_session.specs.State.{new_acceptor, new_initiator}
use Rattle.mqb_session.specs.State as one_end
use Rattle.mqb_session.specs.declared.heads.Kind.TheVariants as kind
use Rattle.mqb_session.specs.declared.phase.Phase.{Phase}
use Rattle.mqb_session.specs.declared.phase.Role.TheVariants as side
use Rattle.mqb_session.specs.declared.phase.Role as sides
use Rattle.mqb_model.specs.calls.Link.{link, link_refusal, linking, session_for}
use Rattle.mqb_model.specs.declared.answers.Role.{Role}
use Rattle.mqb_model.specs.declared.answers.Role.TheVariants as role
use Rattle.mqb_model.specs.declared.faults.LinkFault.{LinkFault}
use Rattle.mqb_model.specs.declared.faults.LinkFault.TheVariants as fault
use Rattle.mqb_model.specs.declared.faults.PumpFault.{PumpFault}
use Rattle.mqb_model.specs.calls.hear.Hear.{hear}
use Rattle.mqb_model.specs.calls.pump.Pump.{PumpOutcome, pump}
use Rattle.mqb_model.specs.managers.Manager.{Manager, is_down}
use Rattle.mqb_model.specs.managers.Outcomes.{succeeded, unless}
use Rattle.mqb_model.specs.managers.Readers.{is_outstanding, phase_of}
use Rattle.mqb_model.specs.managers.Valid.{IsValidManager, express_waiting}
use Rattle.mqb_model.specs.records.Packets.{is_recoverable}
use Rattle.mqb_model.specs.state.Places.{is_express}
use Rattle.mqb_model.specs.state.Valid.{IsInOrder, IsKeptBy, IsOwn, kept_messages, recoverable_messages}
use Rattle.mqb_serving.specs.Conversations.{Conversation, End, answered, at_rest, byte_read, cause_in, count_read, end_of_bytes, end_of_purpose, end_of_session, gave, heard, heard_as, holding, is_through, limited, linked, looked_at, opened, pumped, read_on, role_of, sent_some, served, stored_after}
use Rattle.mqb_serving.specs.Serving.{answer_of}
use Rattle.mqb_serving.specs.declared.faults.PeerFault.{PeerFault}
use Rattle.mqb_serving.specs.declared.faults.PeerFault.TheVariants as bad
use Rattle.mqb_serving.specs.declared.purpose.Errand.TheVariants as errand
use Rattle.mqb_serving.specs.declared.limits.TheConstants.{MAX_PUMPS, MAX_READ, WINDOW}
use Rattle.mqb_serving.specs.declared.purpose.Purpose.{Purpose}
use Rattle.mqb_serving.specs.declared.purpose.Purpose.TheVariants as purpose
use Rattle.mqb_capture.specs.Events.{Bad, Event, Heard, Sent, Watch}
use Rattle.mqb_capture.specs.Grammar.{Head}
use Rattle.mqb_capture.specs.Lawful.{AreLawful, IsBetween, NothingIsLeft, first_session, kind_for, session_of}
use Rattle.mqb_capture.proofs.Sames.{tests_guid}
use Rattle.mqb_law_captures.specs.Laws.{AnsweredIsLawful, IsFromPeer, ServedIsLawful, end_of, peer_of}
use Rattle.mqb_law_captures.specs.Traces.{events_from, events_of, given}
use Rattle.mqb_law_captures.proofs.Courses.{IsOwner, IsToPeer, KeepsOwn, MayBeLawful, Stands, after_call}
use Rattle.mqb_law_captures.proofs.Links.{noted_none}
use Rattle.mqb_law_captures.proofs.Pieces.{packets_watched}
use Rattle.mqb_law_captures.proofs.Rows.{IsOwnOf, KeptRise}
use Rattle.mqb_law_captures.proofs.Sessions.{IsLost, IsPeered, not_both, ready_not_lost}
use Rattle.mqb_law_captures.proofs.States.{WaitsOwn, leaves_same}
use Rattle.mqb_law_captures.proofs.Tracing.{bytes_come, opened_comes}
use Rattle.mqb_law_captures.proofs.Lists.{all_left, all_right, pairs_of}

-- The manager at the beginning.

recoverable_kind : (d : Delivery) → is_recoverable d ≡ true → kind_for d ≡ kind.Recoverable
recoverable_kind delivery.Recoverable e = refl
recoverable_kind delivery.Express e = absurd (let none : ⊥ = cc in none)
recoverable_kind delivery.Transactional e = absurd (let none : ⊥ = cc in none)

express_kind : (d : Delivery) → is_express d ≡ true → kind_for d ≡ kind.Plain
express_kind delivery.Express e = refl
express_kind delivery.Recoverable e = absurd (let none : ⊥ = cc in none)
express_kind delivery.Transactional e = absurd (let none : ⊥ = cc in none)

stream_kind : (d : Delivery) → is_transactional d ≡ true → kind_for d ≡ kind.Plain
stream_kind delivery.Transactional e = refl
stream_kind delivery.Express e = absurd (let none : ⊥ = cc in none)
stream_kind delivery.Recoverable e = absurd (let none : ⊥ = cc in none)

module _ (own : Guid) where
  items_own : (k : _) (os : List Outgoing) → AllByRecursion (IsOwnOf own k) (messages_of os) → AllByRecursion (λ (o : Outgoing). IsOwnOf own k o.message) os
  items_own k [] h = tt
  items_own k (o ∷ os) h = (h.0, items_own k os h.1)

  plain_own : (ps : List PlainLists) → AllByRecursion (IsOwnOf own kind.Recoverable) (flat_map (λ (p : PlainLists). messages_of p.recoverable) ps)
      → AllByRecursion (IsOwnOf own kind.Plain) (flat_map (λ (p : PlainLists). messages_of p.express) ps) → AllByRecursion (WaitsOwn own) ps
  plain_own [] r e = tt
  plain_own (p ∷ ps) r e = (
    record {
      recoverable = items_own kind.Recoverable p.recoverable (all_left (IsOwnOf own kind.Recoverable) (messages_of p.recoverable) (flat_map (λ (p : PlainLists). messages_of p.recoverable) ps) r);
      express = items_own kind.Plain p.express (all_left (IsOwnOf own kind.Plain) (messages_of p.express) (flat_map (λ (p : PlainLists). messages_of p.express) ps) e);
    },
    plain_own ps (all_right (IsOwnOf own kind.Recoverable) (messages_of p.recoverable) (flat_map (λ (p : PlainLists). messages_of p.recoverable) ps) r)
        (all_right (IsOwnOf own kind.Plain) (messages_of p.express) (flat_map (λ (p : PlainLists). messages_of p.express) ps) e),
  )

  both_own : (next : ℕ) (ms : List Message) (test : Delivery → Bool) (k : _) → ((d : Delivery) → test d ≡ true → kind_for d ≡ k) → AllByRecursion (IsOwn own next) ms
      → AllByRecursion (λ (m : Message). test m.delivery ≡ true) ms → AllByRecursion (IsOwnOf own k) ms
  both_own next [] test k f o t = tt
  both_own next (m ∷ ms) test k f o t = (((tests_guid m.id.qm own).holds o.0.source, f m.delivery t.0), both_own next ms test k f o.1 t.1)

  express_own : (ms : List Message) → AllByRecursion (λ (m : Message). m.id.qm ≡ own) ms → AllByRecursion (λ (m : Message). is_express m.delivery ≡ true) ms → AllByRecursion (IsOwnOf own kind.Plain) ms
  express_own [] o t = tt
  express_own (m ∷ ms) o t = ((o.0, express_kind m.delivery t.0), express_own ms o.1 t.1)

  kept_own : (next : ℕ) (row : Row) (ks : List Kept) → AllByRecursion (IsOwn own next) (map (λ (k : Kept). k.message) ks) → AllByRecursion (IsKeptBy row) ks
      → AllByRecursion (λ (k : Kept). IsOwnOf own kind.Plain k.message) ks
  kept_own next row [] o b = tt
  kept_own next row (k ∷ ks) o b = (((tests_guid k.message.id.qm own).holds o.0.source, stream_kind k.message.delivery b.0.transactional), kept_own next row ks o.1 b.1)

  rows_own : (next n : ℕ) (rows : List Row) → AllByRecursion (IsOwn own next) (flat_map (λ (row : Row). map (λ (k : Kept). k.message) row.kept) rows) → AllByRecursion (IsInOrder n) rows
      → AllByRecursion (KeepsOwn own) rows × AllByRecursion (λ (row : Row). KeptRise row.kept) rows
  rows_own next n [] o b = (tt, tt)
  rows_own next n (row ∷ rows) o b =
      let more = rows_own next n rows (all_right (IsOwn own next) (map (λ (k : Kept). k.message) row.kept) (flat_map (λ (row : Row). map (λ (k : Kept). k.message) row.kept) rows) o) b.1 in (
        (
          kept_own next row row.kept (all_left (IsOwn own next) (map (λ (k : Kept). k.message) row.kept) (flat_map (λ (row : Row). map (λ (k : Kept). k.message) row.kept) rows) o)
              (recursion_from_All (IsKeptBy row) row.kept b.0.kept),
          more.0,
        ),
        (pairs_of (λ (j k : Kept). j.number < k.number) row.kept b.0.rises, more.1),
      )

owner_is : (m : Manager) → IsValidManager m → All (λ (x : Message). x.id.qm ≡ m.state.identity.guid) (express_waiting m.state) → IsOwner m.state.identity.guid m.state
owner_is m v own =
    let guid = m.state.identity.guid in
    let all = recursion_from_All (IsOwn guid m.state.next_number) (kept_messages m.state ++ recoverable_messages m.state) v.state.own in
    let rows = rows_own guid m.state.next_number (length m.state.peers) m.state.outs (all_left (IsOwn guid m.state.next_number) (kept_messages m.state) (recoverable_messages m.state) all)
    (recursion_from_All (IsInOrder (length m.state.peers)) m.state.outs v.state.rows) in
    record {
      identity = refl;
      plain = plain_own guid m.state.plain
          (both_own guid m.state.next_number (recoverable_messages m.state) is_recoverable kind.Recoverable recoverable_kind (all_right (IsOwn guid m.state.next_number) (kept_messages m.state) (recoverable_messages m.state) all)
          (recursion_from_All (λ (x : Message). is_recoverable x.delivery ≡ true) (recoverable_messages m.state) v.state.recoverable))
          (express_own guid (express_waiting m.state) (recursion_from_All (λ (x : Message). x.id.qm ≡ guid) (express_waiting m.state) own)
          (recursion_from_All (λ (x : Message). is_express x.delivery ≡ true) (express_waiting m.state) v.express.waiting_express));
      kept = rows.0;
      rises = rows.1;
      ordinals = pairs_of (λ (a b : Row). a.sequence.ordinal < b.sequence.ordinal) m.state.outs v.state.ordinals_rise;
    }

-- A connection begins.

module _ (m : Manager) (h : Head) (valid : IsValidManager m) (unlinked : m.rest.session ≡ None) (owner : IsOwner h.own m.state) (own : h.own ≡ m.state.identity.guid) (window : h.window ≡ WINDOW) where
  -- a session that begins, where it is that of the head
  begins_so : (r : Role) (s : one_end.State) → session_for m.state r WINDOW ≡ Some s → is_down m ≡ false → first_session h ≡ s → IsPeered h.peer s → Stands h (succeeded m (linking m r WINDOW)) []
  begins_so r s is up first peered = after_call h m (linking m r WINDOW) s [] is peered (record { same = first; run = tt; between = tt; linked = record { below = tt; fit = tt } })
      (noted_none m.state.outs m.rest.cursors (let counted = valid.cursors in omega (arith, counted))) (leaves_same h.own m.state) owner up

  asked : (k : ℕ) (o : Option Identity) → slice_get m.state.peers k ≡ o → is_down m ≡ false → h.role ≡ side.Initiator → MayBeLawful h (succeeded m (linking m (role.Initiator k) WINDOW)) []
  asked k None e up which = inl (subst (λ (o : Option Identity). IsLost h.peer (option_map (λ peer. new_initiator m.state.identity.guid peer.guid WINDOW) o)) (sym e) tt)
  asked k (Some peer) e up which = at (same_guid peer.guid h.peer) refl
    where
      s : one_end.State
      s = new_initiator m.state.identity.guid peer.guid WINDOW

      is : session_for m.state (role.Initiator k) WINDOW ≡ Some s
      is = ap (option_map (λ (peer : Identity). new_initiator m.state.identity.guid peer.guid WINDOW)) e

      first : peer.guid ≡ h.peer → first_session h ≡ s
      first same = ap (λ (r : sides.Role). session_of r h) which ∙ ap (λ (x : Guid). new_initiator x h.peer h.window) own
          ∙ ap (λ (x : Guid). new_initiator m.state.identity.guid x h.window) (sym same) ∙ ap (new_initiator m.state.identity.guid peer.guid) window

      peered : peer.guid ≡ h.peer → IsPeered h.peer s
      peered same = inl (ap (λ (x : Guid). Some x) same, refl)

      lost : (peer.guid ≡ h.peer → ⊥) → IsLost h.peer (Some s)
      lost apart = inr (record { other = peer.guid; is = refl; apart = apart; found = refl })

      at : (b : Bool) → same_guid peer.guid h.peer ≡ b → MayBeLawful h (succeeded m (linking m (role.Initiator k) WINDOW)) []
      at true i = let same = (tests_guid peer.guid h.peer).holds i in inr (begins_so (role.Initiator k) s is up (first same) (peered same))
      at false i = inl (subst (IsLost h.peer) (sym is) (lost (λ x. not_both (same_guid peer.guid h.peer) ((tests_guid peer.guid h.peer).passes x) i)))

  begun_for : (asks : Purpose) → h.role ≡ end_of asks → is_down m ≡ false → MayBeLawful h (succeeded m (linking m (role_of asks) WINDOW)) []
  begun_for purpose.Serve which up = inr (begins_so role.Acceptor (new_acceptor m.state.identity.guid WINDOW) refl up
      (ap (λ (r : sides.Role). session_of r h) which ∙ ap (λ (x : Guid). new_acceptor x h.window) own ∙ ap (new_acceptor m.state.identity.guid) window) (inr (refl, refl, refl)))
  begun_for (purpose.Reach why k) which up = asked k (slice_get m.state.peers k) refl up which

  begun : (asks : Purpose) → h.role ≡ end_of asks → MayBeLawful h (succeeded m (link m (role_of asks) WINDOW)) []
  begun asks which = at (link_refusal m (role_of asks) WINDOW) refl
    where
      up_of : (b : Bool) (o : Option LinkFault) → cond b (Some fault.Down) o ≡ None → b ≡ false
      up_of true o e = absurd (let none : ⊥ = cc in none)
      up_of false o e = refl

      at : (o : Option LinkFault) → link_refusal m (role_of asks) WINDOW ≡ o → MayBeLawful h (succeeded m (unless m o (linking m (role_of asks) WINDOW))) []
      at (Some why) e = inl (subst (IsLost h.peer) (sym unlinked) tt)
      at None e = begun_for asks which (up_of (is_down m) _ e)

-- A connection that ends well ends with a session that is ready.

abbrev some_end : End → Option End
some_end e = Some e

abbrev well : End
well = Ok tt

abbrev IsThrough : Conversation → Type 0
IsThrough c = c.end ≡ some_end well → is_through c.stored.manager ≡ true

abbrev early : End
early = Err bad.PeerClosed

not_ended : (c : Conversation) → c.end ≡ None → IsThrough c
not_ended c e f = absurd (let g = sym e ∙ f in let none : ⊥ = cc in none)

ended_badly : (c : Conversation) (why : PeerFault) → c.end ≡ Some (Err why) → IsThrough c
ended_badly c why e f = absurd (let g = sym e ∙ f in let none : ⊥ = cc in none)

-- it does not end it well
abbrev IsBad : Option End → Type 0
IsBad None = Unit {0}
IsBad (Some (Err why)) = Unit {0}
IsBad (Some (Ok done)) = ⊥

rest_through : (answer : Result ℕ PumpFault) (c : Conversation) → IsThrough (at_rest answer c)
rest_through (Err why) c e = absurd (let none : ⊥ = cc in none)
rest_through (Ok count) c e = at (end_of_session (phase_of c.stored.manager)) (session_bad (phase_of c.stored.manager)) e
  where
    cause_bad : (o : Option Cause) → IsBad (option_map (λ why. Err (bad.Closed why)) o)
    cause_bad None = tt
    cause_bad (Some why) = tt

    session_bad : (o : Option Phase) → IsBad (end_of_session o)
    session_bad None = tt
    session_bad (Some p) = cause_bad (cause_in p)

    pushed : (b : Bool) → is_through c.stored.manager ≡ b → cond b (some_end well) None ≡ some_end well → is_through c.stored.manager ≡ true
    pushed true f g = f
    pushed false f g = absurd (let none : ⊥ = cc in none)

    by : (asks : Purpose) → end_of_purpose asks c.stored.manager ≡ some_end well → is_through c.stored.manager ≡ true
    by purpose.Serve f = absurd (let none : ⊥ = cc in none)
    by (purpose.Reach errand.Push k) f = pushed (is_through c.stored.manager) refl f
    by (purpose.Reach errand.Fetch k) f = absurd (let none : ⊥ = cc in none)

    at : (o : Option End) → IsBad o → option_or o (end_of_purpose c.purpose c.stored.manager) ≡ some_end well → is_through c.stored.manager ≡ true
    at None is f = by c.purpose f
    at (Some (Err why)) is f = absurd (let none : ⊥ = cc in none)
    at (Some (Ok done)) is f = absurd is

pumps_through : (count : ℕ) (c : Conversation) → c.end ≡ None → IsThrough (pumped count c)
pumps_through zero c e = not_ended c e
pumps_through (suc count) c e = at (sent_some outcome.answer) (pumps_through count (gave outcome c) e)
  where
    outcome : PumpOutcome
    outcome = pump c.stored.manager c.now

    at : (b : Bool) → IsThrough (pumped count (gave outcome c)) → IsThrough (cond b (pumped count (gave outcome c)) (at_rest outcome.answer (gave outcome c)))
    at true more = more
    at false more = rest_through outcome.answer (gave outcome c)

answer_through : (c : Conversation) (answer : Answer) → c.end ≡ None → IsThrough (answered answer c)
answer_through c (Wants need) e = not_ended c e
answer_through c (Broken why place) e = ended_badly (answered (Broken why place) c) (bad.Bad place why) refl
answer_through c (Whole frame) e = at (packet_of frame)
  where
    d : Conversation
    d = record c { framing = advanced c.framing }

    by : (o : Option Packet) → IsThrough (option_map_or (heard d) o d)
    by None = not_ended d e
    by (Some p) = pumps_through MAX_PUMPS (record d { stored = stored_after d.stored (hear d.stored.manager p d.now) }) e

    at : (r : Result PacketParts HeadFault) → IsThrough (heard_as c.framing.place r (record c { framing = advanced c.framing }))
    at (Err why) = ended_badly (heard_as c.framing.place (Err why) (record c { framing = advanced c.framing })) (bad.Bad c.framing.place why) refl
    at (Ok parts) = by (packet_in parts)

limited_through : (c : Conversation) → IsThrough c → IsThrough (limited c)
limited_through c h = at (count_read c == MAX_READ)
  where
    by : (o : Option End) → c.end ≡ o → option_or o (Some (Err bad.TooMuch)) ≡ some_end well → is_through c.stored.manager ≡ true
    by None e f = absurd (let none : ⊥ = cc in none)
    by (Some end) e f = h (e ∙ f)

    at : (b : Bool) → IsThrough (cond b (record c { end = option_or c.end (Some (Err bad.TooMuch)) }) c)
    at true = λ f. by c.end refl f
    at false = h

byte_through : (c : Conversation) (byte : ℕ) → IsThrough c → IsThrough (byte_read c byte)
byte_through c byte h = at c.end refl
  where
    at : (o : Option End) → c.end ≡ o → IsThrough (cond (is_some o) c (looked_at (holding c (byte ∷ []))))
    at (Some end) e = h
    at None e = limited_through (answered (next (holding c (byte ∷ [])).framing) (holding c (byte ∷ []))) (answer_through (holding c (byte ∷ [])) (next (holding c (byte ∷ [])).framing) e)

bytes_through : (c : Conversation) (bytes : List ℕ) → IsThrough c → IsThrough (read_on c bytes)
bytes_through c [] h = h
bytes_through c (byte ∷ bytes) h = bytes_through (byte_read c byte) bytes (byte_through c byte h)

well_through : (c : Conversation) → IsThrough c → unwrap_or c.end (end_of_bytes c) ≡ well → is_through c.stored.manager ≡ true
well_through c h e = at c.end refl e
  where
    some_ok : (end : End) → end ≡ well → some_end end ≡ some_end well
    some_ok end f = ap some_end f

    by : (b d : Bool) → cond (b && d) well early ≡ well → b ≡ true
    by true d f = refl
    by false d f = absurd (let none : ⊥ = cc in none)

    at : (o : Option End) → c.end ≡ o → unwrap_or o (end_of_bytes c) ≡ well → is_through c.stored.manager ≡ true
    at (Some end) f g = h (f ∙ some_ok end g)
    at None f g = by (is_through c.stored.manager) (length c.framing.held == 0) g

-- such a manager is not lost
through_stands : (h : Head) (m : Manager) (events : List Event) → is_through m ≡ true → peer_of m ≡ Some h.peer → MayBeLawful h m events → Stands h m events
through_stands h m events through peer (inr s) = s
through_stands h m events through peer (inl lost) = absurd (at m.rest.session (and_parts (option_map_or is_ready (phase_of m) false) (not (is_outstanding m)) through).0 peer lost)
  where
    at : (o : Option one_end.State) → option_map_or is_ready (option_map (λ (s : one_end.State). s.phase) o) false ≡ true → option_and_then (λ (s : one_end.State). s.peer) o ≡ Some h.peer → IsLost h.peer o → ⊥
    at None e f l = let none : ⊥ = cc in none
    at (Some s) e f l = ready_not_lost h.peer s e f l

-- All together.

both_between : (h : Head) (e : Event) → IsToPeer h e → IsFromPeer h e → IsBetween h e
both_between h (Sent p) to from = to
both_between h (Heard p) to from = from
both_between h (Bad fault) to from = tt

all_between : (h : Head) (events : List Event) → AllByRecursion (IsToPeer h) events → AllByRecursion (IsFromPeer h) events → AllByRecursion (IsBetween h) events
all_between h [] to from = tt
all_between h (e ∷ events) to from = (both_between h e to.0 from.0, all_between h events to.1 from.1)

pub served_is_lawful : ServedIsLawful
served_is_lawful m asks now bytes h capture may end head keeps of =
    let first = linked m asks now in
    let events = events_of m asks now bytes in
    let owner = subst (λ (g : Guid). IsOwner g m.manager.state) (sym head.own) (owner_is m.manager may.valid may.own) in
    let begin = begun m.manager h may.valid may.unlinked owner head.own head.window asks head.role in
    let start = opened_comes h first refl begin in
    let from = all_right (IsFromPeer h) (given (opened m asks now).given) (events_from (opened m asks now) bytes) keeps.between in
    let last = bytes_come h (opened m asks now) (given (opened m asks now).given) bytes from start in
    let through = well_through (read_on (opened m asks now) bytes) (bytes_through (opened m asks now) bytes (pumps_through MAX_PUMPS first refl)) end in
    let stands = through_stands h (read_on (opened m asks now) bytes).stored.manager events through head.peer last in
    let lawful : AreLawful h events = record {
      run = stands.runs.run;
      between = all_between h events stands.runs.between keeps.between;
      sent = stands.runs.linked;
      heard = keeps.linked;
    } in
    let watch = packets_watched events of.groups of.each in
    record {
      head = h;
      pieces = flat_map (λ group. group) of.groups;
      end = of.end;
      begins = of.begins;
      whole = of.whole;
      cut = subst NothingIsLeft (sym watch) (refl, refl);
      lawful = subst (λ (w : Watch). AreLawful h w.events) (sym watch) lawful;
    }

pub answered_is_lawful : AnsweredIsLawful
answered_is_lawful m n asks now held held_now taken taken_now s h capture may head keeps of =
    served_is_lawful m asks now s.read h capture may (is_well (served m asks now s.read).end s.ends.end) head keeps of
  where
    is_well : (end : End) → answer_of end ≡ answer_of well → end ≡ well
    is_well (Ok done) e = refl
    is_well (Err why) e = absurd (let none : ⊥ = cc in none)
