-- What is heard leaves the session that a capture's has, where the peer keeps to its part.
use Rattle.std.proofs.Common.{refl, ap, sym, subst, ◌∙◌, inl, inr}
use Rattle.std.specs.List.{list_any}
use Rattle.std.specs.Option.{option_map_or}
use Rattle.std.specs.Prelude.{[], ◌&&◌, ◌++◌, ◌==◌, ◌||◌, ◌∷◌, ◌≡◌, ◌⊎◌, Bool, Err, IsSome, List, None, Option, Some, cond, false, is_some, length, true, unwrap_or, ℕ}
use Rattle.mqb_base.specs.Same.{same_guid}
use Rattle.mqb_base.specs.declared.class.TheConstants.Class.{ORDER_ACKNOWLEDGEMENT}
use Rattle.mqb_base.specs.declared.heads.SessionHead.{SessionHead}
use Rattle.mqb_base.specs.declared.heads.TxHead.{TxHead}
use Rattle.mqb_base.specs.declared.heard.Cause.{Cause}
use Rattle.mqb_base.specs.declared.heard.Cause.TheVariants as cause
use Rattle.mqb_base.specs.declared.heard.Heard.TheVariants as heard
use Rattle.mqb_base.specs.declared.ids.Guid.{Guid}
use Rattle.mqb_base.specs.declared.message.Delivery.{Delivery}
use Rattle.mqb_base.specs.declared.message.Delivery.TheVariants as delivery
use Rattle.mqb_fate.specs.Asking.{is_ordinary}
use Rattle.mqb_fate.specs.Orders.{acked_by}
use Rattle.mqb_fate.specs.declared.orders.OrderAck.{OrderAck}
use Rattle.mqb_orders.specs.Judging.{verdict_of}
use Rattle.mqb_orders.specs.declared.judging.Verdict.{Verdict}
use Rattle.mqb_orders.specs.declared.judging.Verdict.TheVariants as verdict
use Rattle.mqb_heads.specs.User.{is_transactional}
use Rattle.mqb_packet.specs.declared.packet.Packet.{Packet}
use Rattle.mqb_packet.specs.declared.packet.Packet.TheVariants as packet
use Rattle.mqb_packet.specs.declared.packet.UserPacket.{UserPacket}
use Rattle.mqb_session.specs.Hearing.{closing, establish_after, heard_head, is_wanted, on_establish, on_parameters, peer_after}
use Rattle.mqb_session.specs.Phases.{phase_after_establish}
use Rattle.mqb_session.specs.Sending.{is_ready, noted_stored}
use Rattle.mqb_session.specs.State.{no_guid}
use Rattle.mqb_session.specs.State as one_end
use Rattle.mqb_session.specs.declared.heads.HeadHeard.{HeadHeard}
use Rattle.mqb_session.specs.declared.heads.HeadHeard.TheVariants as head
use Rattle.mqb_session.specs.declared.phase.Phase.{Phase}
use Rattle.mqb_session.specs.declared.phase.Phase.TheVariants as phase
use Rattle.mqb_session.specs.declared.phase.Role.{Role}
use Rattle.mqb_session.specs.declared.phase.Role.TheVariants as role
use Rattle.mqb_setup.specs.declared.internal.Establish.{Establish}
use Rattle.mqb_model.specs.calls.hear.Hear.{hear, hear_acknowledgement, hear_behind, hear_linked, hear_user, listening}
use Rattle.mqb_model.specs.calls.hear.Plain.{hear_arriving, hear_express, hear_final, hear_plain, hear_recoverable, hear_stored, with_stored}
use Rattle.mqb_model.specs.calls.hear.Session.{HeardOutcome, Listening, ack_heard, arrival_entry, by_session, discarded, heard_as, hear_set_up, is_foreign, no_head, numbers_released, peer_heard}
use Rattle.mqb_model.specs.calls.hear.Streams.{acknowledged_in, duplicate_heard, has_sequence, hear_in_stream, hear_order_ack, index_for, judged, order_acked, owing, raises}
use Rattle.mqb_model.specs.declared.faults.HearFault.TheVariants as fault
use Rattle.mqb_model.specs.managers.Manager.{Manager, is_down}
use Rattle.mqb_model.specs.managers.Outcomes.{answering, recorded, state_after, succeeded, unless}
use Rattle.mqb_model.specs.records.Finals.{is_final}
use Rattle.mqb_model.specs.records.Record.{Part, Record}
use Rattle.mqb_model.specs.records.Record as entry
use Rattle.mqb_model.specs.rules.Arrivals.{refusal_of}
use Rattle.mqb_model.specs.rules.Effects.{begun}
use Rattle.mqb_model.specs.state.Places.{is_express}
use Rattle.mqb_model.specs.state.Resolving.{is_for_order_layer, peer_known}
use Rattle.mqb_model.specs.state.Rows.{in_row}
use Rattle.mqb_model.specs.state.State.{State}
use Rattle.mqb_capture.specs.Events.{Event, Heard}
use Rattle.mqb_capture.specs.Grammar.{Head}
use Rattle.mqb_capture.specs.Lawful.{MayCome, cause_of, stored_as}
use Rattle.mqb_capture.specs.Lawful as capture
use Rattle.mqb_capture.proofs.Sames.{tests_guid}
use Rattle.mqb_law_captures.specs.Laws.{IsFromPeer}
use Rattle.mqb_law_captures.proofs.Courses.{MayBeLawful, Runs, Stands, after_call, unlinked_more}
use Rattle.mqb_law_captures.proofs.Links.{AreNoted}
use Rattle.mqb_law_captures.proofs.Sessions.{IsLost, IsPeered, closed_lost, found_establish, head_leaves, is_lost, lost_establish, lost_parameters, lost_still, may_find, peered_parameters, peered_still, not_both, same_side, stored_side, IsSameSide}
use Rattle.mqb_law_captures.proofs.States.{Leaves, dropped_leaves, express_leaves, leaves_same, leaves_then, record_leaves, releases_places}
use Rattle.mqb_law_captures.proofs.Lists.{some_is}

-- A packet is transactional exactly where it has a place in a sequence.
abbrev pub IsOfKind : Packet → Type 0
IsOfKind (packet.User p) = is_some p.tx ≡ is_transactional p.message.delivery
IsOfKind _ = Unit {0}

-- What a call leaves of a linked manager.
pub record Answers (own : Guid) (m : Manager) (after : one_end.State) (outcome : HeardOutcome) : Type 0 where
  pub session : outcome.rest.session ≡ Some after
  pub cursors : outcome.rest.cursors ≡ m.rest.cursors
  pub state : Leaves own m.state (state_after m outcome)

module _ (own : Guid) (l : Listening) where
  abbrev Listens : HeardOutcome → Type 0
  Listens outcome = Answers own l.manager l.session outcome

  abbrev here : State
  here = l.manager.state

  -- what a record of an arrival leaves, and the places behind one of which nothing arrived
  entry_leaves : (part : Part) → Leaves own here (recorded here (arrival_entry l part))
  entry_leaves entry.Nothing = at (length (numbers_released l) == 0)
    where
      at : (b : Bool) → Leaves own here (recorded here (cond b None (Some (entry.Arrived l.now (numbers_released l) entry.Nothing))))
      at true = leaves_same own here
      at false = record_leaves own here l.now (numbers_released l) entry.Nothing
  entry_leaves (entry.Decided p) = record_leaves own here l.now (numbers_released l) (entry.Decided p)
  entry_leaves (entry.Stored p) = record_leaves own here l.now (numbers_released l) (entry.Stored p)
  entry_leaves (entry.OrderAcknowledged ordinal number) = record_leaves own here l.now (numbers_released l) (entry.OrderAcknowledged ordinal number)
  entry_leaves (entry.Final p) = record_leaves own here l.now (numbers_released l) (entry.Final p)

  nothing_places : (recorded here (arrival_entry l entry.Nothing)).places ≡ here.places
  nothing_places = at (length (numbers_released l) == 0)
    where
      at : (b : Bool) → (recorded here (cond b None (Some (entry.Arrived l.now (numbers_released l) entry.Nothing)))).places ≡ here.places
      at true = refl
      at false = releases_places own (begun here) (numbers_released l)

  as_heard : (part : Part) (answer : _) → Listens (heard_as l part answer)
  as_heard part answer = record {
    session = refl;
    cursors = refl;
    state = leaves_then own here (recorded here (arrival_entry l part)) (state_after l.manager (heard_as l part answer)) (entry_leaves part)
        (dropped_leaves own (recorded here (arrival_entry l part)) _ _);
  }

  either : (b : Bool) (x y : HeardOutcome) → Listens x → Listens y → Listens (cond b x y)
  either true x y left right = left
  either false x y left right = right

  -- Messages of streams, and order acknowledgements.

  owing_heard : (k : ℕ) (outcome : HeardOutcome) → Listens outcome → Listens (owing k outcome)
  owing_heard k outcome h = record { session = h.session; cursors = h.cursors; state = h.state }

  judged_heard : (p : UserPacket) (tx : TxHead) (found : Verdict) → Listens (judged l p tx found)
  judged_heard p tx verdict.Next = owing_heard _ _ (as_heard (entry.Decided p) _)
  judged_heard p tx verdict.Duplicate = either (has_sequence here p.message tx) (owing (index_for here p.message) (duplicate_heard l tx)) (duplicate_heard l tx)
      (owing_heard (index_for here p.message) (duplicate_heard l tx) (as_heard entry.Nothing _)) (as_heard entry.Nothing _)
  judged_heard p tx verdict.Gap = as_heard entry.Nothing _
  judged_heard p tx verdict.Stale = as_heard entry.Nothing _

  stream_heard : (p : UserPacket) (tx : TxHead) → Listens (hear_in_stream l p tx)
  stream_heard p tx = either (is_ordinary p.message) (judged l p tx (verdict_of (in_row here p.message) tx)) (discarded l)
      (judged_heard p tx (verdict_of (in_row here p.message) tx)) (as_heard entry.Nothing _)

  order_heard : (ack : OrderAck) → Listens (hear_order_ack l ack)
  order_heard ack = either (list_any (raises (peer_heard l) ack) here.outs) (order_acked l ack) (heard_as l entry.Nothing heard.OldAck)
      (as_heard (entry.OrderAcknowledged ack.sequence.ordinal ack.number) _) (as_heard entry.Nothing _)

  express_heard : (p : UserPacket) → Listens (hear_express l p)
  express_heard p = either (is_for_order_layer here p.message.destination) (discarded l) (hear_arriving l p.message (refusal_of here p)) (as_heard entry.Nothing _) (record {
    session = refl;
    cursors = refl;
    state = let t = recorded here (arrival_entry l entry.Nothing) in
        leaves_then own here t (state_after l.manager (hear_arriving l p.message (refusal_of here p))) (entry_leaves entry.Nothing)
        (express_leaves own here t (peer_heard l) l.session.acked l.now p (entry_leaves entry.Nothing).identity (entry_leaves entry.Nothing).peers nothing_places);
  })

-- A user packet behind its header.

module _ (own : Guid) (l : Listening) where
  abbrev ListensAs : one_end.State → HeardOutcome → Type 0
  ListensAs after outcome = Answers own l.manager after outcome

  recoverable_heard : (p : UserPacket) → ListensAs (noted_stored l.session) (hear_recoverable l p)
  recoverable_heard p = at (is_final l.manager.state p.message)
    where
      at : (b : Bool) → ListensAs (noted_stored l.session) (cond b (hear_final l p) (hear_stored l p))
      at true = as_heard own (with_stored l) (entry.Final p) _
      at false = as_heard own (with_stored l) (entry.Stored p) _

  -- one that is in no stream and in order
  plain_heard : (p : UserPacket) (d : Delivery) → p.message.delivery ≡ d → is_transactional d ≡ false → ListensAs (stored_as d head.InOrder l.session) (hear_plain l true p)
  plain_heard p d e other = subst (λ (x : Delivery). ListensAs (stored_as d head.InOrder l.session) (by x)) (sym e) (at d other)
    where
      by : Delivery → HeardOutcome
      by x = option_map_or (hear_order_ack l)
          (cond ((is_express x && (p.message.class.0 == ORDER_ACKNOWLEDGEMENT.0)) && is_for_order_layer l.manager.state p.message.destination) (acked_by p.message.body) None)
          (cond (is_express x) (hear_express l p) (hear_recoverable l p))

      acks : (o : Option OrderAck) → ListensAs l.session (option_map_or (hear_order_ack l) o (hear_express l p))
      acks None = express_heard own l p
      acks (Some ack) = order_heard own l ack

      at : (x : Delivery) → is_transactional x ≡ false → ListensAs (stored_as x head.InOrder l.session) (by x)
      at delivery.Express f = acks (cond ((p.message.class.0 == ORDER_ACKNOWLEDGEMENT.0) && is_for_order_layer l.manager.state p.message.destination) (acked_by p.message.body) None)
      at delivery.Recoverable f = recoverable_heard p
      at delivery.Transactional f = absurd (let none : ⊥ = cc in none)

  in_order_heard : (p : UserPacket) → is_some p.tx ≡ is_transactional p.message.delivery → ListensAs (stored_as p.message.delivery head.InOrder l.session) (hear_user l true p)
  in_order_heard p kind = at p.tx p.message.delivery refl kind
    where
      at : (o : Option TxHead) (d : Delivery) → p.message.delivery ≡ d → is_some o ≡ is_transactional d
          → ListensAs (stored_as d head.InOrder l.session) (option_map_or (hear_in_stream l p) o (hear_plain l true p))
      at (Some tx) delivery.Transactional e f = stream_heard own l p tx
      at (Some tx) delivery.Express e f = absurd (let none : ⊥ = cc in none)
      at (Some tx) delivery.Recoverable e f = absurd (let none : ⊥ = cc in none)
      at None d e f = plain_heard p d e (sym f)

  other_heard : (p : UserPacket) → ListensAs l.session (hear_user l false p)
  other_heard p = at p.tx
    where
      acks : (o : Option OrderAck) → ListensAs l.session (option_map_or (hear_order_ack l) o (discarded l))
      acks None = as_heard own l entry.Nothing _
      acks (Some ack) = order_heard own l ack

      at : (o : Option TxHead) → ListensAs l.session (option_map_or (hear_in_stream l p) o (hear_plain l false p))
      at (Some tx) = stream_heard own l p tx
      at None = acks (acknowledged_in l.manager.state p.message)

closed_answers : (own : Guid) (m : Manager) (t : one_end.State) (answer : _) → Answers own m t (by_session m t answer)
closed_answers own m t answer = record { session = refl; cursors = refl; state = leaves_same own m.state }

not_in_order : (d : Delivery) (given : HeadHeard) (s : one_end.State) → (given ≡ head.InOrder → ⊥) → stored_as d given s ≡ s
not_in_order delivery.Recoverable head.InOrder s other = absurd (other refl)
not_in_order delivery.Recoverable (head.Closed why) s other = refl
not_in_order delivery.Recoverable head.OutOfOrder s other = refl
not_in_order delivery.Recoverable head.AckOnly s other = refl
not_in_order delivery.Express given s other = refl
not_in_order delivery.Transactional given s other = refl

-- a user packet whose header was heard as this
behind_heard : (own : Guid) (m : Manager) (now : ℕ) (p : UserPacket) (given : HeadHeard) (t : one_end.State) → is_some p.tx ≡ is_transactional p.message.delivery
    → Answers own m (stored_as p.message.delivery given t) (hear_behind m now p given t)
behind_heard own m now p (head.Closed why) t kind = subst (λ (x : one_end.State). Answers own m x (by_session m t (heard.Closed why)))
    (sym (not_in_order p.message.delivery (head.Closed why) t (λ e. let none : ⊥ = cc in none))) (closed_answers own m t (heard.Closed why))
behind_heard own m now p head.InOrder t kind = in_order_heard own (listening m t now) p kind
behind_heard own m now p head.OutOfOrder t kind = subst (λ (x : one_end.State). Answers own m x (hear_user (listening m t now) false p))
    (sym (not_in_order p.message.delivery head.OutOfOrder t (λ e. let none : ⊥ = cc in none))) (other_heard own (listening m t now) p)
behind_heard own m now p head.AckOnly t kind = subst (λ (x : one_end.State). Answers own m x (hear_user (listening m t now) false p))
    (sym (not_in_order p.message.delivery head.AckOnly t (λ e. let none : ⊥ = cc in none))) (other_heard own (listening m t now) p)

ack_answers : (own : Guid) (m : Manager) (now : ℕ) (given : HeadHeard) (t : one_end.State) → Answers own m t (hear_acknowledgement m now given t)
ack_answers own m now (head.Closed why) t = closed_answers own m t (heard.Closed why)
ack_answers own m now head.InOrder t = as_heard own (listening m t now) entry.Nothing heard.Session
ack_answers own m now head.OutOfOrder t = as_heard own (listening m t now) entry.Nothing heard.Session
ack_answers own m now head.AckOnly t = as_heard own (listening m t now) entry.Nothing heard.Session

-- What a packet comes to.

abbrev pub IsHeardSo : Head → Manager → List Event → Packet → HeardOutcome → Type 0
IsHeardSo h m events p outcome = MayBeLawful h (succeeded m outcome) (events ++ Heard p ∷ [])

module _ (h : Head) (m : Manager) (events : List Event) (now : ℕ) (p : Packet) where
  -- the session is lost by it
  lost_so : (outcome : HeardOutcome) (t : one_end.State) → outcome.rest.session ≡ Some t → IsLost h.peer (Some t) → IsHeardSo h m events p outcome
  lost_so outcome t is lost = inl (subst (IsLost h.peer) (sym is) lost)

  module _ (s : one_end.State) (is : m.rest.session ≡ Some s) (k : Stands h m events) (same : k.session ≡ s) where
    -- it is heard as a capture has it
    stands_so : (outcome : HeardOutcome) (t : one_end.State) → Answers h.own m t outcome → capture.heard_by h.peer p s ≡ t → IsPeered h.peer t ⊎ IsLost h.peer (Some t) → IsHeardSo h m events p outcome
    stands_so outcome t answers after (inr lost) = lost_so outcome t answers.session lost
    stands_so outcome t answers after (inl peered) = at (cause_of t.phase) refl
      where
        at : (o : Option Cause) → cause_of t.phase ≡ o → IsHeardSo h m events p outcome
        at (Some why) e = lost_so outcome t answers.session (inl (closed_lost t.phase why e))
        at None e = let more = unlinked_more h s t events (Heard p) (subst (λ (x : one_end.State). Runs h x events) same k.runs) (ap (λ (x : one_end.State). cause_of x.phase) after ∙ e) after tt refl in
            inr (after_call h m outcome t (events ++ Heard p ∷ []) answers.session peered more.0
            (subst (AreNoted _ m.state.outs) (sym answers.cursors) (subst (λ (ls : List _). AreNoted ls m.state.outs m.rest.cursors) (sym more.1) k.noted)) answers.state k.owner k.up)

-- An Establish.

-- the session behind one, by its phase and end
abbrev established : Phase → Role → Bool → Establish → one_end.State → one_end.State
established ph r known e s = record s {
  phase = phase_after_establish ph r (is_wanted r e known s);
  establish = establish_after ph r e s.establish;
  peer = peer_after ph r (is_wanted r e known s) e.client s.peer;
}

-- Whether the client is known to the manager or is the peer, the session is the same; or it is lost.
establish_same : (peer : Guid) (e : Establish) (known : Bool) (s : one_end.State) → IsPeered peer s
    → ((on_establish e (same_guid e.client peer) s ≡ on_establish e known s) × IsPeered peer (on_establish e known s)) ⊎ IsLost peer (Some (on_establish e known s))
establish_same peer e known s peered = at s.phase s.role refl refl
  where
    Fits : one_end.State → one_end.State → Type 0
    Fits x t = ((x ≡ t) × IsPeered peer t) ⊎ IsLost peer (Some t)

    is_peer : Bool
    is_peer = same_guid e.client peer

    -- an initiator looks at its own Establish alone
    asks : s.role ≡ role.Initiator → on_establish e is_peer s ≡ on_establish e known s
    asks f = ap (λ (r : Role). established s.phase r is_peer e s) f ∙ ap (λ (r : Role). established s.phase r known e s) (sym f)

    kept : s.role ≡ role.Initiator → IsPeered peer (on_establish e known s)
    kept f = by peered
      where
        by : IsPeered peer s → IsPeered peer (on_establish e known s)
        by (inl h) = inl (ap (λ (r : Role). peer_after s.phase r (is_wanted s.role e known s) e.client s.peer) f ∙ stays s.phase ∙ h.0, found_establish s.phase s.role (is_wanted s.role e known s))
          where
            stays : (ph : Phase) → peer_after ph role.Initiator (is_wanted s.role e known s) e.client s.peer ≡ s.peer
            stays phase.WaitEstablish = refl
            stays ph = refl
        by (inr h) = absurd (let g : role.Initiator ≡ role.Acceptor = sym f ∙ h.1 in let none : ⊥ = cc in none)

    repeated : (ph : Phase) → s.phase ≡ ph → is_lost (phase_after_establish ph s.role (is_wanted s.role e known s)) ≡ true → Fits (on_establish e is_peer s) (on_establish e known s)
    repeated ph f lost = inr (inl (ap (λ (x : Phase). is_lost (phase_after_establish x s.role (is_wanted s.role e known s))) f ∙ lost))

    -- an acceptor that waits for one
    accepts : s.phase ≡ phase.WaitEstablish → s.role ≡ role.Acceptor → Fits (on_establish e is_peer s) (on_establish e known s)
    accepts f g = subst (λ (x : one_end.State). Fits x (on_establish e known s)) (sym (as_is is_peer)) (subst (Fits (established phase.WaitEstablish role.Acceptor is_peer e s)) (sym (as_is known)) (by known (same_guid e.client peer) refl))
      where
        as_is : (b : Bool) → on_establish e b s ≡ established phase.WaitEstablish role.Acceptor b e s
        as_is b = ap (λ (ph : Phase). established ph s.role b e s) f ∙ ap (λ (r : Role). established phase.WaitEstablish r b e s) g

        addressed : Bool
        addressed = same_guid e.server s.own || same_guid e.server no_guid

        found_for : (w : Bool) → may_find (phase_after_establish phase.WaitEstablish role.Acceptor w) s.role ≡ false
        found_for w = ap (λ (r : Role). may_find (phase_after_establish phase.WaitEstablish role.Acceptor w) r) g ∙ found_establish phase.WaitEstablish role.Acceptor w

        some_client : e.client ≡ peer → Some e.client ≡ Some peer
        some_client x = ap (λ (y : Guid). Some y) x

        wanted : (b : Bool) → same_guid e.client peer ≡ b → (w : Bool) → (same_guid e.server s.own || same_guid e.server no_guid) ≡ w
            → Fits (established phase.WaitEstablish role.Acceptor b e s) (established phase.WaitEstablish role.Acceptor true e s)
        wanted true i true j = inl (refl, inl (ap (λ (x : Bool). peer_after phase.WaitEstablish role.Acceptor x e.client s.peer) j ∙ some_client ((tests_guid e.client peer).holds i), found_for (is_wanted role.Acceptor e true s)))
        wanted b i false j = inr (inl (ap (λ (x : Bool). is_lost (phase_after_establish phase.WaitEstablish role.Acceptor x)) j))
        wanted false i true j = inr (inr (record {
          other = e.client;
          is = ap (λ (x : Bool). peer_after phase.WaitEstablish role.Acceptor x e.client s.peer) j;
          apart = λ x. not_both (same_guid e.client peer) ((tests_guid e.client peer).passes x) i;
          found = found_for (is_wanted role.Acceptor e true s);
        }))

        by : (known b : Bool) → same_guid e.client peer ≡ b → Fits (established phase.WaitEstablish role.Acceptor is_peer e s) (established phase.WaitEstablish role.Acceptor known e s)
        by false b i = inr (inl refl)
        by true b i = subst (λ (x : Bool). Fits (established phase.WaitEstablish role.Acceptor x e s) (established phase.WaitEstablish role.Acceptor true e s)) (sym i)
            (wanted b i (same_guid e.server s.own || same_guid e.server no_guid) refl)

    at : (ph : Phase) (r : Role) → s.phase ≡ ph → s.role ≡ r → Fits (on_establish e is_peer s) (on_establish e known s)
    at ph role.Initiator f g = inl (asks g, kept g)
    at phase.WaitEstablish role.Acceptor f g = accepts f g
    at phase.Start role.Acceptor f g = repeated phase.Start f refl
    at phase.OweEstablish role.Acceptor f g = repeated phase.OweEstablish f refl
    at phase.OweRefusal role.Acceptor f g = repeated phase.OweRefusal f refl
    at phase.OweParameters role.Acceptor f g = repeated phase.OweParameters f refl
    at phase.WaitParameters role.Acceptor f g = repeated phase.WaitParameters f refl
    at phase.Ready role.Acceptor f g = repeated phase.Ready f refl
    at (phase.Closed why) role.Acceptor f g = repeated (phase.Closed why) f refl

-- All packets.

stored_as_side : (d : Delivery) (given : HeadHeard) (t : one_end.State) → IsSameSide t (stored_as d given t)
stored_as_side delivery.Recoverable head.InOrder t = stored_side t
stored_as_side delivery.Recoverable (head.Closed why) t = same_side t
stored_as_side delivery.Recoverable head.OutOfOrder t = same_side t
stored_as_side delivery.Recoverable head.AckOnly t = same_side t
stored_as_side delivery.Express given t = same_side t
stored_as_side delivery.Transactional given t = same_side t

module _ (h : Head) (m : Manager) (events : List Event) (now : ℕ) (s : one_end.State) (is : m.rest.session ≡ Some s) where
  -- a user packet, by what the session made of it
  user_lost : (p : UserPacket) → IsOfKind (packet.User p) → (given : HeadHeard) (t : one_end.State) → IsLost h.peer (Some t) → IsHeardSo h m events (packet.User p) (hear_behind m now p given t)
  user_lost p kind given t lost = lost_so h m events now (packet.User p) (hear_behind m now p given t) (stored_as p.message.delivery given t) (behind_heard h.own m now p given t kind).session
      (lost_still h.peer t (stored_as p.message.delivery given t) (stored_as_side p.message.delivery given t) lost)

  lost_heard : (p : Packet) → IsOfKind p → IsLost h.peer (Some s) → IsHeardSo h m events p (hear_linked m now p s)
  lost_heard (packet.Establish e) kind lost = inl (lost_establish h.peer e (is_some (peer_known m.state e.client)) s lost)
  lost_heard (packet.Parameters p) kind lost = inl (lost_parameters h.peer p s lost)
  lost_heard (packet.Ack x) kind lost = let given = ack_heard x s in
      lost_so h m events now (packet.Ack x) (hear_acknowledgement m now given.0 given.1) given.1 (ack_answers h.own m now given.0 given.1).session ((head_leaves h.peer (record x { user = 0 }) s).side.lost lost)
  lost_heard (packet.User p) kind lost = at (is_ready s.phase && is_foreign m.state s p)
    where
      at : (b : Bool) → let given = cond b (closing cause.Foreign s) (heard_head (unwrap_or p.session no_head) s) in IsHeardSo h m events (packet.User p) (hear_behind m now p given.0 given.1)
      at true = inl (inl refl)
      at false = let given = heard_head (unwrap_or p.session no_head) s in user_lost p kind given.0 given.1 ((head_leaves h.peer (unwrap_or p.session no_head) s).side.lost lost)

  module _ (k : Stands h m events) (same : k.session ≡ s) where
    peered : IsPeered h.peer s
    peered = subst (IsPeered h.peer) same k.peered

    stands_heard : (p : Packet) → IsOfKind p → IsFromPeer h (Heard p) → IsHeardSo h m events p (hear_linked m now p s)
    stands_heard (packet.Establish e) kind from = let known = is_some (peer_known m.state e.client) in let t = on_establish e known s in by (establish_same h.peer e known s peered)
      where
        by : let t = on_establish e (is_some (peer_known m.state e.client)) s in ((on_establish e (same_guid e.client h.peer) s ≡ t) × IsPeered h.peer t) ⊎ IsLost h.peer (Some t)
            → IsHeardSo h m events (packet.Establish e) (hear_set_up m t)
        by (inl both) = stands_so h m events now (packet.Establish e) s is k same (hear_set_up m (on_establish e (is_some (peer_known m.state e.client)) s))
            (on_establish e (is_some (peer_known m.state e.client)) s) (closed_answers h.own m (on_establish e (is_some (peer_known m.state e.client)) s) _) both.0 (inl both.1)
        by (inr lost) = lost_so h m events now (packet.Establish e) (hear_set_up m (on_establish e (is_some (peer_known m.state e.client)) s))
            (on_establish e (is_some (peer_known m.state e.client)) s) refl lost
    stands_heard (packet.Parameters p) kind from = stands_so h m events now (packet.Parameters p) s is k same (hear_set_up m (on_parameters p s)) (on_parameters p s)
        (closed_answers h.own m (on_parameters p s) _) refl (peered_parameters h.peer p s peered)
    stands_heard (packet.Ack x) kind from = let given = ack_heard x s in
        stands_so h m events now (packet.Ack x) s is k same (hear_acknowledgement m now given.0 given.1) given.1 (ack_answers h.own m now given.0 given.1) refl
        ((head_leaves h.peer (record x { user = 0 }) s).side.peered peered)
    stands_heard (packet.User p) kind from = at (is_ready s.phase && is_foreign m.state s p)
      where
        headed : (o : Option SessionHead) → p.session ≡ o → IsSome o → capture.heard_by h.peer (packet.User p) s ≡ stored_as p.message.delivery (heard_head (unwrap_or p.session no_head) s).0 (heard_head (unwrap_or p.session no_head) s).1
        headed None e some = absurd (not_both false some refl)
        headed (Some x) e some = ap (λ (o : Option SessionHead). option_map_or (λ head. capture.after_head p.message.delivery (heard_head head s)) o s) e
            ∙ sym (ap (λ (o : Option SessionHead). let given = heard_head (unwrap_or o no_head) s in stored_as p.message.delivery given.0 given.1) e)

        peers : (t : one_end.State) → IsPeered h.peer t ⊎ IsLost h.peer (Some t) → (u : one_end.State) → IsSameSide t u → IsPeered h.peer u ⊎ IsLost h.peer (Some u)
        peers t (inl p) u side = inl (peered_still h.peer t u side p)
        peers t (inr l) u side = inr (lost_still h.peer t u side l)

        at : (b : Bool) → let given = cond b (closing cause.Foreign s) (heard_head (unwrap_or p.session no_head) s) in IsHeardSo h m events (packet.User p) (hear_behind m now p given.0 given.1)
        at true = inl (inl refl)
        at false = let given = heard_head (unwrap_or p.session no_head) s in let t = stored_as p.message.delivery given.0 given.1 in
            stands_so h m events now (packet.User p) s is k same (hear_behind m now p given.0 given.1) t (behind_heard h.own m now p given.0 given.1 kind) (headed p.session refl from.session)
            (peers given.1 ((head_leaves h.peer (unwrap_or p.session no_head) s).side.peered peered) t (stored_as_side p.message.delivery given.0 given.1))

linked_heard : (h : Head) (m : Manager) (events : List Event) (now : ℕ) (p : Packet) (o : Option one_end.State) → m.rest.session ≡ o → IsOfKind p → IsFromPeer h (Heard p) → MayBeLawful h m events
    → IsHeardSo h m events p (option_map_or (hear_linked m now p) o (answering m (Err fault.NotLinked)))
linked_heard h m events now p None e kind from may = inl (subst (IsLost h.peer) (sym e) tt)
linked_heard h m events now p (Some s) e kind from (inl lost) = lost_heard h m events now s e p kind (subst (IsLost h.peer) e lost)
linked_heard h m events now p (Some s) e kind from (inr k) = stands_heard h m events now s e k (some_is k.session s (sym k.is ∙ e)) p kind from

-- a packet comes to a manager
pub hear_comes : (h : Head) (m : Manager) (events : List Event) (now : ℕ) (p : Packet) → IsOfKind p → IsFromPeer h (Heard p) → MayBeLawful h m events → IsHeardSo h m events p (hear m p now)
hear_comes h m events now p kind from may = at (is_down m) refl may
  where
    at : (b : Bool) → is_down m ≡ b → MayBeLawful h m events
        → IsHeardSo h m events p (unless m (cond b (Some fault.Down) None) (option_map_or (hear_linked m now p) m.rest.session (answering m (Err fault.NotLinked))))
    at true e (inl lost) = inl lost
    at true e (inr k) = absurd (not_both (is_down m) e k.up)
    at false e g = linked_heard h m events now p m.rest.session refl kind from g
