-- What a manager records of a packet that it hears is true where the packet is, and so is what it does beside.
use Rattle.std.proofs.Common.{refl, ap, sym, subst, ◌∙◌}
use Rattle.std.specs.List.{list_any}
use Rattle.std.specs.Option.{option_map_or}
use Rattle.std.specs.Prelude.{◌&&◌, ◌+◌, ◌==◌, ◌≡◌, Bool, Err, IfSome, List, None, Option, Some, cond, false, length, not, true, unwrap_or, ℕ}
use Rattle.mqb_base.specs.Same.{same_guid, same_id}
use Rattle.mqb_base.specs.declared.heads.SessionHead.{SessionHead}
use Rattle.mqb_base.specs.declared.heads.TxHead.{TxHead}
use Rattle.mqb_base.specs.declared.heard.Cause.{Cause}
use Rattle.mqb_base.specs.declared.heard.Cause.TheVariants as cause
use Rattle.mqb_base.specs.declared.heard.Heard.{Heard}
use Rattle.mqb_base.specs.declared.heard.Heard.TheVariants as heard
use Rattle.mqb_base.specs.declared.ids.Identity.{Identity}
use Rattle.mqb_base.specs.declared.message.Message.{Message}
use Rattle.mqb_exactly_once.specs.Words.{In}
use Rattle.mqb_fate.specs.Asking.{is_ordinary}
use Rattle.mqb_fate.specs.declared.orders.OrderAck.{OrderAck}
use Rattle.mqb_orders.specs.Judging.{verdict_of}
use Rattle.mqb_orders.specs.Rows.{Row}
use Rattle.mqb_orders.specs.declared.judging.Verdict.{Verdict}
use Rattle.mqb_orders.specs.declared.judging.Verdict.TheVariants as verdict
use Rattle.mqb_orders.specs.declared.kept.Kept.{Kept}
use Rattle.mqb_packet.specs.declared.packet.Packet.{Packet}
use Rattle.mqb_packet.specs.declared.packet.Packet.TheVariants as packet
use Rattle.mqb_packet.specs.declared.packet.UserPacket.{UserPacket}
use Rattle.mqb_session.specs.Hearing.{acknowledged, closing, counted, head_in, is_bad_ack, order_of}
use Rattle.mqb_session.specs.Sending.{is_ready}
use Rattle.mqb_session.specs.State as one_end
use Rattle.mqb_session.specs.declared.heads.HeadHeard.{HeadHeard}
use Rattle.mqb_session.specs.declared.heads.HeadHeard.TheVariants as head
use Rattle.mqb_session.specs.declared.phase.Phase.{Phase}
use Rattle.mqb_session.specs.declared.phase.Phase.TheVariants as phase
use Rattle.mqb_model.specs.calls.hear.Hear.{hear_acknowledgement, hear_behind, hear_linked, hear_refusal, hear_user, listening}
use Rattle.mqb_model.specs.calls.hear.Plain.{hear_arriving, hear_express, hear_final, hear_message, hear_plain, hear_recoverable, hear_stored}
use Rattle.mqb_model.specs.calls.hear.Session.{HeardOutcome, Listening, ack_heard, discarded, heard_as, is_foreign, is_from, no_head, numbers_released, peer_heard, user_heard}
use Rattle.mqb_model.specs.calls.hear.Streams.{acknowledged_in, duplicate_heard, has_sequence, hear_in_stream, hear_order_ack, index_for, judged, order_acked, owing, raises}
use Rattle.mqb_model.specs.declared.faults.HearFault.{HearFault}
use Rattle.mqb_model.specs.declared.faults.HearFault.TheVariants as fault
use Rattle.mqb_model.specs.managers.Manager.{Manager, linked_peer}
use Rattle.mqb_model.specs.managers.Outcomes.{answering, unless}
use Rattle.mqb_model.specs.records.Finals.{is_final}
use Rattle.mqb_model.specs.records.Record.{Part, Record}
use Rattle.mqb_model.specs.records.Record as entry
use Rattle.mqb_model.specs.rules.Arrivals.{refusal_of}
use Rattle.mqb_model.specs.state.Places.{is_express}
use Rattle.mqb_model.specs.state.Resolving.{is_for_order_layer, peer_known}
use Rattle.mqb_model.specs.state.Rows.{in_row}
use Rattle.mqb_model.specs.state.State.{State}
use Rattle.mqb_network.specs.Courses.{Course}
use Rattle.mqb_history.specs.Acked.{IsDecidedThere}
use Rattle.mqb_model.specs.calls.Call.{Hear, outcome_of}
use Rattle.mqb_history.proofs.Acting.{IsTrueRecord}
use Rattle.mqb_history.proofs.Between.{any_in}
use Rattle.mqb_history.proofs.Later.{CameRightly, Unused}
use Rattle.mqb_history.proofs.Lists.{clash, split_and}
use Rattle.mqb_history.proofs.Named.{IsRightBeside}
use Rattle.mqb_history.proofs.Recalling.{here_apart}
use Rattle.mqb_history.proofs.Unreleased.{refusal_here}

-- What is known of a packet of no stream that a manager in a state hears from the peer at an index.
pub record IsHeardTruly (known : List Identity) (c : Course) (i : ℕ) (s : State) (peer : ℕ) (p : UserPacket) : Type 0 where
  pub stored : is_express p.message.delivery ≡ false → Unused known c p.message.id
  pub acked : (ack : OrderAck) → acknowledged_in s p.message ≡ Some ack → (raised row : Row) → In raised s.outs → raises peer ack raised ≡ true → In row s.outs
      → row.sequence.ordinal ≡ ack.sequence.ordinal → IsDecidedThere c i row ack.number
  pub finished : is_final s p.message ≡ true → (k : Kept) (row : Row) → In row s.outs → peer_known s p.message.id.qm ≡ Some row.peer → In k row.kept
      → same_id k.message.id p.message.correlation ≡ true → IsDecidedThere c i row k.number

-- a packet is no other manager's, and for no other
pub record IsMeant (s : State) (before : one_end.State) (p : UserPacket) : Type 0 where
  pub from : is_from before p.message ≡ true
  pub to : same_guid p.to s.identity.guid ≡ true

module _ (known : List Identity) (c : Course) (i : ℕ) where
  -- what is known of a packet
  pub record AreFactsOf (s : State) (peer : ℕ) (p : UserPacket) : Type 0 where
    pub plain : p.tx ≡ None → IsHeardTruly known c i s peer p
    pub stream : (tx : TxHead) → p.tx ≡ Some tx → CameRightly known c i p

  -- what a manager does in a state is true
  pub record IsHonest (s : State) (outcome : HeardOutcome) : Type 0 where
    pub entry : IfSome outcome.entry (IsTrueRecord known c i s)
    pub beside : IsRightBeside s outcome.beside

  nothing_true : (s : State) (now : ℕ) (numbers : List ℕ) → IsTrueRecord known c i s (entry.Arrived now numbers entry.Nothing)
  nothing_true s now numbers = record { decided = λ p f. absurd f; stored = λ p f. absurd f; acked = λ o n row f. absurd f; finished = λ m k row f. absurd f }

  quiet : (l : Listening) (answer : Heard) → IsHonest l.manager.state (heard_as l entry.Nothing answer)
  quiet l answer = record { entry = at (length (numbers_released l) == 0); beside = tt }
    where
      at : (b : Bool) → IfSome (cond b None (Some (entry.Arrived l.now (numbers_released l) entry.Nothing))) (IsTrueRecord known c i l.manager.state)
      at true = tt
      at false = nothing_true l.manager.state l.now (numbers_released l)

  either : (s : State) (b : Bool) (x y : HeardOutcome) → IsHonest s x → IsHonest s y → IsHonest s (cond b x y)
  either s true x y left right = left
  either s false x y left right = right

  owing_honest : (s : State) (k : ℕ) (outcome : HeardOutcome) → IsHonest s outcome → IsHonest s (owing k outcome)
  owing_honest s k outcome h = record { entry = h.entry; beside = h.beside }

  -- Messages of streams.

  judged_honest : (l : Listening) (p : UserPacket) (tx : TxHead) (found : Verdict) → CameRightly known c i p → IsHonest l.manager.state (judged l p tx found)
  judged_honest l p tx verdict.Next came = record { entry = record { decided = λ q f. subst (CameRightly known c i) f came; stored = λ q f. absurd f; acked = λ o n row f. absurd f; finished = λ m k row f. absurd f }; beside = tt }
  judged_honest l p tx verdict.Duplicate came = either l.manager.state (has_sequence l.manager.state p.message tx)
      (owing (index_for l.manager.state p.message) (duplicate_heard l tx)) (duplicate_heard l tx)
      (owing_honest l.manager.state (index_for l.manager.state p.message) (duplicate_heard l tx) (quiet l (heard.Duplicate tx.sequence tx.number))) (quiet l (heard.Duplicate tx.sequence tx.number))
  judged_honest l p tx verdict.Gap came = quiet l (heard.Gap tx.sequence tx.number)
  judged_honest l p tx verdict.Stale came = quiet l (heard.Stale tx.sequence tx.number)

  stream_honest : (l : Listening) (p : UserPacket) (tx : TxHead) → CameRightly known c i p → IsHonest l.manager.state (hear_in_stream l p tx)
  stream_honest l p tx came = either l.manager.state (is_ordinary p.message) (judged l p tx (verdict_of (in_row l.manager.state p.message) tx)) (discarded l)
      (judged_honest l p tx (verdict_of (in_row l.manager.state p.message) tx) came) (quiet l heard.Discarded)

  -- Others.

  abbrev Facts : Listening → UserPacket → Type 0
  Facts l p = IsHeardTruly known c i l.manager.state (peer_heard l) p

  ack_honest : (l : Listening) (p : UserPacket) (ack : OrderAck) → Facts l p → acknowledged_in l.manager.state p.message ≡ Some ack → IsHonest l.manager.state (hear_order_ack l ack)
  ack_honest l p ack h e = at (list_any (raises (peer_heard l) ack) l.manager.state.outs) refl
    where
      at : (b : Bool) → list_any (raises (peer_heard l) ack) l.manager.state.outs ≡ b → IsHonest l.manager.state (cond b (order_acked l ack) (heard_as l entry.Nothing heard.OldAck))
      at true f = let found = any_in (raises (peer_heard l) ack) l.manager.state.outs f in record {
        entry = record {
          decided = λ q g. absurd g;
          stored = λ q g. absurd g;
          acked = λ ordinal number row same inside of_row. subst (IsDecidedThere c i row) same.1 (h.acked ack e found.0 row found.1 found.2 inside (of_row ∙ sym same.0));
          finished = λ m k row g. absurd g;
        };
        beside = tt;
      }
      at false f = quiet l heard.OldAck

  express_honest : (l : Listening) (p : UserPacket) → is_express p.message.delivery ≡ true → IsHonest l.manager.state (hear_express l p)
  express_honest l p e = either l.manager.state (is_for_order_layer l.manager.state p.message.destination) (discarded l) (hear_arriving l p.message (refusal_of l.manager.state p))
      (quiet l heard.Discarded) (record {
        entry = (quiet l heard.Discarded).entry;
        beside = (e, here_apart l.manager.state p (refusal_of l.manager.state p) (refusal_here l.manager.state p));
      })

  recoverable_honest : (l : Listening) (p : UserPacket) → is_express p.message.delivery ≡ false → Facts l p → IsHonest l.manager.state (hear_recoverable l p)
  recoverable_honest l p e h = at (is_final l.manager.state p.message) refl
    where
      at : (b : Bool) → is_final l.manager.state p.message ≡ b → IsHonest l.manager.state (cond b (hear_final l p) (hear_stored l p))
      at true f = record {
        entry = record {
          decided = λ q g. absurd g;
          stored = λ q g. absurd g;
          acked = λ o n row g. absurd g;
          finished = λ m k row same inside peer kept named. h.finished f k row inside (ap (λ (x : Message). peer_known l.manager.state x.id.qm) same ∙ peer) kept
              (ap (λ (x : Message). same_id k.message.id x.correlation) same ∙ named);
        };
        beside = tt;
      }
      at false f = record {
        entry = record {
          decided = λ q g. absurd g;
          stored = λ q same g. subst (λ (x : UserPacket). Unused known c x.message.id) same (h.stored e);
          acked = λ o n row g. absurd g;
          finished = λ m k row g. absurd g;
        };
        beside = tt;
      }

  message_honest : (l : Listening) (in_order : Bool) (p : UserPacket) → Facts l p → IsHonest l.manager.state (hear_message l in_order p)
  message_honest l false p h = quiet l heard.Discarded
  message_honest l true p h = at (is_express p.message.delivery) refl
    where
      at : (b : Bool) → is_express p.message.delivery ≡ b → IsHonest l.manager.state (cond b (hear_express l p) (hear_recoverable l p))
      at true e = express_honest l p e
      at false e = recoverable_honest l p e h

  plain_honest : (l : Listening) (in_order : Bool) (p : UserPacket) → Facts l p → IsHonest l.manager.state (hear_plain l in_order p)
  plain_honest l in_order p h = at (acknowledged_in l.manager.state p.message) refl
    where
      at : (o : Option OrderAck) → acknowledged_in l.manager.state p.message ≡ o → IsHonest l.manager.state (option_map_or (hear_order_ack l) o (hear_message l in_order p))
      at None e = message_honest l in_order p h
      at (Some ack) e = ack_honest l p ack h e

  user_honest : (l : Listening) (in_order : Bool) (p : UserPacket) → AreFactsOf l.manager.state (peer_heard l) p → IsHonest l.manager.state (hear_user l in_order p)
  user_honest l in_order p h = at p.tx refl
    where
      at : (o : Option TxHead) → p.tx ≡ o → IsHonest l.manager.state (option_map_or (hear_in_stream l p) o (hear_plain l in_order p))
      at None e = plain_honest l in_order p (h.plain e)
      at (Some tx) e = stream_honest l p tx (h.stream tx e)

  -- The whole packet.

  module _ (m : Manager) (now : ℕ) (p : UserPacket) (before : one_end.State)
      (facts : IsMeant m.state before p → AreFactsOf m.state (linked_peer m.state before) p) where
    abbrev h : SessionHead
    h = unwrap_or p.session no_head

    closed : (why : Cause) (after : one_end.State) → IsHonest m.state (hear_behind m now p (head.Closed why) after)
    closed why after = record { entry = tt; beside = tt }

    ready : IsMeant m.state before p → IsHonest m.state (hear_behind m now p (order_of h before) (counted (order_of h before) (acknowledged h before)))
    ready meant = at (h.user == 0) (h.user == before.got + 1)
      where
        at : (none next : Bool) → IsHonest m.state (hear_behind m now p (cond none head.AckOnly (cond next head.InOrder head.OutOfOrder))
            (counted (cond none head.AckOnly (cond next head.InOrder head.OutOfOrder)) (acknowledged h before)))
        at true next = user_honest (listening m (acknowledged h before) now) false p (facts meant)
        at false true = user_honest (listening m (counted head.InOrder (acknowledged h before)) now) true p (facts meant)
        at false false = user_honest (listening m (acknowledged h before) now) false p (facts meant)

    bad : IsMeant m.state before p → (b : Bool) → let given = cond b (closing cause.BadAck before) (order_of h before, counted (order_of h before) (acknowledged h before)) in
        IsHonest m.state (hear_behind m now p given.0 given.1)
    bad meant true = closed cause.BadAck (closing cause.BadAck before).1
    bad meant false = ready meant

    in_phase : (f : Phase) → (is_ready f && is_foreign m.state before p) ≡ false → IsHonest m.state (hear_behind m now p (head_in f h before).0 (head_in f h before).1)
    in_phase (phase.Closed why) e = closed why before
    in_phase phase.Ready e = let both = split_and (is_from before p.message) (same_guid p.to m.state.identity.guid) (not_false (is_from before p.message && same_guid p.to m.state.identity.guid) e) in
        bad (record { from = both.0; to = both.1 }) (is_bad_ack h before)
      where
        not_false : (b : Bool) → not b ≡ false → b ≡ true
        not_false true f = refl
        not_false false f = absurd (clash f)
    in_phase f e = closed cause.Early (closing cause.Early before).1

    user_heard_honest : IsHonest m.state (hear_behind m now p (user_heard m.state before p).0 (user_heard m.state before p).1)
    user_heard_honest = by (is_ready before.phase && is_foreign m.state before p) refl
      where
        by : (b : Bool) → (is_ready before.phase && is_foreign m.state before p) ≡ b → let given = cond b (closing cause.Foreign before) (head_in before.phase h before) in
            IsHonest m.state (hear_behind m now p given.0 given.1)
        by true e = closed cause.Foreign (closing cause.Foreign before).1
        by false e = in_phase before.phase e

  acknowledgement_honest : (m : Manager) (now : ℕ) (given : HeadHeard) (session : one_end.State) → IsHonest m.state (hear_acknowledgement m now given session)
  acknowledgement_honest m now (head.Closed why) session = record { entry = tt; beside = tt }
  acknowledgement_honest m now given session = quiet (listening m session now) heard.Session

  -- what is known of a packet that a linked manager hears
  abbrev pub AreFacts : Manager → Packet → one_end.State → Type 0
  AreFacts m x before = (p : UserPacket) → x ≡ packet.User p → IsMeant m.state before p → AreFactsOf m.state (linked_peer m.state before) p

  linked_honest : (m : Manager) (now : ℕ) (x : Packet) (before : one_end.State) → AreFacts m x before → IsHonest m.state (hear_linked m now x before)
  linked_honest m now (packet.Establish e) before facts = record { entry = tt; beside = tt }
  linked_honest m now (packet.Parameters q) before facts = record { entry = tt; beside = tt }
  linked_honest m now (packet.Ack g) before facts = acknowledgement_honest m now (ack_heard g before).0 (ack_heard g before).1
  linked_honest m now (packet.User p) before facts = user_heard_honest m now p before (facts p refl)

  -- the same of the whole call
  pub record IsHonestCall (m : Manager) (x : Packet) (now : ℕ) : Type 0 where
    pub entry : IfSome (outcome_of m (Hear now x)).entry (IsTrueRecord known c i m.state)
    pub beside : IsRightBeside m.state (outcome_of m (Hear now x)).beside

  pub hears_honest : (m : Manager) (now : ℕ) (x : Packet) → ((before : one_end.State) → m.rest.session ≡ Some before → AreFacts m x before) → IsHonestCall m x now
  hears_honest m now x facts = let g = at (hear_refusal m) m.rest.session refl in record { entry = g.entry; beside = g.beside }
    where
      at : (o : Option HearFault) (session : Option one_end.State) → m.rest.session ≡ session
          → IsHonest m.state (unless m o (option_map_or (hear_linked m now x) session (answering m (Err fault.NotLinked))))
      at (Some why) session e = record { entry = tt; beside = tt }
      at None None e = record { entry = tt; beside = tt }
      at None (Some before) e = linked_honest m now x before (facts before e)
