-- What a linked manager knows behind a packet that it hears: what the packet acknowledges, what it counts as got and as stored, and what it releases.
use Rattle.std.proofs.Common.{refl, sym, subst, arith, inl, inr}
use Rattle.std.proofs.lemmas.Bool.Decides.{nat_tests}
use Rattle.std.specs.List.{AllByRecursion, list_any}
use Rattle.std.specs.Option.{option_map_or}
use Rattle.std.specs.Prelude.{[], ◌&&◌, ◌+◌, ◌==◌, ◌∷◌, ◌≡◌, ◌≤◌, ◌⊎◌, Bool, IfSome, List, None, Option, Some, cond, false, filter, is_none, length, map, max, not, slice_get, true, unwrap_or, ℕ}
use Rattle.mqb_base.specs.declared.class.TheConstants.Class.{ORDER_ACKNOWLEDGEMENT}
use Rattle.mqb_base.specs.declared.heads.SessionHead.{SessionHead}
use Rattle.mqb_base.specs.declared.heads.TxHead.{TxHead}
use Rattle.mqb_base.specs.declared.heard.Cause.{Cause}
use Rattle.mqb_base.specs.declared.heard.Cause.TheVariants as cause
use Rattle.mqb_base.specs.declared.heard.Heard.{Heard}
use Rattle.mqb_base.specs.declared.heard.Heard.TheVariants as heard
use Rattle.mqb_base.specs.declared.ids.Guid.{Guid}
use Rattle.mqb_base.specs.declared.message.Message.{Message}
use Rattle.mqb_exactly_once.specs.Words.{In}
use Rattle.mqb_fate.specs.Asking.{is_ordinary}
use Rattle.mqb_fate.specs.Orders.{acked_by}
use Rattle.mqb_fate.specs.declared.orders.OrderAck.{OrderAck}
use Rattle.mqb_orders.specs.Judging.{verdict_of}
use Rattle.mqb_orders.specs.declared.judging.Verdict.{Verdict}
use Rattle.mqb_orders.specs.declared.judging.Verdict.TheVariants as verdict
use Rattle.mqb_packet.specs.declared.packet.Packet.{Packet}
use Rattle.mqb_packet.specs.declared.packet.Packet.TheVariants as packet
use Rattle.mqb_packet.specs.declared.packet.UserPacket.{UserPacket}
use Rattle.mqb_plain.specs.Lists.{is_sent_by}
use Rattle.mqb_plain.specs.Plain.{PlainLists}
use Rattle.mqb_plain.specs.declared.outgoing.Outgoing.{Outgoing}
use Rattle.mqb_session.specs.Hearing.{acknowledged, closing, counted, head_in, is_bad_ack, order_of}
use Rattle.mqb_session.specs.State as one_end
use Rattle.mqb_session.specs.declared.heads.HeadHeard.{HeadHeard}
use Rattle.mqb_session.specs.declared.heads.HeadHeard.TheVariants as head
use Rattle.mqb_session.specs.declared.phase.Phase.{Phase}
use Rattle.mqb_session.specs.declared.phase.Phase.TheVariants as phase
use Rattle.mqb_session.specs.Sending.{is_ready}
use Rattle.mqb_model.specs.calls.hear.Hear.{hear_acknowledgement, hear_behind, hear_linked, hear_user, listening}
use Rattle.mqb_model.specs.calls.hear.Plain.{hear_arriving, hear_express, hear_final, hear_plain, hear_recoverable, hear_stored, with_stored}
use Rattle.mqb_model.specs.calls.hear.Session.{HeardOutcome, Listening, ack_heard, arrival_entry, discarded, heard_as, is_foreign, no_head, numbers_released, peer_heard, released_of, user_heard}
use Rattle.mqb_model.specs.calls.hear.Streams.{acknowledged_in, duplicate_heard, has_sequence, hear_in_stream, hear_order_ack, index_for, judged, order_acked, owing, raises}
use Rattle.mqb_model.specs.managers.Manager.{Manager}
use Rattle.mqb_model.specs.records.Finals.{is_final}
use Rattle.mqb_model.specs.records.Record.{Part, Record}
use Rattle.mqb_model.specs.records.Record as entry
use Rattle.mqb_model.specs.rules.Arrivals.{refusal_of}
use Rattle.mqb_model.specs.state.Places.{is_express}
use Rattle.mqb_model.specs.state.Resolving.{is_for_order_layer}
use Rattle.mqb_model.specs.state.Rows.{in_row}
use Rattle.mqb_model.specs.state.State.{State}
use Rattle.mqb_history.proofs.Unreleased.{IsOfOwn, IsPlainBeside}

-- a user packet that counts as stored where it is heard in order
abbrev pub is_storable : Option TxHead → Message → Bool
is_storable tx m = is_none tx && not (is_express m.delivery)

-- how many messages a packet says that its sender has stored
abbrev pub stored_told : Packet → ℕ
stored_told (packet.User p) = (unwrap_or p.session no_head).stored
stored_told (packet.Ack h) = h.stored
stored_told _ = 0

-- and how many packets it got
abbrev pub got_told : Packet → ℕ
got_told (packet.User p) = (unwrap_or p.session no_head).ack
got_told (packet.Ack h) = h.ack
got_told _ = 0

-- A number is that of a recoverable message that waits, and was sent up to a number.
pub record IsReleasable (s : State) (acked n : ℕ) : Type 0 where
  pub peer : ℕ
  pub lists : PlainLists
  pub item : Outgoing
  pub waiting : slice_get s.plain peer ≡ Some lists
  pub there : In item lists.recoverable
  pub sent : is_sent_by acked item ≡ true
  pub number : n ≡ item.message.id.number

-- what a record releases is
abbrev pub ReleasesSent : State → ℕ → Record → Type 0
ReleasesSent s acked (entry.Arrived now numbers part) = AllByRecursion (IsReleasable s acked) numbers
ReleasesSent s acked _ = Unit {0}

abbrev pub IsSound : Guid → State → ℕ → Record → Type 0
IsSound own s acked r = ReleasesSent s acked r × IsOfOwn own r

-- a record stores a message
abbrev pub Stores : UserPacket → Option Record → Type 0
Stores p o = (now : ℕ) × (numbers : List ℕ) × ((o ≡ Some (entry.Arrived now numbers (entry.Stored p))) ⊎ (o ≡ Some (entry.Arrived now numbers (entry.Final p))))

-- a packet is heard by a session as it is, or as it is with one more message stored
pub record Answers (own : Guid) (s : State) (after : one_end.State) (outcome : HeardOutcome) : Type 0 where
  pub session : outcome.rest.session ≡ Some after
  pub entry : IfSome outcome.entry (IsSound own s after.recoverable_acked)
  pub beside : IsPlainBeside outcome.beside

abbrev Listens : Guid → Listening → HeardOutcome → Type 0
Listens own l outcome = Answers own l.manager.state l.session outcome

sent_only : (s : State) (acked peer : ℕ) (p : PlainLists) → slice_get s.plain peer ≡ Some p → (os : List Outgoing) → ((o : Outgoing) → In o os → In o p.recoverable)
    → AllByRecursion (IsReleasable s acked) (map (λ o. o.message.id.number) (filter (is_sent_by acked) os))
sent_only s acked peer p e [] within = tt
sent_only s acked peer p e (o ∷ os) within = at (is_sent_by acked o) refl (sent_only s acked peer p e os (λ x i. within x (inr i)))
  where
    at : (b : Bool) → is_sent_by acked o ≡ b → AllByRecursion (IsReleasable s acked) (map (λ o. o.message.id.number) (filter (is_sent_by acked) os))
        → AllByRecursion (IsReleasable s acked) (map (λ o. o.message.id.number) (cond b (o ∷ filter (is_sent_by acked) os) (filter (is_sent_by acked) os)))
    at true f rest = (record { peer = peer; lists = p; item = o; waiting = e; there = within o (inl refl); sent = f; number = refl }, rest)
    at false f rest = rest

releases : (l : Listening) → AllByRecursion (IsReleasable l.manager.state l.session.recoverable_acked) (numbers_released l)
releases l = at (slice_get l.manager.state.plain (peer_heard l)) refl
  where
    at : (o : Option PlainLists) → slice_get l.manager.state.plain (peer_heard l) ≡ o
        → AllByRecursion (IsReleasable l.manager.state l.session.recoverable_acked) (option_map_or (released_of l.session.recoverable_acked) o [])
    at None e = tt
    at (Some p) e = sent_only l.manager.state l.session.recoverable_acked (peer_heard l) p e p.recoverable (λ o i. i)

nothing_sound : (own : Guid) (l : Listening) → IfSome (arrival_entry l entry.Nothing) (IsSound own l.manager.state l.session.recoverable_acked)
nothing_sound own l = at (length (numbers_released l) == 0)
  where
    at : (b : Bool) → IfSome (cond b None (Some (entry.Arrived l.now (numbers_released l) entry.Nothing))) (IsSound own l.manager.state l.session.recoverable_acked)
    at true = tt
    at false = (releases l, tt)

heard_nothing : (own : Guid) (l : Listening) (answer : Heard) → Listens own l (heard_as l entry.Nothing answer)
heard_nothing own l answer = record { session = refl; entry = nothing_sound own l; beside = tt }

either : (own : Guid) (l : Listening) (b : Bool) (x y : HeardOutcome) → Listens own l x → Listens own l y → Listens own l (cond b x y)
either own l true x y left right = left
either own l false x y left right = right

-- Messages of streams, and order acknowledgements.

owing_heard : (own : Guid) (l : Listening) (k : ℕ) (outcome : HeardOutcome) → Listens own l outcome → Listens own l (owing k outcome)
owing_heard own l k outcome h = record { session = h.session; entry = h.entry; beside = h.beside }

judged_heard : (own : Guid) (l : Listening) (p : UserPacket) (tx : TxHead) (found : Verdict) → Listens own l (judged l p tx found)
judged_heard own l p tx verdict.Next = record { session = refl; entry = (releases l, tt); beside = tt }
judged_heard own l p tx verdict.Duplicate = either own l (has_sequence l.manager.state p.message tx)
    (owing (index_for l.manager.state p.message) (duplicate_heard l tx)) (duplicate_heard l tx)
    (owing_heard own l (index_for l.manager.state p.message) (duplicate_heard l tx) (heard_nothing own l (heard.Duplicate tx.sequence tx.number)))
    (heard_nothing own l (heard.Duplicate tx.sequence tx.number))
judged_heard own l p tx verdict.Gap = heard_nothing own l (heard.Gap tx.sequence tx.number)
judged_heard own l p tx verdict.Stale = heard_nothing own l (heard.Stale tx.sequence tx.number)

stream_heard : (own : Guid) (l : Listening) (p : UserPacket) (tx : TxHead) → Listens own l (hear_in_stream l p tx)
stream_heard own l p tx = either own l (is_ordinary p.message) (judged l p tx (verdict_of (in_row l.manager.state p.message) tx)) (discarded l)
    (judged_heard own l p tx (verdict_of (in_row l.manager.state p.message) tx)) (heard_nothing own l heard.Discarded)

ack_heard_so : (own : Guid) (l : Listening) (ack : OrderAck) → Listens own l (hear_order_ack l ack)
ack_heard_so own l ack = either own l (list_any (raises (peer_heard l) ack) l.manager.state.outs) (order_acked l ack) (heard_as l entry.Nothing heard.OldAck)
    (record { session = refl; entry = (releases l, tt); beside = tt }) (heard_nothing own l heard.OldAck)

-- Messages that are in no stream.

express_heard : (own : Guid) (l : Listening) (p : UserPacket) → is_express p.message.delivery ≡ true → Listens own l (hear_express l p)
express_heard own l p e = either own l (is_for_order_layer l.manager.state p.message.destination) (discarded l) (hear_arriving l p.message (refusal_of l.manager.state p))
    (heard_nothing own l heard.Discarded) (record { session = refl; entry = nothing_sound own l; beside = e })

-- one that is in order counts as stored, or does not
abbrev CountsAs : Bool → Guid → Listening → UserPacket → HeardOutcome → Type 0
CountsAs true own l p outcome = Listens own (with_stored l) outcome × Stores p outcome.entry
CountsAs false own l p outcome = Listens own l outcome

recoverable_heard : (own : Guid) (l : Listening) (p : UserPacket) → CountsAs true own l p (hear_recoverable l p)
recoverable_heard own l p = at (is_final l.manager.state p.message)
  where
    at : (b : Bool) → CountsAs true own l p (cond b (hear_final l p) (hear_stored l p))
    at true = (record { session = refl; entry = (releases (with_stored l), tt); beside = tt }, (l.now, numbers_released (with_stored l), inr refl))
    at false = (record { session = refl; entry = (releases (with_stored l), tt); beside = tt }, (l.now, numbers_released (with_stored l), inl refl))

plain_heard : (own : Guid) (l : Listening) (p : UserPacket) → CountsAs (not (is_express p.message.delivery)) own l p (hear_plain l true p)
plain_heard own l p = at (is_express p.message.delivery) refl
  where
    acks : (o : Option OrderAck) → is_express p.message.delivery ≡ true → Listens own l (option_map_or (hear_order_ack l) o (hear_express l p))
    acks None e = express_heard own l p e
    acks (Some ack) e = ack_heard_so own l ack

    at : (b : Bool) → is_express p.message.delivery ≡ b → CountsAs (not b) own l p
        (option_map_or (hear_order_ack l)
        (cond ((b && (p.message.class.0 == ORDER_ACKNOWLEDGEMENT.0)) && is_for_order_layer l.manager.state p.message.destination) (acked_by p.message.body) None)
        (cond b (hear_express l p) (hear_recoverable l p)))
    at true e = acks (cond ((p.message.class.0 == ORDER_ACKNOWLEDGEMENT.0) && is_for_order_layer l.manager.state p.message.destination) (acked_by p.message.body) None) e
    at false e = recoverable_heard own l p

in_order_heard : (own : Guid) (l : Listening) (p : UserPacket) → CountsAs (is_storable p.tx p.message) own l p (hear_user l true p)
in_order_heard own l p = at p.tx
  where
    at : (o : Option TxHead) → CountsAs (is_storable o p.message) own l p (option_map_or (hear_in_stream l p) o (hear_plain l true p))
    at (Some tx) = stream_heard own l p tx
    at None = plain_heard own l p

out_of_order_heard : (own : Guid) (l : Listening) (p : UserPacket) → Listens own l (hear_user l false p)
out_of_order_heard own l p = at p.tx
  where
    acks : (o : Option OrderAck) → Listens own l (option_map_or (hear_order_ack l) o (discarded l))
    acks None = heard_nothing own l heard.Discarded
    acks (Some ack) = ack_heard_so own l ack

    at : (o : Option TxHead) → Listens own l (option_map_or (hear_in_stream l p) o (hear_plain l false p))
    at (Some tx) = stream_heard own l p tx
    at None = acks (acknowledged_in l.manager.state p.message)

-- The whole packet.

-- a packet in order was got, and stored where it is storable
abbrev pub HasGot : Bool → UserPacket → ℕ → ℕ → Option Record → Type 0
HasGot true p old new o = (new ≡ old + 1) × Stores p o
HasGot false p old new o = new ≡ old

-- what counts as got and stored is as before, or one packet more
pub data Counts (before : one_end.State) (x : Packet) (o : Option Record) (after : one_end.State) : Type 0 where
  no_more : after.got ≡ before.got → after.stored ≡ before.stored → Counts before x o after
  one_more : (p : UserPacket) → x ≡ packet.User p → (unwrap_or p.session no_head).user ≡ before.got + 1 → after.got ≡ before.got + 1
      → HasGot (is_storable p.tx p.message) p before.stored after.stored o → Counts before x o after

-- What a linked manager knows behind a packet.
pub record Hears (own : Guid) (s : State) (before : one_end.State) (x : Packet) (outcome : HeardOutcome) : Type 0 where
  pub after : one_end.State
  pub answers : Answers own s after outcome
  pub sent : after.sent ≡ before.sent
  pub recoverable_sent : after.recoverable_sent ≡ before.recoverable_sent
  pub acked : after.recoverable_acked ≤ max before.recoverable_acked (stored_told x)
  pub got_acked : after.acked ≤ max before.acked (got_told x)
  pub counts : Counts before x outcome.entry after

max_left : (a b : ℕ) → a ≤ max a b
max_left a b = omega arith

max_itself : (a b : ℕ) → max a b ≤ max a b
max_itself a b = omega arith

closed_hears : (own : Guid) (m : Manager) (now : ℕ) (p : UserPacket) (why : Cause) (before after : one_end.State) → after.sent ≡ before.sent → after.recoverable_sent ≡ before.recoverable_sent
    → after.recoverable_acked ≡ before.recoverable_acked → after.got ≡ before.got → after.stored ≡ before.stored → after.acked ≡ before.acked
    → Hears own m.state before (packet.User p) (hear_behind m now p (head.Closed why) after)
closed_hears own m now p why before after a b c d e f = record {
  after = after;
  answers = record { session = refl; entry = tt; beside = tt };
  sent = a;
  recoverable_sent = b;
  acked = subst (λ n. n ≤ max before.recoverable_acked (stored_told (packet.User p))) (sym c) (max_left before.recoverable_acked (stored_told (packet.User p)));
  got_acked = subst (λ n. n ≤ max before.acked (got_told (packet.User p))) (sym f) (max_left before.acked (got_told (packet.User p)));
  counts = no_more d e;
}

ready_hears : (own : Guid) (m : Manager) (now : ℕ) (p : UserPacket) (before : one_end.State) → let h = unwrap_or p.session no_head in
    Hears own m.state before (packet.User p) (hear_behind m now p (order_of h before) (counted (order_of h before) (acknowledged h before)))
ready_hears own m now p before = at (h.user == 0) (h.user == before.got + 1) refl
  where
    h : SessionHead
    h = unwrap_or p.session no_head

    known : one_end.State
    known = acknowledged h before

    more : one_end.State
    more = counted head.InOrder known

    same : HeadHeard → one_end.State → HeardOutcome
    same given session = hear_behind m now p given session

    quiet : (outcome : HeardOutcome) → Listens own (listening m known now) outcome → Hears own m.state before (packet.User p) outcome
    quiet outcome g = record { after = known; answers = g; sent = refl; recoverable_sent = refl; acked = max_itself before.recoverable_acked h.stored; got_acked = max_itself before.acked h.ack; counts = no_more refl refl }

    number : (h.user == before.got + 1) ≡ true → h.user ≡ before.got + 1
    number e = grind (arith, nat_tests)

    counting : (b : Bool) → is_storable p.tx p.message ≡ b → h.user ≡ before.got + 1 → CountsAs b own (listening m more now) p (hear_user (listening m more now) true p)
        → Hears own m.state before (packet.User p) (hear_user (listening m more now) true p)
    counting true e n g = record {
      after = (with_stored (listening m more now)).session;
      answers = g.0;
      sent = refl;
      recoverable_sent = refl;
      acked = max_itself before.recoverable_acked h.stored;
      got_acked = max_itself before.acked h.ack;
      counts = one_more p refl n refl (subst (λ b. HasGot b p before.stored (before.stored + 1) (hear_user (listening m more now) true p).entry) (sym e) (refl, g.1));
    }
    counting false e n g = record {
      after = more;
      answers = g;
      sent = refl;
      recoverable_sent = refl;
      acked = max_itself before.recoverable_acked h.stored;
      got_acked = max_itself before.acked h.ack;
      counts = one_more p refl n refl (subst (λ b. HasGot b p before.stored before.stored (hear_user (listening m more now) true p).entry) (sym e) refl);
    }

    at : (none next : Bool) → (h.user == before.got + 1) ≡ next
        → Hears own m.state before (packet.User p) (hear_behind m now p (cond none head.AckOnly (cond next head.InOrder head.OutOfOrder)) (counted (cond none head.AckOnly (cond next head.InOrder head.OutOfOrder)) known))
    at true next e = quiet (hear_user (listening m known now) false p) (out_of_order_heard own (listening m known now) p)
    at false false e = quiet (hear_user (listening m known now) false p) (out_of_order_heard own (listening m known now) p)
    at false true e = counting (is_storable p.tx p.message) refl (number e) (in_order_heard own (listening m more now) p)

user_hears : (own : Guid) (m : Manager) (now : ℕ) (p : UserPacket) (before : one_end.State)
    → Hears own m.state before (packet.User p) (hear_behind m now p (user_heard m.state before p).0 (user_heard m.state before p).1)
user_hears own m now p before = by (is_ready before.phase && is_foreign m.state before p)
  where
    h : SessionHead
    h = unwrap_or p.session no_head

    bad : (b : Bool) → let given = cond b (closing cause.BadAck before) (order_of h before, counted (order_of h before) (acknowledged h before)) in
        Hears own m.state before (packet.User p) (hear_behind m now p given.0 given.1)
    bad true = closed_hears own m now p cause.BadAck before (closing cause.BadAck before).1 refl refl refl refl refl refl
    bad false = ready_hears own m now p before

    early : Hears own m.state before (packet.User p) (hear_behind m now p (head.Closed cause.Early) (closing cause.Early before).1)
    early = closed_hears own m now p cause.Early before (closing cause.Early before).1 refl refl refl refl refl refl

    in_phase : (f : Phase) → Hears own m.state before (packet.User p) (hear_behind m now p (head_in f h before).0 (head_in f h before).1)
    in_phase (phase.Closed why) = closed_hears own m now p why before before refl refl refl refl refl refl
    in_phase phase.Ready = bad (is_bad_ack h before)
    in_phase f = early

    by : (b : Bool) → let given = cond b (closing cause.Foreign before) (head_in before.phase h before) in
        Hears own m.state before (packet.User p) (hear_behind m now p given.0 given.1)
    by true = closed_hears own m now p cause.Foreign before (closing cause.Foreign before).1 refl refl refl refl refl refl
    by false = in_phase before.phase

ack_hears : (own : Guid) (m : Manager) (now : ℕ) (given : SessionHead) (before : one_end.State)
    → Hears own m.state before (packet.Ack given) (hear_acknowledgement m now (ack_heard given before).0 (ack_heard given before).1)
ack_hears own m now given before = in_phase before.phase
  where
    h : SessionHead
    h = record given { user = 0 }

    closed : (why : Cause) (after : one_end.State) → after.sent ≡ before.sent → after.recoverable_sent ≡ before.recoverable_sent
        → after.recoverable_acked ≡ before.recoverable_acked → after.got ≡ before.got → after.stored ≡ before.stored → after.acked ≡ before.acked
        → Hears own m.state before (packet.Ack given) (hear_acknowledgement m now (head.Closed why) after)
    closed why after a b c d e f = record {
      after = after;
      answers = record { session = refl; entry = tt; beside = tt };
      sent = a;
      recoverable_sent = b;
      acked = subst (λ n. n ≤ max before.recoverable_acked given.stored) (sym c) (max_left before.recoverable_acked given.stored);
      got_acked = subst (λ n. n ≤ max before.acked given.ack) (sym f) (max_left before.acked given.ack);
      counts = no_more d e;
    }

    bad : (b : Bool) → let found = cond b (closing cause.BadAck before) (order_of h before, counted (order_of h before) (acknowledged h before)) in
        Hears own m.state before (packet.Ack given) (hear_acknowledgement m now found.0 found.1)
    bad true = closed cause.BadAck (closing cause.BadAck before).1 refl refl refl refl refl refl
    bad false = record {
      after = acknowledged h before;
      answers = heard_nothing own (listening m (acknowledged h before) now) heard.Session;
      sent = refl;
      recoverable_sent = refl;
      acked = max_itself before.recoverable_acked given.stored;
      got_acked = max_itself before.acked given.ack;
      counts = no_more refl refl;
    }

    early : Hears own m.state before (packet.Ack given) (hear_acknowledgement m now (head.Closed cause.Early) (closing cause.Early before).1)
    early = closed cause.Early (closing cause.Early before).1 refl refl refl refl refl refl

    in_phase : (f : Phase) → Hears own m.state before (packet.Ack given) (hear_acknowledgement m now (head_in f h before).0 (head_in f h before).1)
    in_phase (phase.Closed why) = closed why before refl refl refl refl refl refl
    in_phase phase.Ready = bad (is_bad_ack h before)
    in_phase f = early

pub linked_hears : (own : Guid) (m : Manager) (now : ℕ) (x : Packet) (before : one_end.State) → Hears own m.state before x (hear_linked m now x before)
linked_hears own m now (packet.Establish e) before = record {
  after = _;
  answers = record { session = refl; entry = tt; beside = tt };
  sent = refl;
  recoverable_sent = refl;
  acked = max_left before.recoverable_acked 0;
  got_acked = max_left before.acked 0;
  counts = no_more refl refl;
}
linked_hears own m now (packet.Parameters p) before = record {
  after = _;
  answers = record { session = refl; entry = tt; beside = tt };
  sent = refl;
  recoverable_sent = refl;
  acked = max_left before.recoverable_acked 0;
  got_acked = max_left before.acked 0;
  counts = no_more refl refl;
}
linked_hears own m now (packet.Ack h) before = ack_hears own m now h before
linked_hears own m now (packet.User p) before = user_hears own m now p before
