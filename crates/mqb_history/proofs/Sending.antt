-- The packets of streams that a pump gives out carry messages that its rows keep.
use Rattle.std.proofs.Common.{refl, ap, subst, ◌∙◌, inl, inr}
use Rattle.std.specs.List.{AllByRecursion, cons_option, enumerate_from, flat_map}
use Rattle.std.specs.Option.{option_map_or}
use Rattle.std.specs.Prelude.{[], ◌&&◌, ◌++◌, ◌==◌, ◌∷◌, ◌≡◌, Bool, Err, List, None, Ok, Option, Some, cond, filter_map, is_none, length, map, max, nat_lt, not, slice_get, true, zip, ◌+◌, false, ℕ}
use Rattle.mqb_base.specs.declared.heads.SessionHead.{SessionHead}
use Rattle.mqb_base.specs.declared.heads.TxHead.{TxHead}
use Rattle.mqb_base.specs.declared.ids.Guid.{Guid}
use Rattle.mqb_base.specs.declared.ids.Identity.{Identity}
use Rattle.mqb_base.specs.declared.message.Message.{Message}
use Rattle.mqb_base.specs.Times.{is_due, remaining}
use Rattle.mqb_base.specs.declared.times.TheConstants.{UNLIMITED}
use Rattle.std.proofs.lemmas.Bool.Decides.{nat_tests}
use Rattle.std.proofs.Common.{arith}
use Rattle.std.specs.Prelude.{◌<◌, ◌≤◌, ◌-◌, min, nat_le}
use Rattle.mqb_history.proofs.Lists.{other_numbers}
use Rattle.mqb_exactly_once.specs.Words.{In, carried, due}
use Rattle.mqb_model.specs.calls.pump.Candidates.{Candidate, acks, candidates, of_row, plain_candidates, row_candidates, rows_owing, tx_of, unsent_from, unsent_of, waiting}
use Rattle.mqb_model.specs.calls.pump.Choosing.{candidate_size, chosen, head_for, may_follow, session_after, with_heads}
use Rattle.mqb_model.specs.calls.pump.Pump.{PumpOutcome, carriage_for, packet_for, pump_at, pump_linked, pump_owed, pump_refusal, pump_to, pump_with, sending_chosen, sending_one, set_up_packet}
use Rattle.mqb_model.specs.declared.faults.PumpFault.{PumpFault}
use Rattle.mqb_model.specs.declared.faults.PumpFault.TheVariants as fault
use Rattle.mqb_model.specs.managers.Beside.{OfExpress, OfRecoverable, Origin}
use Rattle.mqb_model.specs.managers.Manager.{Manager, Rest, linked_peer}
use Rattle.mqb_model.specs.managers.Outcomes.{answering, unless}
use Rattle.mqb_model.specs.rules.Numbers.{express_after}
use Rattle.mqb_model.specs.state.State.{State}
use Rattle.mqb_orders.specs.Rows.{Row, is_open}
use Rattle.mqb_orders.specs.declared.kept.Kept.{Kept}
use Rattle.mqb_orders.specs.declared.rows.InRow.{InRow}
use Rattle.mqb_packet.specs.Plain.{carried_user}
use Rattle.mqb_packet.specs.declared.packet.Packet.{Packet}
use Rattle.mqb_packet.specs.declared.packet.Packet.TheVariants as packet
use Rattle.mqb_packet.specs.declared.packet.UserPacket.{UserPacket}
use Rattle.mqb_plain.specs.Plain.{PlainLists}
use Rattle.mqb_plain.specs.declared.outgoing.Outgoing.{Outgoing}
use Rattle.mqb_session.specs.Phases.{owed_by}
use Rattle.mqb_session.specs.Sending.{is_ready, is_spent, stamped}
use Rattle.mqb_session.specs.State as one_end
use Rattle.mqb_session.specs.declared.heads.Kind.TheVariants as kind
use Rattle.mqb_setup.specs.declared.internal.Internal.{Internal}
use Rattle.mqb_setup.specs.declared.internal.Internal.TheVariants as internal
use Rattle.mqb_model.specs.calls.Call.{Pump, outcome_of}
use Rattle.mqb_history.proofs.Lists.{all_append, none_some, some_is}
use Rattle.mqb_history.proofs.Outside.{filtered_in}

-- P holds of each message that a row keeps, with the header under which it goes
abbrev pub IsRowOf : (Message → TxHead → Type 0) → Row → Type 0
IsRowOf P row = (k : Kept) → In k row.kept → P k.message (tx_of row k)

-- and of the message of a candidate of a stream
abbrev IsCandidateOf : (Message → TxHead → Type 0) → Candidate → Type 0
IsCandidateOf P c = (tx : TxHead) → c.tx ≡ Some tx → P c.message tx

-- a packet carries such a message
pub record Carries (P : Message → TxHead → Type 0) (moment : ℕ) (p : UserPacket) (tx : TxHead) : Type 0 where
  pub source : Message
  pub known : P source tx
  pub message : p.message ≡ carried source moment
  pub late : (p.remaining == 0) ≡ due source moment

abbrev pub IsPacketOf : (Message → TxHead → Type 0) → ℕ → Packet → Type 0
IsPacketOf P moment x = (p : UserPacket) (tx : TxHead) → x ≡ packet.User p → p.tx ≡ Some tx → Carries P moment p tx

-- Candidates.

acks_of : (P : Message → TxHead → Type 0) (s : State) (peer : Identity) (now number : ℕ) (rows : List (ℕ × InRow)) → AllByRecursion (IsCandidateOf P) (acks s peer now number rows)
acks_of P s peer now number [] = tt
acks_of P s peer now number (row ∷ rows) = (λ tx e. absurd (none_some e), acks_of P s peer now (express_after number) rows)

unsent_of_all : (P : Message → TxHead → Type 0) (origin : Origin) (os : List Outgoing) → AllByRecursion (IsCandidateOf P) (filter_map (unsent_from origin) os)
unsent_of_all P origin [] = tt
unsent_of_all P origin (o ∷ os) = at (is_none o.mark) (unsent_of_all P origin os)
  where
    at : (b : Bool) → AllByRecursion (IsCandidateOf P) (filter_map (unsent_from origin) os)
        → AllByRecursion (IsCandidateOf P) (cons_option (cond b (Some (record { origin = origin; message = o.message; tx = None })) None) (filter_map (unsent_from origin) os))
    at true rest = (λ tx e. absurd (none_some e), rest)
    at false rest = rest

kept_of : (P : Message → TxHead → Type 0) (index : ℕ) (row : Row) (ks : List Kept) → ((k : Kept) → In k ks → P k.message (tx_of row k)) → AllByRecursion (IsCandidateOf P) (map (of_row index row) ks)
kept_of P index row [] h = tt
kept_of P index row (k ∷ ks) h = (
  λ tx e. subst (P k.message) (some_is (tx_of row k) tx e) (h k (inl refl)),
  kept_of P index row ks (λ x i. h x (inr i)),
)

waiting_of : (P : Message → TxHead → Type 0) (s : State) (peer index : ℕ) (row : Row) (cursor : ℕ) → IsRowOf P row → AllByRecursion (IsCandidateOf P) (waiting s peer (index, (row, cursor)))
waiting_of P s peer index row cursor h = at (row.peer == peer && is_open s.outs index)
  where
    at : (b : Bool) → AllByRecursion (IsCandidateOf P) (cond b (map (of_row index row) (unsent_of row cursor)) [])
    at true = kept_of P index row (unsent_of row cursor) (λ k i. h k (filtered_in (λ (x : Kept). nat_lt (max row.acked cursor) x.number) row.kept k i))
    at false = tt

rows_of : (P : Message → TxHead → Type 0) (s : State) (peer n : ℕ) (rows : List Row) (cursors : List ℕ) → AllByRecursion (IsRowOf P) rows
    → AllByRecursion (IsCandidateOf P) (flat_map (waiting s peer) (enumerate_from n (zip rows cursors)))
rows_of P s peer n [] cursors h = tt
rows_of P s peer n (row ∷ rows) [] h = tt
rows_of P s peer n (row ∷ rows) (cursor ∷ cursors) h = all_append (IsCandidateOf P) (waiting s peer (n, (row, cursor))) (flat_map (waiting s peer) (enumerate_from (n + 1) (zip rows cursors)))
    (waiting_of P s peer n row cursor h.0) (rows_of P s peer (n + 1) rows cursors h.1)

candidates_of : (P : Message → TxHead → Type 0) (s : State) (rest : Rest) (now k : ℕ) (peer : Identity) (p : PlainLists) → AllByRecursion (IsRowOf P) s.outs
    → AllByRecursion (IsCandidateOf P) (candidates s rest now k peer p)
candidates_of P s rest now k peer p h = all_append (IsCandidateOf P) (acks s peer now s.next_express (rows_owing s rest peer.guid) ++ plain_candidates p) (row_candidates s rest k)
    (all_append (IsCandidateOf P) (acks s peer now s.next_express (rows_owing s rest peer.guid)) (plain_candidates p)
    (acks_of P s peer now s.next_express (rows_owing s rest peer.guid))
    (all_append (IsCandidateOf P) (filter_map (unsent_from OfRecoverable) p.recoverable) (filter_map (unsent_from OfExpress) p.express)
    (unsent_of_all P OfRecoverable p.recoverable) (unsent_of_all P OfExpress p.express)))
    (rows_of P s k 0 s.outs rest.cursors h)

-- The chosen ones, and their packets.

chosen_of : (P : Message → TxHead → Type 0) (session : one_end.State) (count bytes : ℕ) (xs : List Candidate) → AllByRecursion (IsCandidateOf P) xs
    → AllByRecursion (IsCandidateOf P) (chosen session count bytes xs)
chosen_of P session count bytes [] h = tt
chosen_of P session count bytes (x ∷ xs) h = at (may_follow session count bytes x) (chosen_of P (session_after session x) (count + 1) (bytes + candidate_size x) xs h.1)
  where
    at : (b : Bool) → AllByRecursion (IsCandidateOf P) (chosen (session_after session x) (count + 1) (bytes + candidate_size x) xs)
        → AllByRecursion (IsCandidateOf P) (cond b (x ∷ chosen (session_after session x) (count + 1) (bytes + candidate_size x) xs) [])
    at true rest = (h.0, rest)
    at false rest = tt

-- no time is left exactly where it is over
no_time_left : (sent reach now : ℕ) → (remaining sent reach now == 0) ≡ is_due sent reach now
no_time_left sent reach now = at (reach == UNLIMITED)
  where
    finite : (min ((sent + reach) - now) (UNLIMITED - 1) == 0) ≡ nat_le (sent + reach) now
    finite = by (nat_le (sent + reach) now) refl
      where
        by : (b : Bool) → nat_le (sent + reach) now ≡ b → (min ((sent + reach) - now) (UNLIMITED - 1) == 0) ≡ b
        by true e = let le : sent + reach ≤ now = grind (arith, nat_tests, e) in let z : min ((sent + reach) - now) (UNLIMITED - 1) ≡ 0 = omega arith in
            ap (λ k. k == 0) z
        by false e = let lt : now < sent + reach = grind (arith, nat_tests, e) in other_numbers (min ((sent + reach) - now) (UNLIMITED - 1)) 0 (λ z. omega (arith, lt, z))

    at : (b : Bool) → (cond b UNLIMITED (min ((sent + reach) - now) (UNLIMITED - 1)) == 0) ≡ (not b && nat_le (sent + reach) now)
    at true = refl
    at false = finite

user_is : (a b : UserPacket) → packet.User a ≡ packet.User b → a ≡ b
user_is a b e = cc

packet_of : (P : Message → TxHead → Type 0) (to : Guid) (now : ℕ) (c : Candidate) (head : SessionHead) → IsCandidateOf P c → IsPacketOf P now (packet_for to now (c, head))
packet_of P to now c head h p tx e t = let same = user_is (carried_user c.message (carriage_for to now (c, head))) p e in subst (λ x. Carries P now x tx) same (record {
  source = c.message;
  known = h tx (ap (λ (x : UserPacket). x.tx) same ∙ t);
  message = refl;
  late = no_time_left c.message.sent c.message.reach now;
})

packets_of : (P : Message → TxHead → Type 0) (to : Guid) (now : ℕ) (session : one_end.State) (xs : List Candidate) → AllByRecursion (IsCandidateOf P) xs
    → AllByRecursion (IsPacketOf P now) (map (packet_for to now) (with_heads session xs))
packets_of P to now session [] h = tt
packets_of P to now session (x ∷ xs) h = (packet_of P to now x (head_for session x) h.0, packets_of P to now (session_after session x) xs h.1)

-- Pumps.

abbrev AreOf : (Message → TxHead → Type 0) → ℕ → PumpOutcome → Type 0
AreOf P now outcome = AllByRecursion (IsPacketOf P now) outcome.packets

of_or : {X : Type 0} (P : Message → TxHead → Type 0) (now : ℕ) (f : X → PumpOutcome) (o : Option X) (other : PumpOutcome) → ((x : X) → AreOf P now (f x)) → AreOf P now other → AreOf P now (option_map_or f o other)
of_or P now f None other some none = none
of_or P now f (Some x) other some none = some x

of_either : (P : Message → TxHead → Type 0) (now : ℕ) (b : Bool) (x y : PumpOutcome) → AreOf P now x → AreOf P now y → AreOf P now (cond b x y)
of_either P now true x y left right = left
of_either P now false x y left right = right

no_user : (P : Message → TxHead → Type 0) {now : ℕ} (x : Packet) → ((p : UserPacket) → x ≡ packet.User p → ⊥) → IsPacketOf P now x
no_user P x none p tx e t = absurd (none p e)

set_up_of : (P : Message → TxHead → Type 0) {now : ℕ} (owed : Internal) → IsPacketOf P now (set_up_packet owed)
set_up_of P (internal.Establish e) = no_user P (packet.Establish e) (λ p f. let none : ⊥ = cc in none)
set_up_of P (internal.Parameters p) = no_user P (packet.Parameters p) (λ q f. let none : ⊥ = cc in none)
set_up_of P (internal.Ack h) = no_user P (packet.Ack h) (λ p f. let none : ⊥ = cc in none)

chosen_go : (P : Message → TxHead → Type 0) (m : Manager) (now : ℕ) (session : one_end.State) (k : ℕ) (to : Guid) (xs : List Candidate) → AllByRecursion (IsCandidateOf P) xs
    → AreOf P now (sending_chosen m now session k to xs)
chosen_go P m now session k to [] h = of_either P now session.owes (sending_one m (packet.Ack (stamped kind.Ack session).0) (stamped kind.Ack session).1) (answering m (Ok 0))
    (no_user P (packet.Ack (stamped kind.Ack session).0) (λ p f. let none : ⊥ = cc in none), tt) tt
chosen_go P m now session k to (x ∷ xs) h = packets_of P to now session (x ∷ xs) h

pump_of : (P : Message → TxHead → Type 0) (m : Manager) (now : ℕ) (session : one_end.State) (k : ℕ) (to : Guid) (xs : List Candidate) → AllByRecursion (IsCandidateOf P) xs
    → AreOf P now (pump_with m now session k to xs)
pump_of P m now session k to xs h = of_either P now (is_spent session && not (length xs == 0)) (answering m (Err fault.Spent)) (sending_chosen m now session k to (chosen session 0 0 xs)) tt
    (chosen_go P m now session k to (chosen session 0 0 xs) (chosen_of P session 0 0 xs h))

owed_go : (P : Message → TxHead → Type 0) (m : Manager) (now : ℕ) (session : one_end.State) (owed : Option Internal) → AllByRecursion (IsRowOf P) m.state.outs
    → AreOf P now (pump_owed m now session owed)
owed_go P m now session (Some owed) h = (set_up_of P owed, tt)
owed_go P m now session None h = let k = linked_peer m.state session in
    of_either P now (is_ready session.phase) (pump_at m now session k) (answering m (Ok 0))
    (of_or P now (λ peer. option_map_or (pump_to m now session k peer) (slice_get m.state.plain k) (answering m (Ok 0))) (slice_get m.state.peers k) (answering m (Ok 0))
    (λ peer. of_or P now (pump_to m now session k peer) (slice_get m.state.plain k) (answering m (Ok 0))
    (λ p. pump_of P m now session k peer.guid (candidates m.state m.rest now k peer p) (candidates_of P m.state m.rest now k peer p h)) tt) tt) tt

pub pump_carries : (P : Message → TxHead → Type 0) (m : Manager) (now : ℕ) → AllByRecursion (IsRowOf P) m.state.outs
    → AllByRecursion (IsPacketOf P now) (outcome_of m (Pump now)).packets
pump_carries P m now h = at (pump_refusal m)
  where
    at : (o : Option PumpFault) → AreOf P now (unless m o (option_map_or (pump_linked m now) m.rest.session (answering m (Err fault.NotLinked))))
    at (Some why) = tt
    at None = of_or P now (pump_linked m now) m.rest.session (answering m (Err fault.NotLinked)) (λ session. owed_go P m now session (owed_by session.phase now session) h) tt
