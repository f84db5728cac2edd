-- A message of a stream that a pump sends goes to the manager to which its destination leads.
use Rattle.std.proofs.Common.{refl, ap, subst, ◌∙◌, inl, inr}
use Rattle.std.specs.List.{AllByRecursion, cons_option, enumerate_from, flat_map, zip}
use Rattle.std.specs.Option.{option_map_or}
use Rattle.std.specs.Prelude.{[], ◌&&◌, ◌+◌, ◌++◌, ◌==◌, ◌∷◌, ◌≡◌, Bool, Err, List, None, Ok, Option, Some, cond, false, filter_map, is_none, length, map, max, nat_lt, not, slice_get, true, ℕ}
use Rattle.mqb_base.specs.declared.heads.TxHead.{TxHead}
use Rattle.mqb_base.specs.declared.ids.Guid.{Guid}
use Rattle.mqb_base.specs.declared.ids.Identity.{Identity}
use Rattle.mqb_exactly_once.specs.Words.{In}
use Rattle.mqb_model.specs.calls.pump.Candidates.{Candidate, acks, candidates, of_row, plain_candidates, row_candidates, rows_owing, unsent_from, unsent_of, waiting}
use Rattle.mqb_model.specs.calls.pump.Choosing.{chosen, head_for, session_after, with_heads}
use Rattle.mqb_model.specs.calls.pump.Pump.{PumpOutcome, carriage_for, packet_for, pump_at, pump_linked, pump_owed, pump_refusal, pump_to, pump_with, sending_chosen, sending_one, set_up_packet}
use Rattle.mqb_model.specs.declared.faults.PumpFault.{PumpFault}
use Rattle.mqb_model.specs.declared.faults.PumpFault.TheVariants as fault
use Rattle.mqb_model.specs.declared.target.Target.TheVariants.{AtPeer}
use Rattle.mqb_model.specs.managers.Beside.{OfExpress, OfRecoverable, Origin}
use Rattle.mqb_model.specs.managers.Manager.{Manager, Rest, linked_peer}
use Rattle.mqb_model.specs.managers.Outcomes.{answering, unless}
use Rattle.mqb_model.specs.rules.Numbers.{express_after}
use Rattle.mqb_model.specs.state.Resolving.{resolved}
use Rattle.mqb_model.specs.state.State.{State}
use Rattle.mqb_orders.specs.Rows.{Row, is_open}
use Rattle.mqb_orders.specs.declared.kept.Kept.{Kept}
use Rattle.mqb_orders.specs.declared.rows.InRow.{InRow}
use Rattle.mqb_packet.specs.Plain.{carried_user}
use Rattle.mqb_packet.specs.declared.packet.Packet.{Packet}
use Rattle.mqb_packet.specs.declared.packet.Packet.TheVariants as packet
use Rattle.mqb_packet.specs.declared.packet.UserPacket.{UserPacket}
use Rattle.mqb_plain.specs.Plain.{PlainLists}
use Rattle.mqb_plain.specs.declared.outgoing.Outgoing.{Outgoing}
use Rattle.mqb_session.specs.Phases.{owed_by}
use Rattle.mqb_session.specs.Sending.{is_ready, is_spent, stamped}
use Rattle.mqb_session.specs.State as one_end
use Rattle.mqb_session.specs.declared.heads.Kind.TheVariants as kind
use Rattle.mqb_setup.specs.declared.internal.Internal.{Internal}
use Rattle.mqb_setup.specs.declared.internal.Internal.TheVariants as internal
use Rattle.mqb_model.specs.calls.Call.{Pump, outcome_of}
use Rattle.mqb_history.proofs.Later.{LeadsFrom}
use Rattle.mqb_history.proofs.Lists.{all_append, equal_numbers, none_some, split_and}
use Rattle.mqb_history.proofs.Opening.{chosen_all}
use Rattle.mqb_history.proofs.Outside.{filtered_in}

-- what rows keep leads to their peers
abbrev pub AreLed : State → Type 0
AreLed s = (row : Row) (k : Kept) → In row s.outs → In k row.kept → resolved s k.message.destination ≡ AtPeer row.peer

abbrev IsLedCandidate : State → Guid → Candidate → Type 0
IsLedCandidate s to c = (tx : TxHead) → c.tx ≡ Some tx → LeadsFrom s to c.message.destination

abbrev pub IsLedPacket : State → Packet → Type 0
IsLedPacket s x = (p : UserPacket) (tx : TxHead) → x ≡ packet.User p → p.tx ≡ Some tx → LeadsFrom s p.to p.message.destination

-- Candidates.

acks_led : (s : State) (to : Guid) (peer : Identity) (now number : ℕ) (rows : List (ℕ × InRow)) → AllByRecursion (IsLedCandidate s to) (acks s peer now number rows)
acks_led s to peer now number [] = tt
acks_led s to peer now number (row ∷ rows) = (λ tx e. absurd (none_some e), acks_led s to peer now (express_after number) rows)

plain_led : (s : State) (to : Guid) (origin : Origin) (os : List Outgoing) → AllByRecursion (IsLedCandidate s to) (filter_map (unsent_from origin) os)
plain_led s to origin [] = tt
plain_led s to origin (o ∷ os) = at (is_none o.mark) (plain_led s to origin os)
  where
    at : (b : Bool) → AllByRecursion (IsLedCandidate s to) (filter_map (unsent_from origin) os)
        → AllByRecursion (IsLedCandidate s to) (cons_option (cond b (Some (record { origin = origin; message = o.message; tx = None })) None) (filter_map (unsent_from origin) os))
    at true rest = (λ tx e. absurd (none_some e), rest)
    at false rest = rest

module _ (s : State) (led : AreLed s) (k : ℕ) (peer : Identity) (there : slice_get s.peers k ≡ Some peer) where
  kept_led : (index : ℕ) (row : Row) (ks : List Kept) → In row s.outs → row.peer ≡ k → ((x : Kept) → In x ks → In x row.kept) → AllByRecursion (IsLedCandidate s peer.guid) (map (of_row index row) ks)
  kept_led index row [] inside same within = tt
  kept_led index row (x ∷ ks) inside same within = (
    λ tx e. record { index = k; resolves = led row x inside (within x (inl refl)) ∙ ap (λ n. AtPeer n) same; peer = peer; there = there; is = refl },
    kept_led index row ks inside same (λ y i. within y (inr i)),
  )

  waiting_led : (index : ℕ) (row : Row) (cursor : ℕ) → In row s.outs → AllByRecursion (IsLedCandidate s peer.guid) (waiting s k (index, (row, cursor)))
  waiting_led index row cursor inside = at ((row.peer == k) && is_open s.outs index) refl
    where
      at : (b : Bool) → ((row.peer == k) && is_open s.outs index) ≡ b → AllByRecursion (IsLedCandidate s peer.guid) (cond b (map (of_row index row) (unsent_of row cursor)) [])
      at true e = kept_led index row (unsent_of row cursor) inside (equal_numbers row.peer k (split_and (row.peer == k) (is_open s.outs index) e).0)
          (λ x i. filtered_in (λ (y : Kept). nat_lt (max row.acked cursor) y.number) row.kept x i)
      at false e = tt

  rows_led : (n : ℕ) (rows : List Row) (cursors : List ℕ) → ((r : Row) → In r rows → In r s.outs) → AllByRecursion (IsLedCandidate s peer.guid) (flat_map (waiting s k) (enumerate_from n (zip rows cursors)))
  rows_led n [] cursors within = tt
  rows_led n (row ∷ rows) [] within = tt
  rows_led n (row ∷ rows) (cursor ∷ cursors) within = all_append (IsLedCandidate s peer.guid) (waiting s k (n, (row, cursor))) (flat_map (waiting s k) (enumerate_from (n + 1) (zip rows cursors)))
      (waiting_led n row cursor (within row (inl refl))) (rows_led (n + 1) rows cursors (λ r i. within r (inr i)))

  candidates_led : (rest : Rest) (now : ℕ) (p : PlainLists) → AllByRecursion (IsLedCandidate s peer.guid) (candidates s rest now k peer p)
  candidates_led rest now p = all_append (IsLedCandidate s peer.guid) (acks s peer now s.next_express (rows_owing s rest peer.guid) ++ plain_candidates p) (row_candidates s rest k)
      (all_append (IsLedCandidate s peer.guid) (acks s peer now s.next_express (rows_owing s rest peer.guid)) (plain_candidates p)
      (acks_led s peer.guid peer now s.next_express (rows_owing s rest peer.guid))
      (all_append (IsLedCandidate s peer.guid) (filter_map (unsent_from OfRecoverable) p.recoverable) (filter_map (unsent_from OfExpress) p.express)
      (plain_led s peer.guid OfRecoverable p.recoverable) (plain_led s peer.guid OfExpress p.express)))
      (rows_led 0 s.outs rest.cursors (λ r i. i))

-- Packets.

user_is : (a b : UserPacket) → packet.User a ≡ packet.User b → a ≡ b
user_is a b e = cc

packets_led : (s : State) (to : Guid) (now : ℕ) (session : one_end.State) (cs : List Candidate) → AllByRecursion (IsLedCandidate s to) cs
    → AllByRecursion (IsLedPacket s) (map (packet_for to now) (with_heads session cs))
packets_led s to now session [] h = tt
packets_led s to now session (c ∷ cs) h = (own, packets_led s to now (session_after session c) cs h.1)
  where
    own : IsLedPacket s (packet_for to now (c, head_for session c))
    own p tx e t = let same = user_is (carried_user c.message (carriage_for to now (c, head_for session c))) p e in
        subst (λ (y : UserPacket). LeadsFrom s y.to y.message.destination) same (h.0 tx (ap (λ (y : UserPacket). y.tx) same ∙ t))

-- Pumps.

abbrev AllLed : State → PumpOutcome → Type 0
AllLed s outcome = AllByRecursion (IsLedPacket s) outcome.packets

led_or : {X : Type 0} (s : State) (f : X → PumpOutcome) (o : Option X) (other : PumpOutcome) → ((x : X) → o ≡ Some x → AllLed s (f x)) → AllLed s other → AllLed s (option_map_or f o other)
led_or s f None other some none = none
led_or s f (Some x) other some none = some x refl

led_either : (s : State) (b : Bool) (x y : PumpOutcome) → AllLed s x → AllLed s y → AllLed s (cond b x y)
led_either s true x y left right = left
led_either s false x y left right = right

no_user : (s : State) (x : Packet) → ((p : UserPacket) → x ≡ packet.User p → ⊥) → IsLedPacket s x
no_user s x none p tx e t = absurd (none p e)

set_up_led : (s : State) (owed : Internal) → IsLedPacket s (set_up_packet owed)
set_up_led s (internal.Establish e) = no_user s (packet.Establish e) (λ p f. let none : ⊥ = cc in none)
set_up_led s (internal.Parameters p) = no_user s (packet.Parameters p) (λ q f. let none : ⊥ = cc in none)
set_up_led s (internal.Ack h) = no_user s (packet.Ack h) (λ p f. let none : ⊥ = cc in none)

chosen_led : (m : Manager) (now : ℕ) (session : one_end.State) (k : ℕ) (to : Guid) (cs : List Candidate) → AllByRecursion (IsLedCandidate m.state to) cs → AllLed m.state (sending_chosen m now session k to cs)
chosen_led m now session k to [] h = led_either m.state session.owes (sending_one m (packet.Ack (stamped kind.Ack session).0) (stamped kind.Ack session).1) (answering m (Ok 0))
    (no_user m.state (packet.Ack (stamped kind.Ack session).0) (λ p f. let none : ⊥ = cc in none), tt) tt
chosen_led m now session k to (c ∷ cs) h = packets_led m.state to now session (c ∷ cs) h

with_led : (m : Manager) (now : ℕ) (session : one_end.State) (k : ℕ) (to : Guid) (cs : List Candidate) → AllByRecursion (IsLedCandidate m.state to) cs → AllLed m.state (pump_with m now session k to cs)
with_led m now session k to cs h = led_either m.state (is_spent session && not (length cs == 0)) (answering m (Err fault.Spent)) (sending_chosen m now session k to (chosen session 0 0 cs)) tt
    (chosen_led m now session k to (chosen session 0 0 cs) (chosen_all (IsLedCandidate m.state to) session 0 0 cs h))

owed_led : (m : Manager) (now : ℕ) (session : one_end.State) (owed : Option Internal) → AreLed m.state → AllLed m.state (pump_owed m now session owed)
owed_led m now session (Some owed) led = (set_up_led m.state owed, tt)
owed_led m now session None led = let k = linked_peer m.state session in
    led_either m.state (is_ready session.phase) (pump_at m now session k) (answering m (Ok 0))
    (led_or m.state (λ peer. option_map_or (pump_to m now session k peer) (slice_get m.state.plain k) (answering m (Ok 0))) (slice_get m.state.peers k) (answering m (Ok 0))
    (λ (peer : Identity) there. led_or m.state (pump_to m now session k peer) (slice_get m.state.plain k) (answering m (Ok 0))
    (λ (p : PlainLists) e. with_led m now session k peer.guid (candidates m.state m.rest now k peer p) (candidates_led m.state led k peer there m.rest now p)) tt) tt) tt

pub pump_led : (m : Manager) (now : ℕ) → AreLed m.state → AllByRecursion (IsLedPacket m.state) (outcome_of m (Pump now)).packets
pump_led m now led = at (pump_refusal m)
  where
    at : (o : Option PumpFault) → AllLed m.state (unless m o (option_map_or (pump_linked m now) m.rest.session (answering m (Err fault.NotLinked))))
    at (Some why) = tt
    at None = led_or m.state (pump_linked m now) m.rest.session (answering m (Err fault.NotLinked)) (λ session e. owed_led m now session (owed_by session.phase now session) led) tt
