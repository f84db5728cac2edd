-- Where something holds of all messages that a manager has, it holds of those of the packets that it pumps.
use Rattle.std.proofs.Common.{subst}
use Rattle.std.specs.List.{AllByRecursion, cons_option, enumerate_from, flat_map}
use Rattle.std.specs.Option.{option_map_or}
use Rattle.std.specs.Prelude.{[], ◌&&◌, ◌+◌, ◌++◌, ◌==◌, ◌∷◌, ◌≡◌, Bool, Err, IfSome, List, None, Ok, Option, Some, cond, filter_map, false, is_none, length, map, max, nat_lt, not, slice_get, true, zip, ℕ}
use Rattle.mqb_base.specs.declared.ids.Guid.{Guid}
use Rattle.mqb_base.specs.declared.ids.Identity.{Identity}
use Rattle.mqb_base.specs.declared.ids.MessageId.{MessageId}
use Rattle.mqb_base.specs.declared.message.Message.{Message}
use Rattle.mqb_base.specs.declared.names.Name.{Name}
use Rattle.mqb_fate.specs.Orders.{order_acknowledgement}
use Rattle.mqb_fate.specs.declared.orders.OrderAck.{OrderAck}
use Rattle.mqb_model.specs.calls.pump.Candidates.{Candidate, ack_of, acks, candidates, of_row, plain_candidates, row_candidates, rows_owing, unsent_from, unsent_of, waiting}
use Rattle.mqb_model.specs.calls.pump.Choosing.{chosen, head_for, session_after, with_heads}
use Rattle.mqb_model.specs.calls.pump.Pump.{PumpOutcome, carriage_for, packet_for, pump_at, pump_linked, pump_owed, pump_refusal, pump_to, sending_chosen, sending_one, set_up_packet}
use Rattle.mqb_model.specs.declared.faults.PumpFault.{PumpFault}
use Rattle.mqb_model.specs.declared.faults.PumpFault.TheVariants as fault
use Rattle.mqb_model.specs.managers.Beside.{OfExpress, OfRecoverable, Origin}
use Rattle.mqb_model.specs.managers.Manager.{Manager, Rest, linked_peer}
use Rattle.mqb_model.specs.managers.Outcomes.{answering, unless}
use Rattle.mqb_model.specs.rules.Numbers.{express_after, own_id}
use Rattle.mqb_model.specs.state.State.{State}
use Rattle.mqb_orders.specs.Rows.{Row, is_open}
use Rattle.mqb_orders.specs.declared.kept.Kept.{Kept}
use Rattle.mqb_orders.specs.declared.rows.InRow.{InRow}
use Rattle.mqb_packet.specs.Plain.{carried_user}
use Rattle.mqb_packet.specs.declared.packet.Packet.{Packet}
use Rattle.mqb_packet.specs.declared.packet.Packet.TheVariants as packet
use Rattle.mqb_packet.specs.declared.packet.UserPacket.{UserPacket}
use Rattle.mqb_plain.specs.Plain.{PlainLists}
use Rattle.mqb_plain.specs.declared.outgoing.Outgoing.{Outgoing}
use Rattle.mqb_session.specs.Phases.{owed_by}
use Rattle.mqb_session.specs.Sending.{is_ready, is_spent, stamped}
use Rattle.mqb_session.specs.State as one_end
use Rattle.mqb_session.specs.declared.heads.Kind.TheVariants as kind
use Rattle.mqb_setup.specs.declared.internal.Internal.{Internal}
use Rattle.mqb_setup.specs.declared.internal.Internal.TheVariants as internal
use Rattle.mqb_model.specs.calls.Call.{Pump, outcome_of}
use Rattle.mqb_history.proofs.Contents.{Holds, PlainHolds, RowHolds, Waits}
use Rattle.mqb_history.proofs.Departing.{user_is}
use Rattle.mqb_history.proofs.Having.{get_holds}
use Rattle.mqb_history.proofs.Lists.{all_append, all_filter}
use Rattle.mqb_history.proofs.Opening.{chosen_all}

-- It is said of each order acknowledgement, and does not look at the time that is left to reach a queue.
pub record IsBrought (P : Message → Type 0) : Type 0 where
  pub acks : (a : OrderAck) (host : Name) (id : MessageId) (now : ℕ) → P (order_acknowledgement a host id now)
  pub left : (m : Message) (n : ℕ) → P m → P (record m { reach = n })

-- the message of a user packet has it
abbrev pub Brings : (Message → Type 0) → Packet → Type 0
Brings P x = (p : UserPacket) → x ≡ packet.User p → P p.message

module _ (P : Message → Type 0) (c : IsBrought P) (m : Manager) (h : Holds P m.state) where
  abbrev s : State
  s = m.state

  abbrev MayGo : Candidate → Type 0
  MayGo x = P x.message

  -- Candidates.

  acks_go : (peer : Identity) (now number : ℕ) (rows : List (ℕ × InRow)) → AllByRecursion MayGo (acks s peer now number rows)
  acks_go peer now number [] = tt
  acks_go peer now number (row ∷ rows) = (c.acks (ack_of row.1) peer.host (own_id s number) now, acks_go peer now (express_after number) rows)

  waits_go : (origin : Origin) (os : List Outgoing) → AllByRecursion (Waits P) os → AllByRecursion MayGo (filter_map (unsent_from origin) os)
  waits_go origin [] g = tt
  waits_go origin (o ∷ os) g = at (is_none o.mark) (waits_go origin os g.1)
    where
      at : (b : Bool) → AllByRecursion MayGo (filter_map (unsent_from origin) os)
          → AllByRecursion MayGo (cons_option (cond b (Some (record { origin = origin; message = o.message; tx = None })) None) (filter_map (unsent_from origin) os))
      at true rest = (g.0, rest)
      at false rest = rest

  kept_go : (index : ℕ) (row : Row) (ks : List Kept) → AllByRecursion (λ (x : Kept). P x.message) ks → AllByRecursion MayGo (map (of_row index row) ks)
  kept_go index row [] g = tt
  kept_go index row (x ∷ ks) g = (g.0, kept_go index row ks g.1)

  waiting_go : (k index : ℕ) (row : Row) (cursor : ℕ) → RowHolds P row → AllByRecursion MayGo (waiting s k (index, (row, cursor)))
  waiting_go k index row cursor g = at (row.peer == k && is_open s.outs index)
    where
      at : (b : Bool) → AllByRecursion MayGo (cond b (map (of_row index row) (unsent_of row cursor)) [])
      at true = kept_go index row (unsent_of row cursor) (all_filter (λ (x : Kept). P x.message) (λ (x : Kept). nat_lt (max row.acked cursor) x.number) row.kept g)
      at false = tt

  rows_go : (k n : ℕ) (rs : List Row) (cursors : List ℕ) → AllByRecursion (RowHolds P) rs → AllByRecursion MayGo (flat_map (waiting s k) (enumerate_from n (zip rs cursors)))
  rows_go k n [] cursors g = tt
  rows_go k n (row ∷ rs) [] g = tt
  rows_go k n (row ∷ rs) (cursor ∷ cursors) g = all_append MayGo (waiting s k (n, (row, cursor))) (flat_map (waiting s k) (enumerate_from (n + 1) (zip rs cursors)))
      (waiting_go k n row cursor g.0) (rows_go k (n + 1) rs cursors g.1)

  candidates_go : (rest : Rest) (now k : ℕ) (peer : Identity) (p : PlainLists) → PlainHolds P p → AllByRecursion MayGo (candidates s rest now k peer p)
  candidates_go rest now k peer p g = all_append MayGo (acks s peer now s.next_express (rows_owing s rest peer.guid) ++ plain_candidates p) (row_candidates s rest k)
      (all_append MayGo (acks s peer now s.next_express (rows_owing s rest peer.guid)) (plain_candidates p)
      (acks_go peer now s.next_express (rows_owing s rest peer.guid))
      (all_append MayGo (filter_map (unsent_from OfRecoverable) p.recoverable) (filter_map (unsent_from OfExpress) p.express)
      (waits_go OfRecoverable p.recoverable g.0) (waits_go OfExpress p.express g.1)))
      (rows_go k 0 s.outs rest.cursors h.outs)

  -- Packets.

  packets_bring : (now : ℕ) (to : Guid) (session : one_end.State) (xs : List Candidate) → AllByRecursion MayGo xs → AllByRecursion (Brings P) (map (packet_for to now) (with_heads session xs))
  packets_bring now to session [] g = tt
  packets_bring now to session (x ∷ xs) g = (
    λ p e. subst (λ (y : UserPacket). P y.message) (user_is (carried_user x.message (carriage_for to now (x, head_for session x))) p e)
        (c.left x.message (carriage_for to now (x, head_for session x)).remaining g.0),
    packets_bring now to (session_after session x) xs g.1,
  )

  abbrev AllBring : PumpOutcome → Type 0
  AllBring outcome = AllByRecursion (Brings P) outcome.packets

  either_bring : (b : Bool) (x y : PumpOutcome) → AllBring x → AllBring y → AllBring (cond b x y)
  either_bring true x y left right = left
  either_bring false x y left right = right

  no_user : (x : Packet) → ((p : UserPacket) → x ≡ packet.User p → ⊥) → Brings P x
  no_user x none p e = absurd (none p e)

  set_up_brings : (owed : Internal) → Brings P (set_up_packet owed)
  set_up_brings (internal.Establish e) = no_user (packet.Establish e) (λ p f. let none : ⊥ = cc in none)
  set_up_brings (internal.Parameters p) = no_user (packet.Parameters p) (λ q f. let none : ⊥ = cc in none)
  set_up_brings (internal.Ack a) = no_user (packet.Ack a) (λ p f. let none : ⊥ = cc in none)

  chosen_bring : (now : ℕ) (session : one_end.State) (k : ℕ) (to : Guid) (xs : List Candidate) → AllByRecursion MayGo xs → AllBring (sending_chosen m now session k to xs)
  chosen_bring now session k to [] g = either_bring session.owes (sending_one m (packet.Ack (stamped kind.Ack session).0) (stamped kind.Ack session).1) (answering m (Ok 0))
      (no_user (packet.Ack (stamped kind.Ack session).0) (λ p f. let none : ⊥ = cc in none), tt) tt
  chosen_bring now session k to (x ∷ xs) g = packets_bring now to session (x ∷ xs) g

  to_bring : (now : ℕ) (session : one_end.State) (k : ℕ) (peer : Identity) (p : PlainLists) → PlainHolds P p → AllBring (pump_to m now session k peer p)
  to_bring now session k peer p g = let cs = candidates s m.rest now k peer p in
      either_bring (is_spent session && not (length cs == 0)) (answering m (Err fault.Spent)) (sending_chosen m now session k peer.guid (chosen session 0 0 cs)) tt
      (chosen_bring now session k peer.guid (chosen session 0 0 cs) (chosen_all MayGo session 0 0 cs (candidates_go m.rest now k peer p g)))

  at_bring : (now : ℕ) (session : one_end.State) (k : ℕ) → AllBring (pump_at m now session k)
  at_bring now session k = at (slice_get s.peers k)
    where
      lists : (peer : Identity) (o : Option PlainLists) → IfSome o (PlainHolds P) → AllBring (option_map_or (pump_to m now session k peer) o (answering m (Ok 0)))
      lists peer None g = tt
      lists peer (Some p) g = to_bring now session k peer p g

      at : (o : Option Identity) → AllBring (option_map_or (λ peer. option_map_or (pump_to m now session k peer) (slice_get s.plain k) (answering m (Ok 0))) o (answering m (Ok 0)))
      at None = tt
      at (Some peer) = lists peer (slice_get s.plain k) (get_holds (PlainHolds P) s.plain k h.plain)

  owed_bring : (now : ℕ) (session : one_end.State) (o : Option Internal) → AllBring (pump_owed m now session o)
  owed_bring now session (Some owed) = (set_up_brings owed, tt)
  owed_bring now session None = either_bring (is_ready session.phase) (pump_at m now session (linked_peer s session)) (answering m (Ok 0)) (at_bring now session (linked_peer s session)) tt

  pub pumped_brings : (now : ℕ) → AllByRecursion (Brings P) (outcome_of m (Pump now)).packets
  pumped_brings now = at (pump_refusal m) m.rest.session
    where
      at : (o : Option PumpFault) (session : Option one_end.State) → AllBring (unless m o (option_map_or (pump_linked m now) session (answering m (Err fault.NotLinked))))
      at (Some why) session = tt
      at None None = tt
      at None (Some session) = owed_bring now session (owed_by session.phase now session)
