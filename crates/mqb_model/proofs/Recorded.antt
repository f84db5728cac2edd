-- What stands beside the durable part of a state outlasts records.
use Rattle.std.proofs.Common.{refl, sym, subst, length, arith, length-append}
use Rattle.std.specs.List.{AllByRecursion}
use Rattle.std.specs.Option.{option_map_or}
use Rattle.std.specs.Prelude.{◌+◌, ◌++◌, ◌∷◌, ◌≡◌, ◌≤◌, ◌||◌, [], Bool, IfSome, List, None, Option, Some, cond, false, fold, max, nat_lt, option_and_then, position, slice_get, slice_set, true, ℕ}
use Rattle.mqb_base.specs.Bits.{keeps_dead}
use Rattle.mqb_base.specs.Classes.{is_negative}
use Rattle.mqb_base.specs.declared.class.Class.{Class}
use Rattle.mqb_base.specs.declared.class.TheConstants.Class.{REACHED_QUEUE, REACH_TIMEOUT}
use Rattle.mqb_base.specs.declared.heads.TxHead.{TxHead}
use Rattle.mqb_base.specs.declared.ids.Identity.{Identity}
use Rattle.mqb_base.specs.declared.ids.MessageId.{MessageId}
use Rattle.mqb_base.specs.declared.message.Lane.TheVariants as lane
use Rattle.mqb_base.specs.declared.message.Message.{Message}
use Rattle.mqb_base.specs.declared.queues.EntryPlace.{EntryPlace}
use Rattle.mqb_base.specs.declared.queues.EntryPlace.TheVariants as place
use Rattle.mqb_entries.specs.declared.members.Mark.{Mark}
use Rattle.mqb_orders.specs.Rows.{Row, acknowledged}
use Rattle.mqb_orders.specs.declared.kept.Kept.{Kept}
use Rattle.mqb_orders.specs.declared.rows.InRow.{InRow}
use Rattle.mqb_packet.specs.declared.packet.Headers.TheVariants as headers
use Rattle.mqb_packet.specs.declared.packet.UserPacket.{UserPacket}
use Rattle.mqb_plain.specs.Plain.{PlainLists}
use Rattle.mqb_queue.specs.First.{index_named}
use Rattle.mqb_session.specs.State as one_end
use Rattle.mqb_model.specs.Lists.{with_changed, with_first_changed}
use Rattle.mqb_model.specs.declared.target.Target.{Target}
use Rattle.mqb_model.specs.declared.target.Target.TheVariants.{AtPeer, Here, Nowhere}
use Rattle.mqb_model.specs.managers.Manager.{Rest}
use Rattle.mqb_model.specs.managers.Valid.{IsUnsent, MarksRise}
use Rattle.mqb_model.specs.records.Arrived.{arrived_effect, part_made}
use Rattle.mqb_model.specs.records.Commit.{commit_effect, op_taken, send_made, sends_numbered, sends_of, takes_made}
use Rattle.mqb_model.specs.records.Decisions.{decided_row, message_decided, with_decided}
use Rattle.mqb_model.specs.records.Finals.{dead_for, final_stored, finished_at, finished_by, finished_row, index_finished, is_offered_as, kept_named, with_finished}
use Rattle.mqb_model.specs.records.Offered.{mark_raised, with_offered}
use Rattle.mqb_model.specs.records.Record.{Part, RecordOp, Send, Take}
use Rattle.mqb_model.specs.records.Record as entry
use Rattle.mqb_model.specs.records.Releases.{has_recoverable, is_released_by, message_released, releases_made, without_recoverable, without_released}
use Rattle.mqb_model.specs.rules.Arrivals.{refusal_of, storing_refusal}
use Rattle.mqb_model.specs.rules.Effects.{Effect, begun, joined}
use Rattle.mqb_model.specs.rules.Purges.{purged}
use Rattle.mqb_model.specs.rules.Sends.{committed_to, journalled}
use Rattle.mqb_model.specs.rules.Sequences.{join, new_sequence, sequence_in_use, with_kept, with_sequence}
use Rattle.mqb_model.specs.rules.Takes.{taken, taken_at}
use Rattle.mqb_model.specs.rules.Timeouts.{expires, expiring, expiring_in, lane_ticked, message_expired, next_expired, row_expired, rows_expired, with_expired, without_expired}
use Rattle.mqb_model.specs.state.Places.{is_express, put_at}
use Rattle.mqb_model.specs.state.Resolving.{peer_known, resolved}
use Rattle.mqb_model.specs.state.Rows.{has_ordinal, is_row_of, with_row}
use Rattle.mqb_model.specs.state.State.{State}
use Rattle.mqb_model.proofs.Accepting.{IsHere, refusal_here, refusal_known, storing_here, storing_known}
use Rattle.mqb_model.proofs.Accord.{Accords, IsApt, IsHeld, IsLinked, PlainHeld, RowHeld, durable_apt, ins_accord, numbers_accord, ordinal_accords, peer_in, plain_accords, put_accords, rests_accord, rows_accord}
use Rattle.mqb_model.proofs.Arriving.{resolved_stays}
use Rattle.mqb_model.proofs.Besides.{arrived_accords, here_accords, journalled_accords, meets_accords, outlasts, outlasts_leaving}
use Rattle.mqb_model.proofs.Departing.{for_each_keeps, if_some, repeated_keeps}
use Rattle.mqb_model.proofs.Holding.{changed_holds, get_holds}
use Rattle.mqb_model.proofs.Marks.{Thinned, bear_first, lost, thinned_rise, thinned_unsent}
use Rattle.mqb_model.proofs.Members.{all_append, changed_length, fewer_all, fewer_filter, fewer_filtered, fewer_without, first_all, first_holds, first_length, same}
use Rattle.mqb_model.proofs.Walking.{purged_outlasts, taken_at_outlasts, ticked_outlasts}

-- incoming rows once a part was dealt with
abbrev pub ins_after : List InRow → Part → List InRow
ins_after ins (entry.Decided p) = option_map_or (λ tx. option_map_or (λ k. slice_set ins k (decided_row p.message tx))
    (position (is_row_of p.message.id.qm p.message.destination) ins) (ins ++ decided_row p.message tx ∷ [])) p.tx ins
ins_after ins _ = ins

-- a message that is judged is not express
abbrev pub IsDurablePart : Part → Type 0
IsDurablePart (entry.Decided p) = is_express p.message.delivery ≡ false
IsDurablePart (entry.Stored p) = is_express p.message.delivery ≡ false
IsDurablePart _ = Unit {0}

-- messages of a transaction are not express
sends_durable : (ops : List RecordOp) → AllByRecursion (λ m. is_express m.delivery ≡ false) (sends_of ops)
sends_durable [] = tt
sends_durable (Send p ∷ ops) = (refl, sends_durable ops)
sends_durable (Take queue id ∷ ops) = sends_durable ops

released_thins : (s : State) (number : ℕ) (p : PlainLists) → Thinned (without_recoverable s number p) p
released_thins s number p = record { recoverable = lost (fewer_without (is_released_by s number) p.recoverable); express = lost (same p.express) }

pub released_ins : (e : Effect) (numbers : List ℕ) → (fold message_released e numbers).state.ins ≡ e.state.ins
released_ins e [] = refl
released_ins e (number ∷ numbers) = released_ins (message_released e number) numbers

released_outs : (e : Effect) (numbers : List ℕ) → (fold message_released e numbers).state.outs ≡ e.state.outs
released_outs e [] = refl
released_outs e (number ∷ numbers) = released_outs (message_released e number) numbers

module _ (rest : Rest) where
  -- Takes, purges and ticks.

  pub taken_accords : (at : EntryPlace) (id : MessageId) (now : ℕ) (e : Effect) → Accords rest e.state → Accords rest (taken at id now e).state
  taken_accords at id now e a = of (index_named e.state.places at id now)
    where
      of : (o : Option ℕ) → Accords rest (option_map_or (λ k. taken_at lane.Durable at k now e) o e).state
      of None = a
      of (Some k) = taken_at_outlasts lane.Durable (IsApt headers.Bare) (IsApt headers.Session) (Accords rest) (outlasts rest) (outlasts_leaving rest lane.Durable) at k now e a

  pub purged_accords : (at : EntryPlace) (now : ℕ) (s : State) → Accords rest s → Accords rest (purged lane.Durable at now (begun s)).state
  purged_accords at now s a = purged_outlasts lane.Durable (IsApt headers.Bare) (IsApt headers.Session) (Accords rest) (outlasts rest) (outlasts_leaving rest lane.Durable) at now (begun s) a

  -- a row that keeps less
  outs_accord : (s : State) (change : Row → Row) (k : ℕ) → ((row : Row) → RowHeld row → RowHeld (change row)) → Accords rest s → Accords rest (record s { outs = with_changed change s.outs k })
  outs_accord s change k keeps a = let counted = changed_length change s.outs k in
      rows_accord rest s (with_changed change s.outs k) (changed_holds RowHeld change s.outs k keeps a.rows) (omega (arith, counted)) a

  row_accords : (s : State) (change : Row → Row) (ordinal : ℕ) → ((row : Row) → RowHeld row → RowHeld (change row)) → Accords rest s → Accords rest (with_row change s ordinal)
  row_accords s change ordinal keeps a = let counted = first_length change (has_ordinal ordinal) s.outs in
      rows_accord rest s (with_first_changed change (has_ordinal ordinal) s.outs)
      (first_all RowHeld change (has_ordinal ordinal) s.outs (if_some (λ row. RowHeld row → RowHeld (change row)) _ keeps) a.rows) (omega (arith, counted)) a

  expired_accords : (now k : ℕ) (e : Effect) → Accords rest e.state → Accords rest (next_expired now k e).state
  expired_accords now k e a = at (slice_get e.state.outs k) (get_holds RowHeld e.state.outs k a.rows)
    where
      less : Accords rest (with_expired now e.state k)
      less = outs_accord e.state (without_expired now) k (λ row h. fewer_all (λ k. is_express k.message.delivery ≡ false) (fewer_without (expires now row) row.kept) h) a

      each : (row : Row) (o : Option Kept) → IfSome o (λ k. is_express k.message.delivery ≡ false)
          → Accords rest (option_map_or (λ kept. joined e (message_expired now k e.state row kept)) o e).state
      each row None p = a
      each row (Some kept) p = meets_accords rest (with_expired now e.state k) kept.message REACH_TIMEOUT now (durable_apt headers.Bare kept.message p) refl less

      at : (o : Option Row) → IfSome o RowHeld
          → Accords rest (option_map_or (λ row. option_map_or (λ kept. joined e (message_expired now k e.state row kept)) (expiring now row) e) o e).state
      at None r = a
      at (Some row) r = each row (expiring now row) (first_holds (λ k. is_express k.message.delivery ≡ false) (expires now row) row.kept r)

  pub ticked_accords : (now : ℕ) (s : State) → Accords rest s → Accords rest (lane_ticked lane.Durable now (rows_expired now (begun s))).state
  ticked_accords now s a = ticked_outlasts lane.Durable (IsApt headers.Bare) (IsApt headers.Session) (Accords rest) (outlasts rest) (outlasts_leaving rest lane.Durable) now (rows_expired now (begun s))
      (for_each_keeps (λ e. Accords rest e.state) (row_expired now) (length s.outs) (begun s)
      (λ k e h. repeated_keeps (λ e. Accords rest e.state) (next_expired now k) (option_map_or (expiring_in now) (slice_get e.state.outs k) 0) e (λ e h. expired_accords now k e h) h) a)

  -- Transactions.

  joined_accords : (s : State) (peer now : ℕ) (m : Message) → is_express m.delivery ≡ false → Accords rest s → Accords rest (join s peer now m)
  joined_accords s peer now m durable a = at (sequence_in_use s peer m.destination)
    where
      keeps : (row : Row) → RowHeld row → RowHeld (with_kept m row)
      keeps row h = all_append (λ k. is_express k.message.delivery ≡ false) row.kept _ h (durable, tt)

      new : Row
      new = with_kept m (new_sequence s peer m.destination now)

      at : (o : Option Row) → Accords rest (option_map_or (λ row. with_row (with_kept m) s row.sequence.ordinal) o (with_sequence s new))
      at (Some row) = row_accords s (with_kept m) row.sequence.ordinal keeps a
      at None = let counted = length-append s.outs (new ∷ []) in ordinal_accords rest (record s { outs = s.outs ++ new ∷ [] }) (s.next_ordinal + 1)
          (rows_accord rest s (s.outs ++ new ∷ []) (all_append RowHeld s.outs (new ∷ []) a.rows ((durable, tt), tt)) (omega (arith, counted)) a)

  committed_accords : (now : ℕ) (s : State) (t : Target) (m : Message) → is_express m.delivery ≡ false → Accords rest s → Accords rest (committed_to now s t m).state
  committed_accords now s (AtPeer k) m durable a = joined_accords s k now m durable a
  committed_accords now s (Here queue) m durable a = here_accords rest s queue m now (durable_apt headers.Bare m durable) a
  committed_accords now s Nowhere m durable a = meets_accords rest s m REACHED_QUEUE now (durable_apt headers.Bare m durable) refl a

  sends_accord : (now : ℕ) (e : Effect) (ms : List Message) → AllByRecursion (λ m. is_express m.delivery ≡ false) ms → Accords rest e.state → Accords rest (fold (send_made now) e ms).state
  sends_accord now e [] durable a = a
  sends_accord now e (m ∷ ms) durable a = sends_accord now (send_made now e m) ms durable.1
      (committed_accords now (journalled e.state m) (resolved e.state m.destination) m durable.0
      (journalled_accords rest e.state m (durable_apt headers.Bare m durable.0) a))

  takes_accord : (now : ℕ) (e : Effect) (ops : List RecordOp) → Accords rest e.state → Accords rest (fold (op_taken now) e ops).state
  takes_accord now e [] a = a
  takes_accord now e (Send p ∷ ops) a = takes_accord now e ops a
  takes_accord now e (Take queue id ∷ ops) a = takes_accord now (op_taken now e (Take queue id)) ops (taken_accords (place.Queue queue) id now e a)

  pub commit_accords : (now : ℕ) (s : State) (ops : List RecordOp) → Accords rest s → Accords rest (commit_effect s now ops).state
  commit_accords now s ops a = sends_accord now (takes_made s now ops) (sends_of ops) (sends_durable ops)
      (takes_accord now (sends_numbered s ops) ops (numbers_accord rest s (s.next_number + length (sends_of ops)) a))

  pub offered_accords : (s : State) (marks : List Mark) → Accords rest s → Accords rest (fold mark_raised s marks)
  offered_accords s [] a = a
  offered_accords s (mark ∷ marks) a = offered_accords (mark_raised s mark) marks (row_accords s (with_offered mark.number) mark.ordinal (λ row h. h) a)

  -- Releases.

  released_linked : (identity : Identity) (peers : List Identity) (s : State) (number : ℕ) (ps : List PlainLists) (o : Option one_end.State) → IsLinked identity peers ps o
      → IsLinked identity peers (with_first_changed (without_recoverable s number) (has_recoverable s number) ps) o
  released_linked identity peers s number ps None h = first_all IsUnsent (without_recoverable s number) (has_recoverable s number) ps
      (if_some (λ p. IsUnsent p → IsUnsent (without_recoverable s number p)) _ (λ p u. thinned_unsent (without_recoverable s number p) p (released_thins s number p) u)) h
  released_linked identity peers s number ps (Some session) h = record {
    kept = h.kept;
    own = h.own;
    peer = h.peer;
    first = h.first;
    marks = bear_first session (peer_in peers session) 0 (without_recoverable s number) (has_recoverable s number) ps (λ p. released_thins s number p) h.marks;
  }

  released_accords : (s : State) (number : ℕ) → Accords rest s → Accords rest (without_released s number)
  released_accords s number a = plain_accords rest s (with_first_changed change passes s.plain)
      (first_all PlainHeld change passes s.plain (if_some (λ p. PlainHeld p → PlainHeld (change p)) _
      (λ p h. (fewer_all (λ o. IsHeld lane.Durable headers.Session o.message) (fewer_without (is_released_by s number) p.recoverable) h.0, h.1))) a.plain)
      (first_all MarksRise change passes s.plain (if_some (λ p. MarksRise p → MarksRise (change p)) _ (λ p r. thinned_rise (change p) p (released_thins s number p) r)) a.marks)
      (released_linked s.identity s.peers s number s.plain rest.session a.linked) a
    where
      change : PlainLists → PlainLists
      change p = without_recoverable s number p

      passes : PlainLists → Bool
      passes p = has_recoverable s number p

  pub releases_accord : (e : Effect) (numbers : List ℕ) → Accords rest e.state → Accords rest (fold message_released e numbers).state
  releases_accord e [] a = a
  releases_accord e (number ∷ numbers) a = releases_accord (message_released e number) numbers (released_accords e.state number a)

  -- Acknowledgements.

  acked_kept : (number : ℕ) (row : Row) → RowHeld row → RowHeld (acknowledged number row)
  acked_kept number row h = fewer_all (λ k. is_express k.message.delivery ≡ false)
      (fewer_filter (λ k. nat_lt (max row.acked number) k.number || keeps_dead k.message) row.kept) h

  dead_accords : (class : Class) (s : State) (m : Message) → is_express m.delivery ≡ false → Accords rest s → Accords rest (dead_for class s m)
  dead_accords class s m durable a = at (is_negative class.0)
    where
      at : (b : Bool) → Accords rest (cond b (put_at s place.DeadXact m) s)
      at true = put_accords rest s place.DeadXact m (durable_apt headers.Bare m durable) a
      at false = a

  finished_accords : (s : State) (m : Message) (index : ℕ) → Accords rest s → Accords rest (finished_at s m index)
  finished_accords s m index a = at (slice_get s.outs index) (get_holds RowHeld s.outs index a.rows)
    where
      each : (o : Option Kept) → IfSome o (λ k. is_express k.message.delivery ≡ false)
          → Accords rest (option_map_or (λ k. dead_for m.class (with_finished m.correlation s index k) k.message) o s)
      each None p = a
      each (Some k) p = dead_accords m.class (with_finished m.correlation s index k) k.message p
          (outs_accord s (finished_row m.correlation k.number) index (λ row h. fewer_all (λ k. is_express k.message.delivery ≡ false)
          (fewer_filtered (λ k. nat_lt (max row.acked _) k.number || keeps_dead k.message) (fewer_without (is_offered_as m.correlation row) row.kept)) h) a)

      at : (o : Option Row) → IfSome o RowHeld
          → Accords rest (option_map_or (λ k. dead_for m.class (with_finished m.correlation s index k) k.message) (option_and_then (kept_named m.correlation) o) s)
      at None r = a
      at (Some row) r = each (kept_named m.correlation row) (first_holds (λ k. is_express k.message.delivery ≡ false) (is_offered_as m.correlation row) row.kept r)

  final_accords : (s : State) (m : Message) → Accords rest s → Accords rest (final_stored s m).state
  final_accords s m a = at (peer_known s m.id.qm)
    where
      by : (o : Option ℕ) → Accords rest (option_map_or (finished_at s m) o s)
      by None = a
      by (Some index) = finished_accords s m index a

      at : (o : Option ℕ) → Accords rest (option_map_or (λ peer. finished_by s peer m) o s)
      at None = a
      at (Some peer) = by (index_finished s peer m)

-- What arrives. The connection may then owe for as many rows as there are after it.
module _ (rest after : Rest) (e : after.session ≡ rest.session) where
  decided_accords : (now : ℕ) (s : State) (p : UserPacket) (tx : TxHead) → length after.cursors ≤ length s.outs → length after.owes ≤ length (with_decided s p.message tx).ins
      → is_express p.message.delivery ≡ false → Accords rest s → Accords after (message_decided now s p tx).state
  decided_accords now s p tx cursors owes durable a = arrived_accords after with_row_set p.message now (refusal_of s p) (refusal_known s p)
      (λ none. subst IsHere (sym (resolved_stays s with_row_set.ins p.message.destination)) (refusal_here s p none)) (durable_apt headers.Bare p.message durable)
      (ins_accord rest after s with_row_set.ins e cursors owes a)
    where
      with_row_set : State
      with_row_set = with_decided s p.message tx

  again : (s : State) → length after.cursors ≤ length s.outs → length after.owes ≤ length s.ins → Accords rest s → Accords after s
  again s cursors owes a = rests_accord rest after s (subst (IsLinked s.identity s.peers s.plain) (sym e) a.linked) cursors owes a

  pub part_accords : (now : ℕ) (x : Effect) (part : Part) → length after.cursors ≤ length x.state.outs → length after.owes ≤ length (ins_after x.state.ins part)
      → IsDurablePart part → Accords rest x.state → Accords after (part_made now x part).state
  part_accords now x entry.Nothing cursors owes durable a = again x.state cursors owes a
  part_accords now x (entry.Decided p) cursors owes durable a = at p.tx owes
    where
      at : (o : Option TxHead) → length after.owes ≤ length (option_map_or (λ tx. (with_decided x.state p.message tx).ins) o x.state.ins)
          → Accords after (option_map_or (λ tx. joined x (message_decided now x.state p tx)) o x).state
      at None le = again x.state cursors le a
      at (Some tx) le = decided_accords now x.state p tx cursors le durable a
  part_accords now x (entry.Stored p) cursors owes durable a = arrived_accords after x.state p.message now (storing_refusal x.state p) (storing_known x.state p) (storing_here x.state p)
      (durable_apt headers.Bare p.message durable) (again x.state cursors owes a)
  part_accords now x (entry.OrderAcknowledged ordinal number) cursors owes durable a = row_accords after x.state (acknowledged number) ordinal (acked_kept after number) (again x.state cursors owes a)
  part_accords now x (entry.Final p) cursors owes durable a = final_accords after x.state p.message (again x.state cursors owes a)

  pub arrival_accords : (now : ℕ) (s : State) (numbers : List ℕ) (part : Part) → length after.cursors ≤ length s.outs → length after.owes ≤ length (ins_after s.ins part)
      → IsDurablePart part → Accords rest s → Accords after (arrived_effect s now numbers part).state
  arrival_accords now s numbers part cursors owes durable a = part_accords now (releases_made s numbers) part
      (subst (λ outs. length after.cursors ≤ length outs) (sym (released_outs (begun s) numbers)) cursors)
      (subst (λ ins. length after.owes ≤ length (ins_after ins part)) (sym (released_ins (begun s) numbers)) owes)
      durable (releases_accord rest (begun s) numbers a)
