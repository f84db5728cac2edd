-- What records and what is done beside them keep of the plain messages that wait.
use Rattle.std.proofs.Common.{sym, ◌∙◌}
use Rattle.std.specs.List.{AllByRecursion}
use Rattle.std.specs.Option.{option_map_or}
use Rattle.std.specs.Prelude.{[], ◌∷◌, Bool, List, None, Option, Some, cond, false, fold, length, option_and_then, position, slice_get, true, ℕ}
use Rattle.mqb_base.specs.Classes.{is_negative}
use Rattle.mqb_base.specs.declared.class.TheConstants.Class.{REACHED_QUEUE, REACH_TIMEOUT}
use Rattle.mqb_base.specs.declared.heads.TxHead.{TxHead}
use Rattle.mqb_base.specs.declared.ids.Guid.{Guid}
use Rattle.mqb_base.specs.declared.ids.MessageId.{MessageId}
use Rattle.mqb_base.specs.declared.message.Delivery.TheVariants as delivery
use Rattle.mqb_base.specs.declared.message.Lane.{Lane}
use Rattle.mqb_base.specs.declared.message.Lane.TheVariants as lane
use Rattle.mqb_base.specs.declared.message.Message.{Message}
use Rattle.mqb_base.specs.declared.queues.EntryPlace.{EntryPlace}
use Rattle.mqb_base.specs.declared.queues.EntryPlace.TheVariants as place
use Rattle.mqb_entries.specs.declared.members.Mark.{Mark}
use Rattle.mqb_orders.specs.Rows.{Row}
use Rattle.mqb_plain.specs.Plain.{PlainLists}
use Rattle.mqb_queue.specs.First.{index_named}
use Rattle.mqb_model.specs.Lists.{with_changed}
use Rattle.mqb_model.specs.declared.target.Target.{Target}
use Rattle.mqb_model.specs.declared.target.Target.TheVariants.{AtPeer, Here, Nowhere}
use Rattle.mqb_model.specs.managers.Beside.{Beside, all_unmarked, beside_done, without_acked}
use Rattle.mqb_model.specs.managers.Beside as beside
use Rattle.mqb_model.specs.records.Applying.{apply}
use Rattle.mqb_model.specs.records.Arrived.{part_made}
use Rattle.mqb_model.specs.records.Commit.{op_taken, send_made, sends_numbered, sends_of, takes_made}
use Rattle.mqb_model.specs.records.Decisions.{message_decided, with_decided}
use Rattle.mqb_model.specs.records.Finals.{dead_for, final_stored, finished_at, finished_by, index_finished, kept_named, with_finished}
use Rattle.mqb_model.specs.records.Offered.{mark_raised}
use Rattle.mqb_model.specs.records.Record.{Part, Record, RecordOp}
use Rattle.mqb_model.specs.records.Record as entry
use Rattle.mqb_model.specs.records.Releases.{has_recoverable, is_released_by, message_released, releases_made, without_recoverable, without_released}
use Rattle.mqb_model.specs.rules.Arrivals.{refusal_of, storing_refusal}
use Rattle.mqb_model.specs.rules.Effects.{Effect, begun, joined}
use Rattle.mqb_model.specs.rules.Numbers.{number_taken, numbers_taken}
use Rattle.mqb_model.specs.rules.Sends.{committed_to, journalled}
use Rattle.mqb_model.specs.rules.Sequences.{new_sequence, sequence_in_use, with_kept, with_sequence}
use Rattle.mqb_model.specs.rules.Takes.{taken, taken_at}
use Rattle.mqb_model.specs.rules.Timeouts.{expiring, expiring_in, message_expired, next_expired, row_expired, rows_expired, with_expired}
use Rattle.mqb_model.specs.state.Places.{put_at, with_plain}
use Rattle.mqb_model.specs.state.Resolving.{peer_known, resolved}
use Rattle.mqb_model.specs.state.Rows.{with_row}
use Rattle.mqb_model.specs.state.State.{State}
use Rattle.mqb_history.proofs.Lists.{all_append, clash}
use Rattle.mqb_history.proofs.Unreleased.{IsBorne, IsOfOwn, IsPlainBeside, PlainWaits, Waits, changed_all, plain_waits, refusal_here, storing_here, unmarked_waits, without_all, meets_waits, taken_at_waits, repeated_waits, each_waits, purged_waits, ticked_waits, journalled_waits, here_waits, sent_waits, arrived_waits, express_waits, put_waits, number_waits, acked_waits}
use Rattle.mqb_history.proofs.Ascending.{without_rise}

module _ (own : Guid) (Bears : Lane → ℕ → MessageId → Type 0) where
  -- Records.

  taken_waits : (at : EntryPlace) (id : MessageId) (now : ℕ) (e : Effect) → Waits own Bears e.state → Waits own Bears (taken at id now e).state
  taken_waits at id now e h = by (index_named e.state.places at id now)
    where
      by : (o : Option ℕ) → Waits own Bears (option_map_or (λ k. taken_at lane.Durable at k now e) o e).state
      by None = h
      by (Some k) = taken_at_waits own Bears lane.Durable at k now e h

  op_waits : (now : ℕ) (e : Effect) (ops : List RecordOp) → Waits own Bears e.state → Waits own Bears (fold (op_taken now) e ops).state
  op_waits now e [] h = h
  op_waits now e (entry.Send p ∷ ops) h = op_waits now e ops h
  op_waits now e (entry.Take queue id ∷ ops) h = op_waits now (taken (place.Queue queue) id now e) ops (taken_waits (place.Queue queue) id now e h)

  to_waits : (now : ℕ) (s : State) (t : Target) (m : Message) → Waits own Bears s → Waits own Bears (committed_to now s t m).state
  to_waits now s (AtPeer k) m h = at (sequence_in_use s k m.destination)
    where
      at : (o : Option Row) → Waits own Bears (option_map_or (λ row. with_row (with_kept m) s row.sequence.ordinal) o
          (with_sequence s (with_kept m (new_sequence s k m.destination now))))
      at None = record { identity = h.identity; plain = h.plain }
      at (Some row) = record { identity = h.identity; plain = h.plain }
  to_waits now s (Here queue) m h = here_waits own Bears s queue m now h
  to_waits now s Nowhere m h = meets_waits own Bears s m REACHED_QUEUE now h

  sends_wait : (now : ℕ) (e : Effect) (ms : List Message) → Waits own Bears e.state → Waits own Bears (fold (send_made now) e ms).state
  sends_wait now e [] h = h
  sends_wait now e (m ∷ ms) h = sends_wait now (send_made now e m) ms
      (to_waits now (journalled e.state m) (resolved e.state m.destination) m (journalled_waits own Bears e.state m h))

  marks_wait : (s : State) (marks : List Mark) → Waits own Bears s → Waits own Bears (fold mark_raised s marks)
  marks_wait s [] h = h
  marks_wait s (mark ∷ marks) h = marks_wait (mark_raised s mark) marks (record { identity = h.identity; plain = h.plain })

  released_waits : (s : State) (number : ℕ) → Waits own Bears s → Waits own Bears (without_released s number)
  released_waits s number h = record { identity = h.identity; plain = at (position (has_recoverable s number) s.plain) }
    where
      fewer : (p : PlainLists) → PlainWaits own Bears p → PlainWaits own Bears (without_recoverable s number p)
      fewer p g = record {
        recoverable = without_all (IsBorne own (Bears lane.Durable)) (is_released_by s number) p.recoverable g.recoverable;
        express = g.express;
        recoverable_rises = without_rise (is_released_by s number) p.recoverable g.recoverable_rises;
        express_rises = g.express_rises;
      }

      at : (o : Option ℕ) → AllByRecursion (PlainWaits own Bears) (option_map_or (with_changed (without_recoverable s number) s.plain) o s.plain)
      at None = h.plain
      at (Some k) = changed_all (PlainWaits own Bears) (without_recoverable s number) s.plain k fewer h.plain

  pub releases_wait : (e : Effect) (numbers : List ℕ) → Waits own Bears e.state → Waits own Bears (fold message_released e numbers).state
  releases_wait e [] h = h
  releases_wait e (n ∷ ns) h = releases_wait (message_released e n) ns (released_waits e.state n h)

  finished_waits : (s : State) (m : Message) (index : ℕ) → Waits own Bears s → Waits own Bears (finished_at s m index)
  finished_waits s m index h = at (option_and_then (kept_named m.correlation) (slice_get s.outs index))
    where
      dead : (t : State) (x : Message) (b : Bool) → Waits own Bears t → Waits own Bears (cond b (put_at t place.DeadXact x) t)
      dead t x true g = put_waits own Bears t place.DeadXact x g
      dead t x false g = g

      at : (o : Option _) → Waits own Bears (option_map_or (λ k. dead_for m.class (with_finished m.correlation s index k) k.message) o s)
      at None = h
      at (Some k) = dead (with_finished m.correlation s index k) k.message (is_negative m.class.0) (record { identity = h.identity; plain = h.plain })

  final_waits : (s : State) (m : Message) → Waits own Bears s → Waits own Bears (final_stored s m).state
  final_waits s m h = at (peer_known s m.id.qm)
    where
      by : (peer : ℕ) (o : Option ℕ) → Waits own Bears (option_map_or (finished_at s m) o s)
      by peer None = h
      by peer (Some index) = finished_waits s m index h

      at : (o : Option ℕ) → Waits own Bears (option_map_or (λ peer. finished_by s peer m) o s)
      at None = h
      at (Some peer) = by peer (index_finished s peer m)

  part_waits : (now : ℕ) (e : Effect) (part : Part) → Waits own Bears e.state → Waits own Bears (part_made now e part).state
  part_waits now e entry.Nothing h = h
  part_waits now e (entry.Decided p) h = at p.tx
    where
      at : (o : Option TxHead) → Waits own Bears (option_map_or (λ tx. joined e (message_decided now e.state p tx)) o e).state
      at None = h
      at (Some tx) = arrived_waits own Bears (with_decided e.state p.message tx) p.message now (refusal_of e.state p) (refusal_here e.state p)
          (record { identity = h.identity; plain = h.plain })
  part_waits now e (entry.Stored p) h = arrived_waits own Bears e.state p.message now (storing_refusal e.state p) (storing_here e.state p) h
  part_waits now e (entry.OrderAcknowledged ordinal number) h = record { identity = h.identity; plain = h.plain }
  part_waits now e (entry.Final p) h = final_waits e.state p.message h

  expired_waits : (now k : ℕ) (e : Effect) → Waits own Bears e.state → Waits own Bears (next_expired now k e).state
  expired_waits now k e h = at (slice_get e.state.outs k)
    where
      by : (row : Row) (o : Option _) → Waits own Bears (option_map_or (λ kept. joined e (message_expired now k e.state row kept)) o e).state
      by row None = h
      by row (Some kept) = meets_waits own Bears (with_expired now e.state k) kept.message REACH_TIMEOUT now (record { identity = h.identity; plain = h.plain })

      at : (o : Option Row) → Waits own Bears (option_map_or (λ row. option_map_or (λ kept. joined e (message_expired now k e.state row kept)) (expiring now row) e) o e).state
      at None = h
      at (Some row) = by row (expiring now row)

  expiring_waits : (now : ℕ) (e : Effect) → Waits own Bears e.state → Waits own Bears (rows_expired now e).state
  expiring_waits now e h = each_waits own Bears (row_expired now)
      (λ k f g. repeated_waits own Bears (next_expired now k) (expired_waits now k) (option_map_or (expiring_in now) (slice_get f.state.outs k) 0) f g) (length e.state.outs) e h

  pub applied_waits : (s : State) (r : Record) → IsOfOwn own r → Waits own Bears s → Waits own Bears (apply s r)
  applied_waits s (entry.Identity identity) o h = h
  applied_waits s (entry.Peer peer) o h = record {
    identity = h.identity;
    plain = all_append (PlainWaits own Bears) s.plain (record { recoverable = []; express = [] } ∷ []) h.plain (record { recoverable = tt; express = tt; recoverable_rises = tt; express_rises = tt }, tt);
  }
  applied_waits s (entry.CreateQueue number plan) o h = record { identity = h.identity; plain = h.plain }
  applied_waits s (entry.Commit now ops) o h = sends_wait now (takes_made s now ops) (sends_of ops)
      (op_waits now (sends_numbered s ops) ops (record { identity = h.identity; plain = h.plain }))
  applied_waits s (entry.Plain now p) o h = sent_waits own Bears (numbers_taken s 1) p.message now (λ e. o) (record { identity = h.identity; plain = h.plain })
  applied_waits s (entry.Offered marks) o h = marks_wait s marks h
  applied_waits s (entry.Arrived now numbers part) o h = part_waits now (releases_made s numbers) part (releases_wait (begun s) numbers h)
  applied_waits s (entry.Taken now at id) o h = taken_waits at id now (begun s) h
  applied_waits s (entry.Purged now at) o h = purged_waits own Bears lane.Durable at now (begun s) h
  applied_waits s (entry.Ticked now) o h = ticked_waits own Bears lane.Durable now
      (rows_expired now (begun s)) (expiring_waits now (begun s) h)
  applied_waits s (entry.Set setting) o h = record { identity = h.identity; plain = h.plain }

  -- Beside them.

  pub beside_waits : (b : Beside) (s : State) → IsPlainBeside b → Waits own Bears s → Waits own Bears (beside_done b s)
  beside_waits beside.Nothing s q h = h
  beside_waits (beside.SendsExpress now m) s q h = sent_waits own Bears (number_taken s delivery.Express) m now (λ f. absurd (clash (sym q ∙ f))) (number_waits own Bears s delivery.Express h)
  beside_waits (beside.TakesExpress now at index) s q h = taken_at_waits own Bears lane.Express at index now (begun s) h
  beside_waits (beside.PurgesExpress now at) s q h = purged_waits own Bears lane.Express at now (begun s) h
  beside_waits (beside.TicksExpress now) s q h = ticked_waits own Bears lane.Express now (begun s) h
  beside_waits beside.Unmarks s q h = unmarked_waits own Bears Bears s h
  beside_waits (beside.DropsExpress peer number) s q h = plain_waits own Bears s peer (without_acked number) (acked_waits own Bears number) h
  beside_waits (beside.HearsExpress peer number now m refusal) s q h = express_waits own Bears (with_plain (without_acked number) s peer) m now refusal q
      (plain_waits own Bears s peer (without_acked number) (acked_waits own Bears number) h)
  beside_waits (beside.NotesSent peer sent) s q h = absurd q
