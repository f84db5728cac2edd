-- No record changes the identity of a manager.
use Rattle.std.proofs.Common.{refl}
use Rattle.std.specs.List.{AllByRecursion}
use Rattle.std.specs.Option.{option_map_or}
use Rattle.std.specs.Prelude.{◌∷◌, ◌≡◌, [], Bool, IfSome, IsTrue, List, None, Option, Some, cond, false, fold, length, option_and_then, slice_get, true, ℕ}
use Rattle.mqb_base.specs.Bits.{keeps_copy}
use Rattle.mqb_base.specs.Classes.{is_class, is_negative}
use Rattle.mqb_base.specs.declared.class.Class.{Class}
use Rattle.mqb_base.specs.declared.class.TheConstants.Class.{REACHED_QUEUE, REACH_TIMEOUT}
use Rattle.mqb_base.specs.declared.heads.TxHead.{TxHead}
use Rattle.mqb_base.specs.declared.ids.Identity.{Identity}
use Rattle.mqb_base.specs.declared.ids.MessageId.{MessageId}
use Rattle.mqb_base.specs.declared.message.Delivery.{Delivery}
use Rattle.mqb_base.specs.declared.message.Delivery.TheVariants as delivery
use Rattle.mqb_base.specs.declared.message.Lane.TheVariants as lane
use Rattle.mqb_base.specs.declared.message.Message.{Message}
use Rattle.mqb_base.specs.declared.queues.EntryPlace.{EntryPlace}
use Rattle.mqb_base.specs.declared.queues.EntryPlace.TheVariants as place
use Rattle.mqb_entries.specs.declared.members.Mark.{Mark}
use Rattle.mqb_orders.specs.Rows.{Row}
use Rattle.mqb_orders.specs.declared.kept.Kept.{Kept}
use Rattle.mqb_plain.specs.Plain.{PlainLists}
use Rattle.mqb_queue.specs.First.{index_named}
use Rattle.mqb_queue.specs.Places.{Queue}
use Rattle.mqb_model.specs.declared.target.Target.{Target}
use Rattle.mqb_model.specs.declared.target.Target.TheVariants.{AtPeer, Here, Nowhere}
use Rattle.mqb_model.specs.laws.Keeping.{RecordsKeepIdentities}
use Rattle.mqb_model.specs.records.Applying.{apply}
use Rattle.mqb_model.specs.records.Arrived.{part_made}
use Rattle.mqb_model.specs.records.Commit.{op_taken, send_made, sends_numbered, sends_of, takes_made}
use Rattle.mqb_model.specs.records.Decisions.{message_decided, with_decided}
use Rattle.mqb_model.specs.records.Finals.{dead_for, final_stored, finished_at, finished_by, index_finished, kept_named, with_finished}
use Rattle.mqb_model.specs.records.Offered.{mark_raised}
use Rattle.mqb_model.specs.records.Record.{Part, Record, RecordOp, Send, Take}
use Rattle.mqb_model.specs.records.Record as entry
use Rattle.mqb_model.specs.records.Releases.{message_released, releases_made}
use Rattle.mqb_model.specs.rules.Arrivals.{refusal_of, storing_refusal}
use Rattle.mqb_model.specs.rules.Effects.{Effect, begun, joined}
use Rattle.mqb_model.specs.rules.Notices.{arrived, meets}
use Rattle.mqb_model.specs.rules.Numbers.{number_taken, numbers_taken}
use Rattle.mqb_model.specs.rules.Sends.{committed_to, delivered, journalled}
use Rattle.mqb_model.specs.rules.Sequences.{join, new_sequence, sequence_in_use, with_kept, with_sequence}
use Rattle.mqb_model.specs.rules.Takes.{taken, taken_at}
use Rattle.mqb_model.specs.rules.Timeouts.{expiring, expiring_in, lane_ticked, message_expired, next_expired, row_expired, rows_expired, with_expired}
use Rattle.mqb_model.specs.state.Places.{placed, put_at}
use Rattle.mqb_model.specs.state.Resolving.{peer_known, resolved}
use Rattle.mqb_model.specs.state.Rows.{with_row}
use Rattle.mqb_model.specs.state.State.{State}
use Rattle.mqb_model.proofs.Accepting.{Known, refusal_known, storing_known}
use Rattle.mqb_model.proofs.Cores.{Any, all_any, any_some, if_any}
use Rattle.mqb_model.proofs.Departing.{for_each_keeps, repeated_keeps}
use Rattle.mqb_model.proofs.Walking.{Outlasts, OutlastsLeaving, meets_outlasts, purged_outlasts, taken_at_outlasts, ticked_outlasts}

module _ (own : Identity) where
  -- a state of this manager
  abbrev Owns : State → Type 0
  Owns s = s.identity ≡ own

  placed_own : (s : State) (t : Target) (m : Message) → Owns s → Owns (placed s t m)
  placed_own s (Here None) m h = h
  placed_own s (Here (Some number)) m h = h
  placed_own s (AtPeer k) m h = h
  placed_own s Nowhere m h = h

  number_own : (s : State) (d : Delivery) → Owns s → Owns (number_taken s d)
  number_own s delivery.Express h = h
  number_own s d h = h

  own_outlasts : Outlasts Any Any Owns
  own_outlasts = record {
    admin = λ s m class now l known h. any_some _;
    final = λ s peer m class now l h. any_some _;
    told = λ s t n i goes h. placed_own (number_taken s n.delivery) t n (number_own s n.delivery h);
    dead = λ s m l h. h;
    dead_xact = λ s m l h. h;
  }

  own_leaving : OutlastsLeaving lane.Durable Any Owns
  own_leaving = record {
    item = λ s at k h. any_some _;
    leaves = λ s at k h. h;
    copy = λ s number m l h. h;
    waiting = λ s k h. if_any {X = PlainLists} (λ p. AllByRecursion (λ o. Unit {0}) p.recoverable) _ (λ p. all_any p.recoverable);
    dropped = λ index s k h. h;
    queued = λ s k h. if_any {X = Queue} (λ q. AllByRecursion Any q.lists.durable) _ (λ q. all_any q.lists.durable);
  }

  meets_own : (s : State) (m : Message) (class : Class) (now : ℕ) → IsTrue (is_class class.0) → Owns s → Owns (meets s m class now)
  meets_own s m class now known h = meets_outlasts Any Any Owns own_outlasts s m class now tt known h

  -- Takes and ticks.

  taken_own : (at : EntryPlace) (id : MessageId) (now : ℕ) (e : Effect) → Owns e.state → Owns (taken at id now e).state
  taken_own at id now e h = of (index_named e.state.places at id now)
    where
      of : (o : Option ℕ) → Owns (option_map_or (λ k. taken_at lane.Durable at k now e) o e).state
      of None = h
      of (Some k) = taken_at_outlasts lane.Durable Any Any Owns own_outlasts own_leaving at k now e h

  expired_own : (now k : ℕ) (e : Effect) → Owns e.state → Owns (next_expired now k e).state
  expired_own now k e h = at (slice_get e.state.outs k)
    where
      each : (row : Row) (o : Option Kept) → Owns (option_map_or (λ kept. joined e (message_expired now k e.state row kept)) o e).state
      each row None = h
      each row (Some kept) = meets_own (with_expired now e.state k) kept.message REACH_TIMEOUT now refl h

      at : (o : Option Row) → Owns (option_map_or (λ row. option_map_or (λ kept. joined e (message_expired now k e.state row kept)) (expiring now row) e) o e).state
      at None = h
      at (Some row) = each row (expiring now row)

  ticked_own : (now : ℕ) (s : State) → Owns s → Owns (lane_ticked lane.Durable now (rows_expired now (begun s))).state
  ticked_own now s h = ticked_outlasts lane.Durable Any Any Owns own_outlasts own_leaving now (rows_expired now (begun s))
      (for_each_keeps (λ e. Owns e.state) (row_expired now) (length s.outs) (begun s)
      (λ k e h. repeated_keeps (λ e. Owns e.state) (next_expired now k) (option_map_or (expiring_in now) (slice_get e.state.outs k) 0) e (λ e h. expired_own now k e h) h) h)

  -- Transactions and plain messages.

  journalled_own : (s : State) (m : Message) → Owns s → Owns (journalled s m)
  journalled_own s m h = at (keeps_copy m)
    where
      at : (b : Bool) → Owns (cond b (put_at s place.Journal m) s)
      at true = h
      at false = h

  delivered_own : (s : State) (t : Target) (m : Message) (now : ℕ) → Owns s → Owns (delivered s t m now)
  delivered_own s (AtPeer k) m now h = h
  delivered_own s (Here queue) m now h = meets_own (placed s (Here queue) m) m REACHED_QUEUE now refl (placed_own s (Here queue) m h)
  delivered_own s Nowhere m now h = meets_own s m REACHED_QUEUE now refl h

  join_own : (s : State) (peer now : ℕ) (m : Message) → Owns s → Owns (join s peer now m)
  join_own s peer now m h = at (sequence_in_use s peer m.destination)
    where
      at : (o : Option Row) → Owns (option_map_or (λ row. with_row (with_kept m) s row.sequence.ordinal) o
          (with_sequence s (with_kept m (new_sequence s peer m.destination now))))
      at None = h
      at (Some row) = h

  committed_own : (now : ℕ) (s : State) (t : Target) (m : Message) → Owns s → Owns (committed_to now s t m).state
  committed_own now s (AtPeer k) m h = join_own s k now m h
  committed_own now s (Here queue) m h = delivered_own s (Here queue) m now h
  committed_own now s Nowhere m h = delivered_own s Nowhere m now h

  sends_own : (now : ℕ) (e : Effect) (ms : List Message) → Owns e.state → Owns (fold (send_made now) e ms).state
  sends_own now e [] h = h
  sends_own now e (m ∷ ms) h = sends_own now (send_made now e m) ms
      (committed_own now (journalled e.state m) (resolved e.state m.destination) m (journalled_own e.state m h))

  takes_own : (now : ℕ) (e : Effect) (ops : List RecordOp) → Owns e.state → Owns (fold (op_taken now) e ops).state
  takes_own now e [] h = h
  takes_own now e (Send p ∷ ops) h = takes_own now e ops h
  takes_own now e (Take queue id ∷ ops) h = takes_own now (op_taken now e (Take queue id)) ops (taken_own (place.Queue queue) id now e h)

  marks_own : (s : State) (marks : List Mark) → Owns s → Owns (fold mark_raised s marks)
  marks_own s [] h = h
  marks_own s (mark ∷ marks) h = marks_own (mark_raised s mark) marks h

  -- What arrives.

  releases_own : (e : Effect) (numbers : List ℕ) → Owns e.state → Owns (fold message_released e numbers).state
  releases_own e [] h = h
  releases_own e (number ∷ numbers) h = releases_own (message_released e number) numbers h

  dead_own : (class : Class) (s : State) (m : Message) → Owns s → Owns (dead_for class s m)
  dead_own class s m h = at (is_negative class.0)
    where
      at : (b : Bool) → Owns (cond b (put_at s place.DeadXact m) s)
      at true = h
      at false = h

  finished_own : (s : State) (m : Message) (index : ℕ) → Owns s → Owns (finished_at s m index)
  finished_own s m index h = at (option_and_then (kept_named m.correlation) (slice_get s.outs index))
    where
      at : (o : Option Kept) → Owns (option_map_or (λ k. dead_for m.class (with_finished m.correlation s index k) k.message) o s)
      at None = h
      at (Some k) = dead_own m.class (with_finished m.correlation s index k) k.message h

  final_own : (s : State) (m : Message) → Owns s → Owns (final_stored s m).state
  final_own s m h = at (peer_known s m.id.qm)
    where
      by : (o : Option ℕ) → Owns (option_map_or (finished_at s m) o s)
      by None = h
      by (Some index) = finished_own s m index h

      at : (o : Option ℕ) → Owns (option_map_or (λ peer. finished_by s peer m) o s)
      at None = h
      at (Some peer) = by (index_finished s peer m)

  arrived_own : (s : State) (m : Message) (now : ℕ) (refusal : Option Class) → IfSome refusal Known → Owns s → Owns (arrived s m now refusal)
  arrived_own s m now None known h = meets_own (placed s (resolved s m.destination) m) m REACHED_QUEUE now refl (placed_own s (resolved s m.destination) m h)
  arrived_own s m now (Some class) known h = meets_own s m class now known h

  part_own : (now : ℕ) (e : Effect) (part : Part) → Owns e.state → Owns (part_made now e part).state
  part_own now e entry.Nothing h = h
  part_own now e (entry.Decided p) h = at p.tx
    where
      at : (o : Option TxHead) → Owns (option_map_or (λ tx. joined e (message_decided now e.state p tx)) o e).state
      at None = h
      at (Some tx) = arrived_own (with_decided e.state p.message tx) p.message now (refusal_of e.state p) (refusal_known e.state p) h
  part_own now e (entry.Stored p) h = arrived_own e.state p.message now (storing_refusal e.state p) (storing_known e.state p) h
  part_own now e (entry.OrderAcknowledged ordinal number) h = h
  part_own now e (entry.Final p) h = final_own e.state p.message h

  applied_own : (s : State) (r : Record) → Owns s → Owns (apply s r)
  applied_own s (entry.Identity identity) h = h
  applied_own s (entry.Peer peer) h = h
  applied_own s (entry.CreateQueue number plan) h = h
  applied_own s (entry.Commit now ops) h = sends_own now (takes_made s now ops) (sends_of ops) (takes_own now (sends_numbered s ops) ops h)
  applied_own s (entry.Plain now p) h = delivered_own (journalled (numbers_taken s 1) p.message) (resolved (numbers_taken s 1) p.message.destination) p.message now
      (journalled_own (numbers_taken s 1) p.message h)
  applied_own s (entry.Offered marks) h = marks_own s marks h
  applied_own s (entry.Arrived now numbers part) h = part_own now (releases_made s numbers) part (releases_own (begun s) numbers h)
  applied_own s (entry.Taken now at id) h = taken_own at id now (begun s) h
  applied_own s (entry.Purged now at) h = purged_outlasts lane.Durable Any Any Owns own_outlasts own_leaving at now (begun s) h
  applied_own s (entry.Ticked now) h = ticked_own now s h
  applied_own s (entry.Set setting) h = h

pub records_keep_identities : RecordsKeepIdentities
records_keep_identities s r = applied_own s.identity s r refl
