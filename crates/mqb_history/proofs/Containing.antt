-- Where something holds of all messages that a manager has, it holds of them behind each record whose messages it holds of, and beside it.
use Rattle.std.proofs.Common.{refl, subst, sym}
use Rattle.std.specs.List.{AllByRecursion}
use Rattle.std.specs.Option.{option_map_or}
use Rattle.std.specs.Prelude.{[], ◌&&◌, ◌+◌, ◌==◌, ◌||◌, ◌∷◌, ◌≤◌, Bool, IfSome, List, None, Option, Some, cond, false, fold, is_none, length, map, max, nat_le, nat_lt, not, option_and_then, option_map, position, slice_get, true, unwrap_or, ℕ}
use Rattle.mqb_base.specs.Bits.{keeps_dead}
use Rattle.mqb_base.specs.Classes.{is_negative}
use Rattle.mqb_base.specs.declared.class.Class.{Class}
use Rattle.mqb_base.specs.declared.class.TheConstants.Class.{BAD_DESTINATION, MESSAGE_NOT_TRANSACTIONAL, QUEUE_NOT_TRANSACTIONAL, QUOTA_EXCEEDED, REACH_TIMEOUT}
use Rattle.mqb_base.specs.declared.heads.SessionHead.{SessionHead}
use Rattle.mqb_base.specs.declared.heads.TxHead.{TxHead}
use Rattle.mqb_base.specs.declared.ids.Identity.{Identity}
use Rattle.mqb_base.specs.declared.ids.MessageId.{MessageId}
use Rattle.mqb_base.specs.declared.message.Delivery.{Delivery}
use Rattle.mqb_base.specs.declared.message.Delivery.TheVariants as delivery
use Rattle.mqb_base.specs.declared.message.Lane.{Lane}
use Rattle.mqb_base.specs.declared.message.Lane.TheVariants as lane
use Rattle.mqb_base.specs.declared.message.Message.{Message}
use Rattle.mqb_base.specs.declared.queues.EntryPlace.TheVariants as place
use Rattle.mqb_entries.specs.declared.members.Mark.{Mark}
use Rattle.mqb_fate.specs.Asking.{is_transactional}
use Rattle.mqb_model.specs.Lists.{first_where, with_changed, with_first_changed, without_first}
use Rattle.mqb_model.specs.declared.target.Target.{Target}
use Rattle.mqb_model.specs.declared.target.Target.TheVariants.{AtPeer, Here, Nowhere}
use Rattle.mqb_model.specs.managers.Beside.{Beside, Origin, all_unmarked, noted, noted_as, with_marked, without_acked}
use Rattle.mqb_model.specs.managers.Beside as beside
use Rattle.mqb_model.specs.records.Applying.{apply}
use Rattle.mqb_model.specs.records.Arrived.{part_made}
use Rattle.mqb_model.specs.records.Commit.{op_taken, send_made, sends_numbered, sends_of, takes_made}
use Rattle.mqb_model.specs.records.Decisions.{message_decided, with_decided}
use Rattle.mqb_model.specs.records.Finals.{dead_for, finished_at, finished_by, finished_row, index_finished, is_offered_as, kept_named, with_finished}
use Rattle.mqb_model.specs.records.Offered.{mark_raised, with_offered}
use Rattle.mqb_model.specs.records.Record.{Part, Record, RecordOp}
use Rattle.mqb_model.specs.records.Record as entry
use Rattle.mqb_model.specs.records.Releases.{has_recoverable, is_released_by, message_released, releases_made, without_recoverable}
use Rattle.mqb_model.specs.rules.Arrivals.{is_recorded, refusal_by, refusal_of, storing_refusal, target_refusal}
use Rattle.mqb_model.specs.rules.Effects.{Effect, begun, joined}
use Rattle.mqb_model.specs.rules.Numbers.{number_taken, numbers_taken, own_id}
use Rattle.mqb_model.specs.rules.Sends.{committed_to, journalled}
use Rattle.mqb_model.specs.rules.Sequences.{join, new_sequence, sequence_in_use, with_kept, with_sequence}
use Rattle.mqb_model.specs.rules.Takes.{taken}
use Rattle.mqb_model.specs.rules.Timeouts.{expires, expiring, expiring_in, message_expired, next_expired, row_expired, rows_expired, with_expired, without_expired}
use Rattle.mqb_model.specs.state.Durable.{durable, durable_lists, durable_plain, durable_queue}
use Rattle.mqb_model.specs.state.Places.{put_at, with_plain}
use Rattle.mqb_model.specs.state.Resolving.{is_for_order_layer, peer_known, resolved}
use Rattle.mqb_model.specs.state.Rows.{has_ordinal, with_row}
use Rattle.mqb_model.specs.state.State.{State, empty}
use Rattle.mqb_network.specs.Network.{formatted, manager_at, nobody, others}
use Rattle.mqb_network.specs.Runs.{beginning}
use Rattle.mqb_orders.specs.Rows.{Row, acknowledged}
use Rattle.mqb_orders.specs.declared.kept.Kept.{Kept}
use Rattle.mqb_packet.specs.declared.packet.UserPacket.{UserPacket}
use Rattle.mqb_plain.specs.Lists.{is_sent_by, marked_next, unmarked}
use Rattle.mqb_plain.specs.Plain.{PlainLists, no_plain}
use Rattle.mqb_plain.specs.declared.outgoing.Outgoing.{Outgoing}
use Rattle.mqb_queue.specs.Arrival.{length_met, queue_refusal}
use Rattle.mqb_queue.specs.Lists.{Lists}
use Rattle.mqb_queue.specs.Places.{Queue, new_queue, numbered}
use Rattle.mqb_session.specs.State.{no_guid}
use Rattle.mqb_history.proofs.Contents.{Holds, IsCarried, IsOfNotices, ListsHold, Now, PlainHolds, RowHolds, Waits, all_still, arrived_now, delivered_now, each_now, express_now, journalled_now, meets_now, next_id, now_or, plain_holds, purged_now, put_holds, repeated_now, still, taken_at_now, taken_now, ticked_now}
use Rattle.mqb_history.proofs.Applying.{ops_taken_rows, releases_rows, sent_manager}
use Rattle.mqb_history.proofs.Having.{QueueHas, get_holds}
use Rattle.mqb_history.proofs.Lists.{all_append, all_filter}
use Rattle.mqb_history.proofs.Numbering.{sends_numbers}
use Rattle.mqb_history.proofs.Orderly.{map_get}
use Rattle.mqb_history.proofs.Staying.{IsSameManager}
use Rattle.mqb_history.proofs.Unreleased.{changed_all, without_all}

-- What is so of each class with which an arrival is refused is so of that of a refusal.

pub record OfRefusals (Q : Class → Type 0) : Type 0 where
  pub late : Q REACH_TIMEOUT
  pub nowhere : Q BAD_DESTINATION
  pub of_queue : Q QUEUE_NOT_TRANSACTIONAL
  pub of_message : Q MESSAGE_NOT_TRANSACTIONAL
  pub full : Q QUOTA_EXCEEDED

module _ (Q : Class → Type 0) (h : OfRefusals Q) where
  queue_class : (q : Queue) (messages : ℕ) (t : Bool) → IfSome (queue_refusal q.plan messages t) Q
  queue_class q messages t = at (t && not q.plan.transactional) (not t && q.plan.transactional) (nat_le q.plan.quota messages)
    where
      at : (a b c : Bool) → IfSome (cond a (Some QUEUE_NOT_TRANSACTIONAL) (cond b (Some MESSAGE_NOT_TRANSACTIONAL) (cond c (Some QUOTA_EXCEEDED) None))) Q
      at true b c = h.of_queue
      at false true c = h.of_message
      at false false true = h.full
      at false false false = tt

  target_class : (s : State) (t : Target) (x : Delivery) → IfSome (target_refusal s t x) Q
  target_class s (Here (Some n)) x = at (numbered s.places.queues n)
    where
      at : (o : Option Queue) → IfSome (option_map_or (refusal_by x) o (Some BAD_DESTINATION)) Q
      at None = h.nowhere
      at (Some q) = queue_class q (length_met (is_recorded x) q.lists) (is_transactional x)
  target_class s t x = h.nowhere

  pub class_refused : (s : State) (p : UserPacket) → IfSome (refusal_of s p) Q
  class_refused s p = at (p.remaining == 0)
    where
      at : (b : Bool) → IfSome (cond b (Some REACH_TIMEOUT) (target_refusal s (resolved s p.message.destination) p.message.delivery)) Q
      at true = h.late
      at false = target_class s (resolved s p.message.destination) p.message.delivery

-- So it is of another class than ordinary messages are.

notices_refuse : OfRefusals IsOfNotices
notices_refuse = record { late = refl; nowhere = refl; of_queue = refl; of_message = refl; full = refl }

pub refusal_class : (s : State) (p : UserPacket) → IfSome (refusal_of s p) IsOfNotices
refusal_class s p = class_refused IsOfNotices notices_refuse s p

storing_class : (s : State) (p : UserPacket) → IfSome (storing_refusal s p) IsOfNotices
storing_class s p = at (is_for_order_layer s p.message.destination)
  where
    at : (b : Bool) → IfSome (cond b (Some BAD_DESTINATION) (refusal_of s p)) IsOfNotices
    at true = refl
    at false = refusal_class s p

-- Lists of which a first member is found or changed.

found_holds : {X : Type 0} (Q : X → Type 0) (test : X → Bool) (xs : List X) → AllByRecursion Q xs → IfSome (first_where test xs) Q
found_holds Q test xs h = at (position test xs)
  where
    at : (o : Option ℕ) → IfSome (option_and_then (slice_get xs) o) Q
    at None = tt
    at (Some k) = get_holds Q xs k h

first_holds : {X : Type 0} (Q : X → Type 0) (change : X → X) (test : X → Bool) (xs : List X) → ((x : X) → Q x → Q (change x)) → AllByRecursion Q xs → AllByRecursion Q (with_first_changed change test xs)
first_holds Q change test xs keeps h = at (position test xs)
  where
    at : (o : Option ℕ) → AllByRecursion Q (option_map_or (with_changed change xs) o xs)
    at None = h
    at (Some k) = changed_all Q change xs k keeps h

mapped_holds : {X : Type 0} (Q : X → Type 0) (change : X → X) (xs : List X) → ((x : X) → Q x → Q (change x)) → AllByRecursion Q xs → AllByRecursion Q (map change xs)
mapped_holds Q change [] keeps h = tt
mapped_holds Q change (x ∷ xs) keeps h = (keeps x h.0, mapped_holds Q change xs keeps h.1)

module _ (P : Message → Type 0) where
  -- what a record sends, and what it lets arrive
  abbrev pub PartFine : Part → Type 0
  PartFine (entry.Decided p) = P p.message
  PartFine (entry.Stored p) = P p.message
  PartFine _ = Unit {0}

  abbrev pub IsFine : Record → Type 0
  IsFine (entry.Commit now ops) = AllByRecursion P (sends_of ops)
  IsFine (entry.Plain now p) = P p.message
  IsFine (entry.Arrived now numbers part) = PartFine part
  IsFine _ = Unit {0}

  -- what is sent, or heard, beside a record
  abbrev pub IsFineBeside : Beside → Type 0
  IsFineBeside (beside.SendsExpress now m) = P m
  IsFineBeside (beside.HearsExpress peer number now m refusal) = P m × IfSome refusal IsOfNotices
  IsFineBeside _ = Unit {0}

-- the identifier that a manager gives next, once a record's own messages have their numbers
abbrev pub next_behind : State → Record → MessageId
next_behind s (entry.Commit now ops) = own_id s (s.next_number + length (sends_of ops))
next_behind s (entry.Plain now p) = own_id s (s.next_number + 1)
next_behind s _ = next_id s

module _ (P : Message → Type 0) where
  abbrev Of : Kept → Type 0
  Of k = P k.message

  -- Rows.

  rows_hold : (s : State) (outs : List Row) → AllByRecursion (RowHolds P) outs → Holds P s → Holds P (record s { outs = outs })
  rows_hold s outs g h = record { places = h.places; plain = h.plain; outs = g }

  row_holds : (change : Row → Row) (s : State) (ordinal : ℕ) → ((row : Row) → RowHolds P row → RowHolds P (change row)) → Holds P s → Holds P (with_row change s ordinal)
  row_holds change s ordinal keeps h = rows_hold s (with_first_changed change (has_ordinal ordinal) s.outs) (first_holds (RowHolds P) change (has_ordinal ordinal) s.outs keeps h.outs) h

  joins_holds : (s : State) (m : Message) (ordinal : ℕ) → P m → Holds P s → Holds P (with_row (with_kept m) s ordinal)
  joins_holds s m ordinal g h = row_holds (with_kept m) s ordinal (λ x k. all_append Of x.kept (record { number = x.committed + 1; message = m } ∷ []) k (g, tt)) h

  gone_holds : (now k : ℕ) (s : State) → Holds P s → Holds P (with_expired now s k)
  gone_holds now k s h = rows_hold s (with_changed (without_expired now) s.outs k) (changed_all (RowHolds P) (without_expired now) s.outs k (λ row. without_all Of (expires now row) row.kept) h.outs) h

  acked_holds : (number : ℕ) (row : Row) → RowHolds P row → RowHolds P (acknowledged number row)
  acked_holds number row h = all_filter Of (λ (x : Kept). nat_lt (max row.acked number) x.number || keeps_dead x.message) row.kept h

  finish_holds : (s : State) (m : Message) (index : ℕ) (k : Kept) → Holds P s → Holds P (with_finished m.correlation s index k)
  finish_holds s m index k h = rows_hold s (with_changed (finished_row m.correlation k.number) s.outs index) (changed_all (RowHolds P) (finished_row m.correlation k.number) s.outs index
      (λ row g. all_filter Of (λ (x : Kept). nat_lt (max row.acked k.number) x.number || keeps_dead x.message) (without_first (is_offered_as m.correlation row) row.kept) (without_all Of (is_offered_as m.correlation row) row.kept g)) h.outs) h

  finished_message : (s : State) (m : Message) (index : ℕ) → Holds P s → IfSome (option_and_then (kept_named m.correlation) (slice_get s.outs index)) Of
  finished_message s m index h = there (slice_get s.outs index) (get_holds (RowHolds P) s.outs index h.outs)
    where
      there : (o : Option Row) → IfSome o (RowHolds P) → IfSome (option_and_then (kept_named m.correlation) o) Of
      there None g = tt
      there (Some row) g = found_holds Of (is_offered_as m.correlation row) row.kept g

  -- Lists for peers.

  released_holds : (e : Effect) (n : ℕ) → Holds P e.state → Holds P (message_released e n).state
  released_holds e n h = record {
    places = h.places;
    plain = first_holds (PlainHolds P) (without_recoverable e.state n) (has_recoverable e.state n) e.state.plain (λ p g. (without_all (Waits P) (is_released_by e.state n) p.recoverable g.0, g.1)) h.plain;
    outs = h.outs;
  }

  pub peer_holds : (s : State) (peer : Identity) → Holds P s → Holds P (apply s (entry.Peer peer))
  peer_holds s peer h = record { places = h.places; plain = all_append (PlainHolds P) s.plain (no_plain ∷ []) h.plain ((tt, tt), tt); outs = h.outs }

  unmarked_holds : (os : List Outgoing) → AllByRecursion (Waits P) os → AllByRecursion (Waits P) (unmarked os)
  unmarked_holds [] h = tt
  unmarked_holds (o ∷ os) h = (h.0, unmarked_holds os h.1)

  marked_list : (n : ℕ) (os : List Outgoing) → AllByRecursion (Waits P) os → AllByRecursion (Waits P) (marked_next n os)
  marked_list n [] h = tt
  marked_list n (o ∷ os) h = at (is_none o.mark) (marked_list n os h.1)
    where
      at : (b : Bool) → AllByRecursion (Waits P) (marked_next n os) → AllByRecursion (Waits P) (cond b (record o { mark = Some n } ∷ os) (o ∷ marked_next n os))
      at true rest = (h.0, h.1)
      at false rest = (h.0, rest)

  marked_holds : (kind : Lane) (n : ℕ) (p : PlainLists) → PlainHolds P p → PlainHolds P (with_marked kind n p)
  marked_holds lane.Durable n p h = (marked_list n p.recoverable h.0, h.1)
  marked_holds lane.Express n p h = (h.0, marked_list n p.express h.1)

  acked_plain : (number : ℕ) (p : PlainLists) → PlainHolds P p → PlainHolds P (without_acked number p)
  acked_plain number p h = (h.0, all_filter (Waits P) (λ o. not (is_sent_by number o)) p.express h.1)

  -- A store.

  lists_last : (l : Lists) → ListsHold P l → ListsHold P (durable_lists l)
  lists_last l h = (h.0, tt)

  pub durable_holds : (s : State) → Holds P s → Holds P (durable s)
  durable_holds s h = record {
    places = record {
      queues = mapped_holds (QueueHas (ListsHold P)) durable_queue s.places.queues (λ q g. (lists_last q.lists g.0, lists_last q.journal g.1)) h.places.queues;
      dead = lists_last s.places.dead h.places.dead;
      dead_xact = lists_last s.places.dead_xact h.places.dead_xact;
      journal = lists_last s.places.journal h.places.journal;
    };
    plain = mapped_holds (PlainHolds P) durable_plain s.plain (λ p g. (unmarked_holds p.recoverable g.0, tt)) h.plain;
    outs = h.outs;
  }

  -- A start.

  pub formatted_holds : (own : Identity) (peers : List Identity) → Holds P (formatted own peers).state
  formatted_holds own peers = from (empty own) peers (record {
    places = record { queues = tt; dead = (tt, tt); dead_xact = (tt, tt); journal = (tt, tt) };
    plain = tt;
    outs = tt;
  })
    where
      from : (s : State) (ps : List Identity) → Holds P s → Holds P (fold apply s (map (λ peer. entry.Peer peer) ps))
      from s [] h = h
      from s (p ∷ ps) h = from (apply s (entry.Peer p)) ps (peer_holds s p h)

  pub beginning_holds : (known : List Identity) (j : ℕ) → Holds P (manager_at (beginning known).network j).state
  beginning_holds known j = subst (λ o. Holds P (unwrap_or o nobody).state) (sym (map_get (λ own. formatted own (others known own)) known j)) (at (slice_get known j))
    where
      at : (o : Option Identity) → Holds P (unwrap_or (option_map (λ own. formatted own (others known own)) o) nobody).state
      at None = formatted_holds (record { host = []; guid = no_guid; address = [] }) []
      at (Some own) = formatted_holds own (others known own)

module _ (P : MessageId → Message → Type 0) (c : IsCarried P) where
  join_now : (s : State) (peer now : ℕ) (m : Message) → P (next_id s) m → Now P c s → Now P c (join s peer now m)
  join_now s peer now m g h = at (sequence_in_use s peer m.destination)
    where
      at : (o : Option Row) → Now P c (option_map_or (λ row. with_row (with_kept m) s row.sequence.ordinal) o (with_sequence s (with_kept m (new_sequence s peer m.destination now))))
      at None = record { places = h.places; plain = h.plain; outs = all_append (RowHolds (P (next_id s))) s.outs (with_kept m (new_sequence s peer m.destination now) ∷ []) h.outs ((g, tt), tt) }
      at (Some row) = joins_holds (P (next_id s)) s m row.sequence.ordinal g h

  expired_now : (now k : ℕ) (e : Effect) → Now P c e.state → Now P c (next_expired now k e).state
  expired_now now k e h = by (slice_get e.state.outs k) (get_holds (RowHolds (P (next_id e.state))) e.state.outs k h.outs)
    where
      at : (row : Row) (o : Option Kept) → IfSome o (Of (P (next_id e.state))) → Now P c (option_map_or (λ kept. joined e (message_expired now k e.state row kept)) o e).state
      at row None g = h
      at row (Some kept) g = meets_now P c (with_expired now e.state k) kept.message REACH_TIMEOUT now refl (gone_holds (P (next_id e.state)) now k e.state h, g)

      by : (o : Option Row) → IfSome o (RowHolds (P (next_id e.state))) → Now P c (option_map_or (λ (row : Row). option_map_or (λ kept. joined e (message_expired now k e.state row kept)) (expiring now row) e) o e).state
      by None g = h
      by (Some row) g = at row (expiring now row) (found_holds (Of (P (next_id e.state))) (expires now row) row.kept g)

  expiring_now : (now : ℕ) (e : Effect) → Now P c e.state → Now P c (rows_expired now e).state
  expiring_now now e h = each_now P c (row_expired now) (λ k d. repeated_now P c (next_expired now k) (expired_now now k) (option_map_or (expiring_in now) (slice_get d.state.outs k) 0) d) (length e.state.outs) e h

  finished_now : (s : State) (m : Message) (index : ℕ) → Now P c s → Now P c (finished_at s m index)
  finished_now s m index h = at (option_and_then (kept_named m.correlation) (slice_get s.outs index)) (finished_message (P (next_id s)) s m index h)
    where
      dead : (k : Kept) (b : Bool) → P (next_id s) k.message → Now P c (cond b (put_at (with_finished m.correlation s index k) place.DeadXact k.message) (with_finished m.correlation s index k))
      dead k true g = put_holds (P (next_id s)) (with_finished m.correlation s index k) place.DeadXact k.message g (finish_holds (P (next_id s)) s m index k h)
      dead k false g = finish_holds (P (next_id s)) s m index k h

      at : (o : Option Kept) → IfSome o (Of (P (next_id s))) → Now P c (option_map_or (λ k. dead_for m.class (with_finished m.correlation s index k) k.message) o s)
      at None g = h
      at (Some k) g = dead k (is_negative m.class.0) g

  -- Sends.

  sends_now : (now : ℕ) (e : Effect) (ms : List Message) → AllByRecursion (P (next_id e.state)) ms → Now P c e.state → Now P c (fold (send_made now) e ms).state
  sends_now now e [] g h = h
  sends_now now e (m ∷ ms) g h = sends_now now (send_made now e m) ms (all_still P c e.state (send_made now e m).state (sent_manager now e.state m) (sends_numbers now e (m ∷ [])) ms g.1)
      (at (resolved e.state m.destination))
    where
      at : (target : Target) → Now P c (committed_to now (journalled e.state m) target m).state
      at (AtPeer k) = let j = journalled_now P c e.state m g.0 h in join_now (journalled e.state m) k now m j.1 j.0
      at (Here queue) = delivered_now P c (journalled e.state m) (Here queue) m now (journalled_now P c e.state m g.0 h)
      at Nowhere = delivered_now P c (journalled e.state m) Nowhere m now (journalled_now P c e.state m g.0 h)

  ops_now : (now : ℕ) (e : Effect) (ops : List RecordOp) → Now P c e.state → Now P c (fold (op_taken now) e ops).state
  ops_now now e [] h = h
  ops_now now e (entry.Send p ∷ ops) h = ops_now now e ops h
  ops_now now e (entry.Take queue id ∷ ops) h = ops_now now (taken (place.Queue queue) id now e) ops (taken_now P c (place.Queue queue) id now e h)

  -- Arrivals.

  releases_now : (e : Effect) (numbers : List ℕ) → Now P c e.state → Now P c (fold message_released e numbers).state
  releases_now e [] h = h
  releases_now e (n ∷ ns) h = releases_now (message_released e n) ns (released_holds (P (next_id e.state)) e n h)

  part_now : (now : ℕ) (e : Effect) (part : Part) → PartFine (P (next_id e.state)) part → Now P c e.state → Now P c (part_made now e part).state
  part_now now e entry.Nothing g h = h
  part_now now e (entry.Decided p) g h = at p.tx
    where
      at : (o : Option TxHead) → Now P c (option_map_or (λ tx. joined e (message_decided now e.state p tx)) o e).state
      at None = h
      at (Some tx) = arrived_now P c (with_decided e.state p.message tx) p.message now (refusal_of e.state p) (refusal_class e.state p) g (record { places = h.places; plain = h.plain; outs = h.outs })
  part_now now e (entry.Stored p) g h = arrived_now P c e.state p.message now (storing_refusal e.state p) (storing_class e.state p) g h
  part_now now e (entry.OrderAcknowledged ordinal number) g h = row_holds (P (next_id e.state)) (acknowledged number) e.state ordinal (acked_holds (P (next_id e.state)) number) h
  part_now now e (entry.Final p) g h = now_or P c e.state (λ peer. finished_by e.state peer p.message) (peer_known e.state p.message.id.qm) h
      (λ peer. now_or P c e.state (finished_at e.state p.message) (index_finished e.state peer p.message) h (λ index. finished_now e.state p.message index h))

  part_still : (s t : State) → IsSameManager s t → s.next_number ≤ t.next_number → (part : Part) → PartFine (P (next_id s)) part → PartFine (P (next_id t)) part
  part_still s t same le (entry.Decided p) g = still P c s t same le p.message g
  part_still s t same le (entry.Stored p) g = still P c s t same le p.message g
  part_still s t same le r g = tt

  -- Records.

  marks_now : (s : State) (marks : List Mark) → Now P c s → Now P c (fold mark_raised s marks)
  marks_now s [] h = h
  marks_now s (mark ∷ marks) h = marks_now (mark_raised s mark) marks (row_holds (P (next_id s)) (with_offered mark.number) s mark.ordinal (λ row g. g) h)

  pub record_holds : (s : State) (r : Record) → IsFine (P (next_behind s r)) r → Holds (P (next_behind s r)) s → Now P c (apply s r)
  record_holds s (entry.Identity identity) g h = h
  record_holds s (entry.Peer peer) g h = peer_holds (P (next_id s)) s peer h
  record_holds s (entry.CreateQueue number plan) g h = record {
    places = record {
      queues = all_append (QueueHas (ListsHold (P (next_id s)))) s.places.queues (new_queue plan ∷ []) h.places.queues (((tt, tt), (tt, tt)), tt);
      dead = h.places.dead;
      dead_xact = h.places.dead_xact;
      journal = h.places.journal;
    };
    plain = h.plain;
    outs = h.outs;
  }
  record_holds s (entry.Commit now ops) g h = let first = sends_numbered s ops in let taken = takes_made s now ops in let rows = ops_taken_rows now first ops in
      sends_now now taken (sends_of ops) (all_still P c first.state taken.state rows.manager rows.numbers (sends_of ops) g)
      (ops_now now first ops (record { places = h.places; plain = h.plain; outs = h.outs }))
  record_holds s (entry.Plain now p) g h = let t = numbers_taken s 1 in
      delivered_now P c (journalled t p.message) (resolved t p.message.destination) p.message now (journalled_now P c t p.message g (record { places = h.places; plain = h.plain; outs = h.outs }))
  record_holds s (entry.Offered marks) g h = marks_now s marks h
  record_holds s (entry.Arrived now numbers part) g h = let rows = releases_rows (begun s) numbers in
      part_now now (releases_made s numbers) part (part_still s (releases_made s numbers).state rows.manager rows.numbers part g) (releases_now (begun s) numbers h)
  record_holds s (entry.Taken now at id) g h = taken_now P c at id now (begun s) h
  record_holds s (entry.Purged now at) g h = purged_now P c lane.Durable at now (begun s) h
  record_holds s (entry.Ticked now) g h = ticked_now P c lane.Durable now (rows_expired now (begun s)) (expiring_now now (begun s) h)
  record_holds s (entry.Set setting) g h = record { places = h.places; plain = h.plain; outs = h.outs }

  -- Beside them.

  noted_now : (peer : ℕ) (s : State) (origin : Origin) (head : SessionHead) → Now P c s → Now P c (noted_as peer head s origin)
  noted_now peer s (beside.Owed row) head h = express_now P c s h
  noted_now peer s beside.OfRecoverable head h = plain_holds (P (next_id s)) (with_marked lane.Durable head.recoverable) s peer (marked_holds (P (next_id s)) lane.Durable head.recoverable) h
  noted_now peer s beside.OfExpress head h = plain_holds (P (next_id s)) (with_marked lane.Express head.user) s peer (marked_holds (P (next_id s)) lane.Express head.user) h
  noted_now peer s (beside.OfRow row number) head h = h

  all_noted_now : (peer : ℕ) (s : State) (sent : List (Origin × SessionHead)) → Now P c s → Now P c (fold (noted peer) s sent)
  all_noted_now peer s [] h = h
  all_noted_now peer s (g ∷ gs) h = all_noted_now peer (noted peer s g) gs (noted_now peer s g.0 g.1 h)

  pub beside_holds : (b : Beside) (s : State) → IsFineBeside (P (next_id s)) b → Now P c s → Now P c (beside.beside_done b s)
  beside_holds beside.Nothing s e h = h
  beside_holds (beside.SendsExpress now m) s e h = let t = number_taken s delivery.Express in
      delivered_now P c (journalled t m) (resolved t m.destination) m now (journalled_now P c t m e (express_now P c s h))
  beside_holds (beside.TakesExpress now at index) s e h = taken_at_now P c lane.Express at index now (begun s) h
  beside_holds (beside.PurgesExpress now at) s e h = purged_now P c lane.Express at now (begun s) h
  beside_holds (beside.TicksExpress now) s e h = ticked_now P c lane.Express now (begun s) h
  beside_holds beside.Unmarks s e h = record {
    places = h.places;
    plain = mapped_holds (PlainHolds (P (next_id s))) all_unmarked s.plain (λ p g. (unmarked_holds (P (next_id s)) p.recoverable g.0, unmarked_holds (P (next_id s)) p.express g.1)) h.plain;
    outs = h.outs;
  }
  beside_holds (beside.DropsExpress peer number) s e h = plain_holds (P (next_id s)) (without_acked number) s peer (acked_plain (P (next_id s)) number) h
  beside_holds (beside.HearsExpress peer number now m refusal) s e h =
      arrived_now P c (with_plain (without_acked number) s peer) m now refusal e.1 e.0 (plain_holds (P (next_id s)) (without_acked number) s peer (acked_plain (P (next_id s)) number) h)
  beside_holds (beside.NotesSent peer sent) s e h = all_noted_now peer s sent h
