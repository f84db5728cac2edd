-- States stand where durable messages are taken and purged, and where what is due leaves.
use Rattle.std.proofs.Common.{refl, inr, length, arith}
use Rattle.std.proofs.lemmas.Bool.Decides.{nat_tests}
use Rattle.std.proofs.lemmas.List.Elements.{All-from_recursion, recursion_from_All}
use Rattle.std.specs.List.{AllByRecursion}
use Rattle.std.specs.Option.{option_map_or}
use Rattle.std.specs.Prelude.{◌+◌, ◌<◌, ◌∷◌, ◌≡◌, ◌≤◌, [], All, Bool, IfSome, List, None, Option, Some, cond, false, map, nat_lt, option_and_then, slice_get, suc, true, zero, ℕ}
use Rattle.mqb_base.specs.declared.class.TheConstants.Class.{QUEUE_PURGED, REACH_TIMEOUT, RECEIVED, RECEIVE_TIMEOUT}
use Rattle.mqb_base.specs.declared.ids.MessageId.{MessageId}
use Rattle.mqb_base.specs.declared.ids.Guid.{Guid}
use Rattle.mqb_base.specs.declared.message.Lane.TheVariants as lane
use Rattle.mqb_base.specs.declared.message.Message.{Message}
use Rattle.mqb_base.specs.declared.queues.EntryPlace.{EntryPlace}
use Rattle.mqb_base.specs.declared.queues.EntryPlace.TheVariants as place
use Rattle.mqb_packet.specs.mqb_heads.declared.base.TheConstants.{MAX_PACKET}
use Rattle.mqb_orders.specs.Rows.{Row}
use Rattle.mqb_orders.specs.declared.kept.Kept.{Kept}
use Rattle.mqb_packet.specs.Plain.{message_size}
use Rattle.mqb_packet.specs.declared.packet.Headers.TheVariants as headers
use Rattle.mqb_plain.specs.Lists.{messages_of}
use Rattle.mqb_plain.specs.Plain.{PlainLists, without}
use Rattle.mqb_plain.specs.declared.outgoing.Outgoing.{Outgoing}
use Rattle.mqb_queue.specs.First.{index_named, is_queue}
use Rattle.mqb_queue.specs.Lists.{Lists}
use Rattle.mqb_queue.specs.Places.{Queue, lists_at, numbered}
use Rattle.mqb_model.specs.Lists.{with_changed, without_first}
use Rattle.mqb_model.specs.Loops.{for_each_below, repeated}
use Rattle.mqb_model.specs.laws.Keeping.{PurgedIsValid, TakenIsValid, TickedIsValid}
use Rattle.mqb_model.specs.records.Packets.{is_recoverable}
use Rattle.mqb_model.specs.rules.Effects.{Effect, begun, joined}
use Rattle.mqb_model.specs.rules.Notices.{meets}
use Rattle.mqb_model.specs.rules.Purges.{count_at, message_purged, oldest_purged}
use Rattle.mqb_model.specs.rules.Takes.{after_take, copied, message_at, message_taken, taken, taken_at}
use Rattle.mqb_model.specs.rules.Timeouts.{expires, expiring, expiring_in, lapsing, lapsing_in, message_expired, message_lapsed, message_swept, next_expired, next_lapsed, next_swept, peer_lapsed, queue_swept, row_expired, rows_expired, sweeping, sweeping_in, with_expired, without_expired}
use Rattle.mqb_model.specs.state.Places.{put_at, with_plain, without_at}
use Rattle.mqb_model.specs.state.State.{State}
use Rattle.mqb_model.specs.state.Valid.{IsCarried, IsInOrder, IsKeptBy, IsOwn, IsValidState, kept_messages, recoverable_messages}
use Rattle.mqb_model.proofs.Followed.{bare_carried, meets_stands}
use Rattle.mqb_model.proofs.Having.{QueueHas, lists_have}
use Rattle.mqb_model.proofs.Holding.{get_holds, item_holds, not_express, transactional_durable}
use Rattle.mqb_model.proofs.Members.{Fewer, all_left, all_pairs, all_right, all_weaker, changed_all, changed_fewer, changed_length, changed_pairs, fewer_all, fewer_map, fewer_pairs, fewer_remove, fewer_without, first_holds, pairs_of}
use Rattle.mqb_model.proofs.Offering.{IsHeaded, Precedes, all_headed, kept_in}
use Rattle.mqb_model.proofs.Remaining.{IsApart, IsPlaced, PlacedIn, Stands, places_are, plain_in, plain_stands, put_stands, rows_stand, waiting, without_stands}

-- every valid state stands beside no range
pub valid_stands : (s : State) → IsValidState s → Stands s.identity.guid 0 0 s
valid_stands s v = record {
  valid = v;
  above = omega arith;
  owner = refl;
  apart = all_weaker (IsOwn s.identity.guid s.next_number) (IsApart 0 0) (λ m w. inr (omega arith)) (waiting s)
      (recursion_from_All (IsOwn s.identity.guid s.next_number) (waiting s) v.own);
}

-- Loops.

pub repeated_keeps : {X : Type 0} (P : X → Type 0) (step : X → X) (n : ℕ) (x : X) → ((x : X) → P x → P (step x)) → P x → P (repeated n step x)
repeated_keeps P step zero x keeps h = h
repeated_keeps P step (suc n) x keeps h = keeps (repeated n step x) (repeated_keeps P step n x keeps h)

pub for_each_keeps : {X : Type 0} (P : X → Type 0) (step : ℕ → X → X) (n : ℕ) (x : X) → ((k : ℕ) (x : X) → P x → P (step k x)) → P x → P (for_each_below n step x)
for_each_keeps P step zero x keeps h = h
for_each_keeps P step (suc n) x keeps h = keeps n (for_each_below n step x) (for_each_keeps P step n x keeps h)

-- Takes and purges.

item_there : (s : State) (at : EntryPlace) (k : ℕ) → IsValidState s → IfSome (message_at lane.Durable s at k) IsPlaced
item_there s at k v = of (lists_at s.places at) (lists_have PlacedIn s.places at (places_are s v))
  where
    of : (o : Option Lists) → IfSome o (λ l. All IsPlaced l.durable) → IfSome (option_and_then (λ l. slice_get l.durable k) o) IsPlaced
    of None d = tt
    of (Some l) d = item_holds IsPlaced l.durable k d

copied_stands : (whose : Guid) (low high : ℕ) (s : State) (number : ℕ) (m : Message) → IsPlaced m → Stands whose low high s → Stands whose low high (copied s number m)
copied_stands whose low high s number m p h = at (numbered s.places.queues number)
  where
    journalled : (b : Bool) → Stands whose low high (cond b (put_at s (place.JournalOf number) m) s)
    journalled true = put_stands whose low high s (place.JournalOf number) m p h
    journalled false = h

    at : (o : Option Queue) → Stands whose low high (option_map_or (λ q. cond q.plan.journal (put_at s (place.JournalOf number) m) s) o s)
    at None = h
    at (Some q) = journalled q.plan.journal

after_take_stands : (whose : Guid) (low high : ℕ) (s : State) (at : EntryPlace) (m : Message) (now : ℕ) → IsPlaced m → Stands whose low high s → Stands whose low high (after_take s at m now)
after_take_stands whose low high s (place.Queue number) m now p h = meets_stands whose low high (copied s number m) m RECEIVED now p refl (copied_stands whose low high s number m p h)
after_take_stands whose low high s at m now p h = h

taken_at_stands : (whose : Guid) (low high : ℕ) (at : EntryPlace) (k now : ℕ) (e : Effect) → Stands whose low high e.state → Stands whose low high (taken_at lane.Durable at k now e).state
taken_at_stands whose low high at k now e h = of (message_at lane.Durable e.state at k) (item_there e.state at k h.valid)
  where
    of : (o : Option Message) → IfSome o IsPlaced → Stands whose low high (option_map_or (λ m. joined e (message_taken lane.Durable at k now e.state m)) o e).state
    of None p = h
    of (Some m) p = after_take_stands whose low high (without_at lane.Durable e.state at k) at m now p (without_stands whose low high e.state at k h)

pub take_stands : (whose : Guid) (low high : ℕ) (at : EntryPlace) (id : MessageId) (now : ℕ) (e : Effect) → Stands whose low high e.state → Stands whose low high (taken at id now e).state
take_stands whose low high at id now e h = of (index_named e.state.places at id now)
  where
    of : (o : Option ℕ) → Stands whose low high (option_map_or (λ k. taken_at lane.Durable at k now e) o e).state
    of None = h
    of (Some k) = taken_at_stands whose low high at k now e h

pub taken_is_valid : TakenIsValid
taken_is_valid s now at id v = (take_stands s.identity.guid 0 0 at id now (begun s) (valid_stands s v)).valid

oldest_stands : (whose : Guid) (low high : ℕ) (at : EntryPlace) (now : ℕ) (e : Effect) → Stands whose low high e.state → Stands whose low high (oldest_purged lane.Durable at now e).state
oldest_stands whose low high at now e h = of (message_at lane.Durable e.state at 0) (item_there e.state at 0 h.valid)
  where
    after : (m : Message) (b : Bool) → IsPlaced m
        → Stands whose low high (cond b (meets (without_at lane.Durable e.state at 0) m QUEUE_PURGED now) (without_at lane.Durable e.state at 0))
    after m true p = meets_stands whose low high (without_at lane.Durable e.state at 0) m QUEUE_PURGED now p refl (without_stands whose low high e.state at 0 h)
    after m false p = without_stands whose low high e.state at 0 h

    of : (o : Option Message) → IfSome o IsPlaced → Stands whose low high (option_map_or (λ m. joined e (message_purged lane.Durable at now e.state m)) o e).state
    of None p = h
    of (Some m) p = after m (is_queue at) p

pub purged_is_valid : PurgedIsValid
purged_is_valid s now at v = (repeated_keeps (λ e. Stands s.identity.guid 0 0 e.state) (oldest_purged lane.Durable at now) (count_at lane.Durable s at) (begun s)
    (λ e h. oldest_stands s.identity.guid 0 0 at now e h) (valid_stands s v)).valid

-- Messages of rows can be placed.

abbrev pub RowKeeps : Row → Type 0
RowKeeps row = AllByRecursion (λ k. IsPlaced k.message) row.kept

pub tx_bare : (m : Message) → IsCarried headers.TxAndSession m → IsCarried headers.Bare m
tx_bare m h = record {
  well_formed = h.well_formed;
  named = h.named;
  size = less (message_size headers.Bare m) (message_size headers.TxAndSession m) MAX_PACKET h.size
      (let fewer : message_size headers.Bare m ≤ message_size headers.TxAndSession m = omega arith in fewer);
}
  where
    less : (a b limit : ℕ) → nat_lt limit b ≡ false → a ≤ b → nat_lt limit a ≡ false
    less a b limit h le = grind (arith, nat_tests)

kept_placed : (row : Row) (ks : List Kept) → AllByRecursion (IsCarried headers.TxAndSession) (map (λ k. k.message) ks) → AllByRecursion (IsKeptBy row) ks
    → AllByRecursion (λ k. IsPlaced k.message) ks
kept_placed row [] c b = tt
kept_placed row (k ∷ ks) c b = ((tx_bare k.message c.0, transactional_durable k.message.delivery (b.0).transactional), kept_placed row ks c.1 b.1)

rows_placed : (n : ℕ) (rows : List Row) → AllByRecursion (IsCarried headers.TxAndSession) (kept_in rows) → AllByRecursion (IsInOrder n) rows → AllByRecursion RowKeeps rows
rows_placed n [] c o = tt
rows_placed n (row ∷ rows) c o = let ms = map (λ k. k.message) row.kept in (
  kept_placed row row.kept (all_left (IsCarried headers.TxAndSession) ms (kept_in rows) c) (recursion_from_All (IsKeptBy row) row.kept (o.0).kept),
  rows_placed n rows (all_right (IsCarried headers.TxAndSession) ms (kept_in rows) c) o.1,
)

pub rows_keep : (s : State) → IsValidState s → AllByRecursion RowKeeps s.outs
rows_keep s v = rows_placed (length s.peers) s.outs (recursion_from_All (IsCarried headers.TxAndSession) (kept_messages s) v.kept)
    (recursion_from_All (IsInOrder (length s.peers)) s.outs v.rows)

-- a row that keeps less is in order
pub less_in_order : (n : ℕ) (row : Row) (ks : List Kept) (acked : ℕ) → acked ≤ row.offered → Fewer ks row.kept → IsInOrder n row
    → IsInOrder n (record row { acked = acked; kept = ks })
less_in_order n row ks acked le fewer h = record {
  peer = h.peer;
  acked = le;
  offered = h.offered;
  committed = h.committed;
  rises = all_pairs (λ j k. j.number < k.number) ks (fewer_pairs (λ j k. j.number < k.number) fewer (pairs_of (λ j k. j.number < k.number) row.kept h.rises));
  kept = All-from_recursion (IsKeptBy (record row { acked = acked; kept = ks })) ks
      (all_weaker (IsKeptBy row) (IsKeptBy (record row { acked = acked; kept = ks })) (λ k one. record { first = one.first; last = one.last; transactional = one.transactional }) ks
      (fewer_all (IsKeptBy row) fewer (recursion_from_All (IsKeptBy row) row.kept h.kept)));
}

pub if_some : {X : Type 0} (Q : X → Type 0) (o : Option X) → ((x : X) → Q x) → IfSome o Q
if_some Q None f = tt
if_some Q (Some x) f = f x

-- What is due.

with_expired_stands : (whose : Guid) (low high now : ℕ) (s : State) (k : ℕ) → Stands whose low high s → Stands whose low high (with_expired now s k)
with_expired_stands whose low high now s k h = rows_stand whose low high s (with_changed (without_expired now) s.outs k)
    (changed_all Given (without_expired now) s.outs k (if_some (λ row. Given row → Given (without_expired now row)) (slice_get s.outs k) (λ row g. (record { first = (g.0).first; below = (g.0).below }, g.1)))
    (all_headed s h.valid))
    (changed_pairs Precedes (without_expired now) s.outs k (λ x z r. r) (λ x z r. r) (pairs_of Precedes s.outs h.valid.ordinals_rise))
    (changed_all Order (without_expired now) s.outs k (if_some (λ row. Order row → Order (without_expired now row)) (slice_get s.outs k)
    (λ row o. less_in_order (length s.peers) row (without_first (expires now row) row.kept) row.acked o.acked (fewer_without (expires now row) row.kept) o))
    (recursion_from_All Order s.outs h.valid.rows))
    (changed_fewer (λ row. map (λ k. k.message) row.kept) (without_expired now) s.outs k (λ row. fewer_map (λ k. k.message) (fewer_without (expires now row) row.kept))) h
  where
    Given : Row → Type 0
    Given row = IsHeaded s.next_ordinal row

    Order : Row → Type 0
    Order row = IsInOrder (length s.peers) row

expired_stands : (whose : Guid) (low high now k : ℕ) (e : Effect) → Stands whose low high e.state → Stands whose low high (next_expired now k e).state
expired_stands whose low high now k e h = at (slice_get e.state.outs k) (get_holds RowKeeps e.state.outs k (rows_keep e.state h.valid))
  where
    each : (row : Row) (o : Option Kept) → IfSome o (λ k. IsPlaced k.message)
        → Stands whose low high (option_map_or (λ kept. joined e (message_expired now k e.state row kept)) o e).state
    each row None p = h
    each row (Some kept) p = meets_stands whose low high (with_expired now e.state k) kept.message REACH_TIMEOUT now p refl (with_expired_stands whose low high now e.state k h)

    at : (o : Option Row) → IfSome o RowKeeps
        → Stands whose low high (option_map_or (λ row. option_map_or (λ kept. joined e (message_expired now k e.state row kept)) (expiring now row) e) o e).state
    at None r = h
    at (Some row) r = each row (expiring now row) (first_holds (λ k. IsPlaced k.message) (expires now row) row.kept r)

abbrev PlainKeeps : PlainLists → Type 0
PlainKeeps p = AllByRecursion (λ o. IsPlaced o.message) p.recoverable

items_placed : (items : List Outgoing) → AllByRecursion (IsCarried headers.Session) (messages_of items) → AllByRecursion (λ m. is_recoverable m.delivery ≡ true) (messages_of items)
    → AllByRecursion (λ o. IsPlaced o.message) items
items_placed [] c r = tt
items_placed (o ∷ items) c r = ((bare_carried o.message c.0, not_express o.message.delivery r.0), items_placed items c.1 r.1)

plain_placed : (ps : List PlainLists) → AllByRecursion (IsCarried headers.Session) (plain_in ps) → AllByRecursion (λ m. is_recoverable m.delivery ≡ true) (plain_in ps)
    → AllByRecursion PlainKeeps ps
plain_placed [] c r = tt
plain_placed (p ∷ ps) c r = let ms = messages_of p.recoverable in (
  items_placed p.recoverable (all_left (IsCarried headers.Session) ms (plain_in ps) c) (all_left (λ m. is_recoverable m.delivery ≡ true) ms (plain_in ps) r),
  plain_placed ps (all_right (IsCarried headers.Session) ms (plain_in ps) c) (all_right (λ m. is_recoverable m.delivery ≡ true) ms (plain_in ps) r),
)

without_plain_stands : (whose : Guid) (low high index : ℕ) (s : State) (k : ℕ) → Stands whose low high s → Stands whose low high (with_plain (without lane.Durable index) s k)
without_plain_stands whose low high index s k h = plain_stands whose low high s (with_changed (without lane.Durable index) s.plain k) (changed_length (without lane.Durable index) s.plain k)
    (changed_fewer (λ p. messages_of p.recoverable) (without lane.Durable index) s.plain k (λ p. fewer_map (λ o. o.message) (fewer_remove p.recoverable index))) h

lapsed_stands : (whose : Guid) (low high now k : ℕ) (e : Effect) → Stands whose low high e.state → Stands whose low high (next_lapsed lane.Durable now k e).state
lapsed_stands whose low high now k e h = at (slice_get e.state.plain k) (get_holds PlainKeeps e.state.plain k keeps)
  where
    keeps : AllByRecursion PlainKeeps e.state.plain
    keeps = plain_placed e.state.plain (recursion_from_All (IsCarried headers.Session) (recoverable_messages e.state) h.valid.plain)
        (recursion_from_All (λ m. is_recoverable m.delivery ≡ true) (recoverable_messages e.state) h.valid.recoverable)

    each : (index : ℕ) (o : Option Outgoing) → IfSome o (λ o. IsPlaced o.message)
        → Stands whose low high (option_map_or (λ o. joined e (message_lapsed lane.Durable now k index e.state o.message)) o e).state
    each index None p = h
    each index (Some o) p = meets_stands whose low high (with_plain (without lane.Durable index) e.state k) o.message REACH_TIMEOUT now p refl (without_plain_stands whose low high index e.state k h)

    first : (p : PlainLists) (o : Option ℕ) → PlainKeeps p
        → Stands whose low high (option_map_or (λ index. option_map_or (λ o. joined e (message_lapsed lane.Durable now k index e.state o.message)) (slice_get p.recoverable index) e) o e).state
    first p None r = h
    first p (Some index) r = each index (slice_get p.recoverable index) (get_holds (λ o. IsPlaced o.message) p.recoverable index r)

    at : (o : Option PlainLists) → IfSome o PlainKeeps → Stands whose low high (option_map_or (λ p. option_map_or (λ index.
        option_map_or (λ o. joined e (message_lapsed lane.Durable now k index e.state o.message)) (slice_get p.recoverable index) e) (lapsing lane.Durable now p) e) o e).state
    at None r = h
    at (Some p) r = first p (lapsing lane.Durable now p) r

swept_stands : (whose : Guid) (low high now k : ℕ) (e : Effect) → Stands whose low high e.state → Stands whose low high (next_swept lane.Durable now k e).state
swept_stands whose low high now k e h = at (slice_get e.state.places.queues k) (get_holds (QueueHas PlacedIn) e.state.places.queues k (places_are e.state h.valid).queues)
  where
    each : (index : ℕ) (o : Option Message) → IfSome o IsPlaced
        → Stands whose low high (option_map_or (λ m. joined e (message_swept lane.Durable now (k + 1) index e.state m)) o e).state
    each index None p = h
    each index (Some m) p = meets_stands whose low high (without_at lane.Durable e.state (place.Queue (k + 1)) index) m RECEIVE_TIMEOUT now p refl
        (without_stands whose low high e.state (place.Queue (k + 1)) index h)

    first : (q : Queue) (o : Option ℕ) → QueueHas PlacedIn q
        → Stands whose low high (option_map_or (λ index. option_map_or (λ m. joined e (message_swept lane.Durable now (k + 1) index e.state m)) (slice_get q.lists.durable index) e) o e).state
    first q None r = h
    first q (Some index) r = each index (slice_get q.lists.durable index) (item_holds IsPlaced q.lists.durable index r.0)

    at : (o : Option Queue) → IfSome o (QueueHas PlacedIn) → Stands whose low high (option_map_or (λ q. option_map_or (λ index.
        option_map_or (λ m. joined e (message_swept lane.Durable now (k + 1) index e.state m)) (slice_get q.lists.durable index) e) (sweeping lane.Durable now q) e) o e).state
    at None r = h
    at (Some q) r = first q (sweeping lane.Durable now q) r

pub ticked_is_valid : TickedIsValid
ticked_is_valid s now v = (for_each_keeps Standing (queue_swept lane.Durable now) (length expired.state.places.queues) lapsed
    (λ k e h. repeated_keeps Standing (next_swept lane.Durable now k) (option_map_or (sweeping_in lane.Durable now) (slice_get e.state.places.queues k) 0) e (λ e h. swept_stands s.identity.guid 0 0 now k e h) h)
    (for_each_keeps Standing (peer_lapsed lane.Durable now) (length expired.state.plain) expired
    (λ k e h. repeated_keeps Standing (next_lapsed lane.Durable now k) (option_map_or (lapsing_in lane.Durable now) (slice_get e.state.plain k) 0) e (λ e h. lapsed_stands s.identity.guid 0 0 now k e h) h)
    (for_each_keeps Standing (row_expired now) (length s.outs) (begun s)
    (λ k e h. repeated_keeps Standing (next_expired now k) (option_map_or (expiring_in now) (slice_get e.state.outs k) 0) e (λ e h. expired_stands s.identity.guid 0 0 now k e h) h)
    (valid_stands s v)))).valid
  where
    Standing : Effect → Type 0
    Standing e = Stands s.identity.guid 0 0 e.state

    expired : Effect
    expired = rows_expired now (begun s)

    lapsed : Effect
    lapsed = for_each_below (length expired.state.plain) (peer_lapsed lane.Durable now) expired
