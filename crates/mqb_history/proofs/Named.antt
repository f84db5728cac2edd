-- Messages that leave places and lists, and those that are sent and arrive, leave what is known of a manager's messages.
use Rattle.std.proofs.Common.{refl, subst}
use Rattle.std.specs.List.{AllByRecursion}
use Rattle.std.specs.Option.{option_map_or}
use Rattle.std.specs.Prelude.{[], ◌+◌, ◌==◌, ◌∷◌, ◌≡◌, Bool, IfSome, List, None, Option, Some, cond, false, is_none, length, map, not, slice_get, suc, true, zero, ℕ}
use Rattle.mqb_base.specs.Bits.{keeps_copy}
use Rattle.mqb_base.specs.declared.class.Class.{Class}
use Rattle.mqb_base.specs.declared.class.TheConstants.Class.{ORDER_ACKNOWLEDGEMENT, QUEUE_PURGED, REACHED_QUEUE, REACH_TIMEOUT, RECEIVED, RECEIVE_TIMEOUT}
use Rattle.mqb_base.specs.declared.heads.SessionHead.{SessionHead}
use Rattle.mqb_base.specs.declared.ids.Guid.{Guid}
use Rattle.mqb_base.specs.declared.ids.MessageId.{MessageId}
use Rattle.mqb_base.specs.declared.message.Delivery.TheVariants as delivery
use Rattle.mqb_base.specs.declared.message.Lane.{Lane}
use Rattle.mqb_base.specs.declared.message.Lane.TheVariants as lane
use Rattle.mqb_base.specs.declared.message.Message.{Message}
use Rattle.mqb_base.specs.declared.queues.EntryPlace.{EntryPlace}
use Rattle.mqb_base.specs.declared.queues.EntryPlace.TheVariants as place
use Rattle.mqb_plain.specs.Lists.{is_sent_by, marked_next, unmarked}
use Rattle.mqb_plain.specs.Plain.{PlainLists, outgoing_in, without}
use Rattle.mqb_plain.specs.declared.outgoing.Outgoing.{Outgoing}
use Rattle.mqb_queue.specs.First.{is_queue}
use Rattle.mqb_queue.specs.Lists.{Lists, messages_in}
use Rattle.mqb_queue.specs.Places.{Queue, numbered}
use Rattle.mqb_model.specs.Loops.{for_each_below, repeated}
use Rattle.mqb_model.specs.declared.target.Target.{Target}
use Rattle.mqb_model.specs.declared.target.Target.TheVariants.{AtPeer, Here, Nowhere}
use Rattle.mqb_model.specs.managers.Beside.{Beside, Origin, all_unmarked, beside_done, noted, with_marked, without_acked}
use Rattle.mqb_model.specs.managers.Beside as beside
use Rattle.mqb_model.specs.rules.Effects.{Effect, begun, joined}
use Rattle.mqb_model.specs.rules.Notices.{arrived, meets}
use Rattle.mqb_model.specs.rules.Numbers.{number_taken}
use Rattle.mqb_model.specs.rules.Purges.{count_at, message_purged, oldest_purged, purged}
use Rattle.mqb_model.specs.rules.Sends.{delivered, journalled, plain_sent}
use Rattle.mqb_model.specs.rules.Takes.{after_take, copied, message_at, message_taken, taken_at}
use Rattle.mqb_model.specs.rules.Timeouts.{lane_ticked, lapsing, lapsing_in, message_lapsed, message_swept, next_lapsed, next_swept, peer_lapsed, queue_swept, sweeping, sweeping_in}
use Rattle.mqb_model.specs.state.Durable.{durable, durable_lists, durable_plain, durable_queue}
use Rattle.mqb_model.specs.state.Places.{is_express, placed, put_at, with_plain, without_at}
use Rattle.mqb_model.specs.state.Resolving.{resolved}
use Rattle.mqb_model.specs.state.State.{State}
use Rattle.std.specs.Prelude.{fold}
use Rattle.mqb_history.proofs.Lists.{all_filter, clash}
use Rattle.mqb_history.proofs.Naming.{AreListed, ArePlain, AreQueued, IsMet, IsQuiet, IsSafe, Knows, MayWait, meets_knows, number_knows, placed_knows, placed_met, plain_knows, put_knows, without_knows}
use Rattle.mqb_history.proofs.Unreleased.{removed_all}

-- express messages alone are sent and heard beside a record: one that is sent is no order acknowledgement, and one that is put arrives here
abbrev pub IsRightBeside : State → Beside → Type 0
IsRightBeside s (beside.SendsExpress now m) = (is_express m.delivery ≡ true) × ((m.class.0 == ORDER_ACKNOWLEDGEMENT.0) ≡ false)
IsRightBeside s (beside.HearsExpress peer number now m refusal) = (is_express m.delivery ≡ true) × (refusal ≡ None → (k : ℕ) → resolved s m.destination ≡ AtPeer k → ⊥)
IsRightBeside s _ = Unit {0}

module _ (own : Guid) (K : MessageId → Type 0) (V : ℕ → Type 0) (mine : (id : MessageId) → id.qm ≡ own → K id) where
  -- Messages leave places and lists.

  after_take_knows : (s : State) (at : EntryPlace) (m : Message) (now : ℕ) → IsMet K m → Knows own K V s → Knows own K V (after_take s at m now)
  after_take_knows s (place.Queue number) m now met h = meets_knows own K V mine (copied s number m) m RECEIVED now met (by (numbered s.places.queues number))
    where
      journal : (b : Bool) → Knows own K V (cond b (put_at s (place.JournalOf number) m) s)
      journal true = put_knows own K V mine s (place.JournalOf number) m met h
      journal false = h

      by : (o : Option Queue) → Knows own K V (option_map_or (λ q. cond q.plan.journal (put_at s (place.JournalOf number) m) s) o s)
      by None = h
      by (Some q) = journal q.plan.journal
  after_take_knows s at m now met h = h

  pub taken_at_knows : (kind : Lane) (at : EntryPlace) (k now : ℕ) (e : Effect) → Knows own K V e.state → Knows own K V (taken_at kind at k now e).state
  taken_at_knows kind at k now e h = by (message_at kind e.state at k) (placed_met K kind e.state at k h.places)
    where
      by : (o : Option Message) → IfSome o (IsMet K) → Knows own K V (option_map_or (λ m. joined e (message_taken kind at k now e.state m)) o e).state
      by None g = h
      by (Some m) g = after_take_knows (without_at kind e.state at k) at m now g (without_knows own K V mine kind e.state at k h)

  pub repeated_knows : (step : Effect → Effect) → ((e : Effect) → Knows own K V e.state → Knows own K V (step e).state) → (n : ℕ) (e : Effect)
      → Knows own K V e.state → Knows own K V (repeated n step e).state
  repeated_knows step keeps zero e h = h
  repeated_knows step keeps (suc n) e h = keeps (repeated n step e) (repeated_knows step keeps n e h)

  pub each_knows : (step : ℕ → Effect → Effect) → ((k : ℕ) (e : Effect) → Knows own K V e.state → Knows own K V (step k e).state) → (n : ℕ) (e : Effect)
      → Knows own K V e.state → Knows own K V (for_each_below n step e).state
  each_knows step keeps zero e h = h
  each_knows step keeps (suc n) e h = keeps n (for_each_below n step e) (each_knows step keeps n e h)

  oldest_knows : (kind : Lane) (at : EntryPlace) (now : ℕ) (e : Effect) → Knows own K V e.state → Knows own K V (oldest_purged kind at now e).state
  oldest_knows kind at now e h = by (message_at kind e.state at 0) (placed_met K kind e.state at 0 h.places)
    where
      left : Knows own K V (without_at kind e.state at 0)
      left = without_knows own K V mine kind e.state at 0 h

      after : (m : Message) → IsMet K m → (b : Bool) → Knows own K V (cond b (meets (without_at kind e.state at 0) m QUEUE_PURGED now) (without_at kind e.state at 0))
      after m met true = meets_knows own K V mine (without_at kind e.state at 0) m QUEUE_PURGED now met left
      after m met false = left

      by : (o : Option Message) → IfSome o (IsMet K) → Knows own K V (option_map_or (λ m. joined e (message_purged kind at now e.state m)) o e).state
      by None g = h
      by (Some m) g = after m g (is_queue at)

  pub purged_knows : (kind : Lane) (at : EntryPlace) (now : ℕ) (e : Effect) → Knows own K V e.state → Knows own K V (purged kind at now e).state
  purged_knows kind at now e h = repeated_knows (oldest_purged kind at now) (oldest_knows kind at now) (count_at kind e.state at) e h

  -- a plain message that waits was met
  outgoing_met : (kind : Lane) (low : ℕ) (p : PlainLists) (k : ℕ) → ArePlain own K V low p → IfSome (slice_get (outgoing_in kind p) k) (λ o. IsMet K o.message)
  outgoing_met lane.Durable low p k h = get p.recoverable k h.recoverable
    where
      get : (os : List Outgoing) (n : ℕ) → AllByRecursion (IsSafe own K V low) os → IfSome (slice_get os n) (λ o. IsMet K o.message)
      get [] n g = tt
      get (o ∷ os) zero g = λ e. mine o.message.id g.0.source
      get (o ∷ os) (suc n) g = get os n g.1
  outgoing_met lane.Express low p k h = get p.express k h.express
    where
      get : (os : List Outgoing) (n : ℕ) → AllByRecursion IsQuiet os → IfSome (slice_get os n) (λ o. IsMet K o.message)
      get [] n g = tt
      get (o ∷ os) zero g = λ e. absurd (clash (subst (λ b. b ≡ false) g.0.0 e))
      get (o ∷ os) (suc n) g = get os n g.1

  dropped_plain : (kind : Lane) (low k : ℕ) (p : PlainLists) → ArePlain own K V low p → ArePlain own K V low (without kind k p)
  dropped_plain lane.Durable low k p h = record { recoverable = removed_all (IsSafe own K V low) p.recoverable k h.recoverable; express = h.express }
  dropped_plain lane.Express low k p h = record { recoverable = h.recoverable; express = removed_all IsQuiet p.express k h.express }

  list_at : (ps : List PlainLists) (k low : ℕ) → AllByRecursion (ArePlain own K V low) ps → IfSome (slice_get ps k) (ArePlain own K V low)
  list_at [] k low h = tt
  list_at (p ∷ ps) zero low h = h.0
  list_at (p ∷ ps) (suc k) low h = list_at ps k low h.1

  lapsed_knows : (kind : Lane) (now k : ℕ) (e : Effect) → Knows own K V e.state → Knows own K V (next_lapsed kind now k e).state
  lapsed_knows kind now k e h = at (slice_get e.state.plain k) (list_at e.state.plain k e.state.next_number h.plain)
    where
      each : (index : ℕ) (o : Option Outgoing) → IfSome o (λ o. IsMet K o.message) → Knows own K V (option_map_or (λ o. joined e (message_lapsed kind now k index e.state o.message)) o e).state
      each index None g = h
      each index (Some o) g = meets_knows own K V mine (with_plain (without kind index) e.state k) o.message REACH_TIMEOUT now g
          (plain_knows own K V mine e.state k (without kind index) (dropped_plain kind e.state.next_number index) h)

      first : (p : PlainLists) (o : Option ℕ) → ArePlain own K V e.state.next_number p
          → Knows own K V (option_map_or (λ index. option_map_or (λ o. joined e (message_lapsed kind now k index e.state o.message)) (slice_get (outgoing_in kind p) index) e) o e).state
      first p None g = h
      first p (Some index) g = each index (slice_get (outgoing_in kind p) index) (outgoing_met kind e.state.next_number p index g)

      at : (o : Option PlainLists) → IfSome o (ArePlain own K V e.state.next_number) → Knows own K V (option_map_or (λ p. option_map_or (λ index.
          option_map_or (λ o. joined e (message_lapsed kind now k index e.state o.message)) (slice_get (outgoing_in kind p) index) e) (lapsing kind now p) e) o e).state
      at None g = h
      at (Some p) g = first p (lapsing kind now p) g

  -- what stands in a queue was met
  queue_at : (qs : List Queue) (k : ℕ) → AllByRecursion (AreQueued K) qs → IfSome (slice_get qs k) (AreQueued K)
  queue_at [] k h = tt
  queue_at (q ∷ qs) zero h = h.0
  queue_at (q ∷ qs) (suc k) h = queue_at qs k h.1

  queued_met : (kind : Lane) (l : Lists) (k : ℕ) → AreListed K l → IfSome (slice_get (messages_in kind l) k) (IsMet K)
  queued_met lane.Durable l k h = get l.durable k h.durable
    where
      get : (ms : List Message) (n : ℕ) → AllByRecursion (λ m. K m.id) ms → IfSome (slice_get ms n) (IsMet K)
      get [] n g = tt
      get (m ∷ ms) zero g = λ e. g.0
      get (m ∷ ms) (suc n) g = get ms n g.1
  queued_met lane.Express l k h = get l.express k h.express
    where
      get : (ms : List Message) (n : ℕ) → AllByRecursion (λ m. is_express m.delivery ≡ true) ms → IfSome (slice_get ms n) (IsMet K)
      get [] n g = tt
      get (m ∷ ms) zero g = λ e. absurd (clash (subst (λ b. b ≡ false) g.0 e))
      get (m ∷ ms) (suc n) g = get ms n g.1

  swept_knows : (kind : Lane) (now k : ℕ) (e : Effect) → Knows own K V e.state → Knows own K V (next_swept kind now k e).state
  swept_knows kind now k e h = at (slice_get e.state.places.queues k) (queue_at e.state.places.queues k h.places.queues)
    where
      each : (index : ℕ) (o : Option Message) → IfSome o (IsMet K) → Knows own K V (option_map_or (λ m. joined e (message_swept kind now (k + 1) index e.state m)) o e).state
      each index None g = h
      each index (Some m) g = meets_knows own K V mine (without_at kind e.state (place.Queue (k + 1)) index) m RECEIVE_TIMEOUT now g
          (without_knows own K V mine kind e.state (place.Queue (k + 1)) index h)

      first : (q : Queue) (o : Option ℕ) → AreQueued K q
          → Knows own K V (option_map_or (λ index. option_map_or (λ m. joined e (message_swept kind now (k + 1) index e.state m)) (slice_get (messages_in kind q.lists) index) e) o e).state
      first q None g = h
      first q (Some index) g = each index (slice_get (messages_in kind q.lists) index) (queued_met kind q.lists index g.lists)

      at : (o : Option Queue) → IfSome o (AreQueued K) → Knows own K V (option_map_or (λ q. option_map_or (λ index.
          option_map_or (λ m. joined e (message_swept kind now (k + 1) index e.state m)) (slice_get (messages_in kind q.lists) index) e) (sweeping kind now q) e) o e).state
      at None g = h
      at (Some q) g = first q (sweeping kind now q) g

  pub ticked_knows : (kind : Lane) (now : ℕ) (e : Effect) → Knows own K V e.state → Knows own K V (lane_ticked kind now e).state
  ticked_knows kind now e h = each_knows (queue_swept kind now)
      (λ k f g. repeated_knows (next_swept kind now k) (swept_knows kind now k) (option_map_or (sweeping_in kind now) (slice_get f.state.places.queues k) 0) f g)
      (length e.state.places.queues) (for_each_below (length e.state.plain) (peer_lapsed kind now) e)
      (each_knows (peer_lapsed kind now)
      (λ k f g. repeated_knows (next_lapsed kind now k) (lapsed_knows kind now k) (option_map_or (lapsing_in kind now) (slice_get f.state.plain k) 0) f g)
      (length e.state.plain) e h)

  -- Sends and arrivals.

  pub journalled_knows : (s : State) (m : Message) → IsMet K m → Knows own K V s → Knows own K V (journalled s m)
  journalled_knows s m met h = at (keeps_copy m)
    where
      at : (b : Bool) → Knows own K V (cond b (put_at s place.Journal m) s)
      at true = put_knows own K V mine s place.Journal m met h
      at false = h

  pub here_knows : (s : State) (queue : Option ℕ) (m : Message) (now : ℕ) → IsMet K m → Knows own K V s → Knows own K V (delivered s (Here queue) m now)
  here_knows s None m now met h = meets_knows own K V mine s m REACHED_QUEUE now met h
  here_knows s (Some n) m now met h = meets_knows own K V mine (put_at s (place.Queue n) m) m REACHED_QUEUE now met (put_knows own K V mine s (place.Queue n) m met h)

  -- a message that is sent may wait, whatever copy of it the journal keeps
  journalled_waits : (s : State) (m : Message) → MayWait own K V mine s m → MayWait own K V mine (journalled s m) m
  journalled_waits s m may = at (keeps_copy m)
    where
      at : (b : Bool) → MayWait own K V mine (cond b (put_at s place.Journal m) s) m
      at true = record { express = may.express; durable = may.durable }
      at false = may

  pub sent_knows : (s : State) (m : Message) (now : ℕ) → IsMet K m → MayWait own K V mine s m → Knows own K V s → Knows own K V (plain_sent s m now)
  sent_knows s m now met may h = at (resolved s m.destination)
    where
      copied_so : Knows own K V (journalled s m)
      copied_so = journalled_knows s m met h

      at : (t : Target) → Knows own K V (delivered (journalled s m) t m now)
      at (AtPeer k) = placed_knows own K V mine (journalled s m) (AtPeer k) m (journalled_waits s m may) copied_so
      at (Here queue) = here_knows (journalled s m) queue m now met copied_so
      at Nowhere = meets_knows own K V mine (journalled s m) m REACHED_QUEUE now met copied_so

  -- a message that is put arrives at no peer
  pub arrived_knows : (s : State) (m : Message) (now : ℕ) (refusal : Option Class) → (refusal ≡ None → (k : ℕ) → resolved s m.destination ≡ AtPeer k → ⊥) → IsMet K m
      → Knows own K V s → Knows own K V (arrived s m now refusal)
  arrived_knows s m now (Some class) apart met h = meets_knows own K V mine s m class now met h
  arrived_knows s m now None apart met h = at (resolved s m.destination) refl
    where
      at : (t : Target) → resolved s m.destination ≡ t → Knows own K V (meets (placed s t m) m REACHED_QUEUE now)
      at (AtPeer k) e = absurd (apart refl k e)
      at (Here queue) e = here_knows s queue m now met h
      at Nowhere e = meets_knows own K V mine s m REACHED_QUEUE now met h

  -- What belongs to a connection.

  unmarked_safe : (low : ℕ) (os : List Outgoing) → AllByRecursion (IsSafe own K V low) os → AllByRecursion (IsSafe own K V low) (unmarked os)
  unmarked_safe low [] h = tt
  unmarked_safe low (o ∷ os) h = (record { source = h.0.source; durable = h.0.durable; below = h.0.below; unused = h.0.unused; about = h.0.about }, unmarked_safe low os h.1)

  unmarked_quiet : (os : List Outgoing) → AllByRecursion IsQuiet os → AllByRecursion IsQuiet (unmarked os)
  unmarked_quiet [] h = tt
  unmarked_quiet (o ∷ os) h = (h.0, unmarked_quiet os h.1)

  all_unmarked_plain : (low : ℕ) (ps : List PlainLists) → AllByRecursion (ArePlain own K V low) ps → AllByRecursion (ArePlain own K V low) (map all_unmarked ps)
  all_unmarked_plain low [] h = tt
  all_unmarked_plain low (p ∷ ps) h = (record { recoverable = unmarked_safe low p.recoverable h.0.recoverable; express = unmarked_quiet p.express h.0.express }, all_unmarked_plain low ps h.1)

  marked_safe : (low n : ℕ) (os : List Outgoing) → AllByRecursion (IsSafe own K V low) os → AllByRecursion (IsSafe own K V low) (marked_next n os)
  marked_safe low n [] h = tt
  marked_safe low n (o ∷ os) h = at (is_none o.mark) (marked_safe low n os h.1)
    where
      at : (b : Bool) → AllByRecursion (IsSafe own K V low) (marked_next n os) → AllByRecursion (IsSafe own K V low) (cond b (record o { mark = Some n } ∷ os) (o ∷ marked_next n os))
      at true rest = (record { source = h.0.source; durable = h.0.durable; below = h.0.below; unused = h.0.unused; about = h.0.about }, h.1)
      at false rest = (h.0, rest)

  marked_quiet : (n : ℕ) (os : List Outgoing) → AllByRecursion IsQuiet os → AllByRecursion IsQuiet (marked_next n os)
  marked_quiet n [] h = tt
  marked_quiet n (o ∷ os) h = at (is_none o.mark) (marked_quiet n os h.1)
    where
      at : (b : Bool) → AllByRecursion IsQuiet (marked_next n os) → AllByRecursion IsQuiet (cond b (record o { mark = Some n } ∷ os) (o ∷ marked_next n os))
      at true rest = (h.0, h.1)
      at false rest = (h.0, rest)

  marked_plain : (kind : Lane) (low n : ℕ) (p : PlainLists) → ArePlain own K V low p → ArePlain own K V low (with_marked kind n p)
  marked_plain lane.Durable low n p h = record { recoverable = marked_safe low n p.recoverable h.recoverable; express = h.express }
  marked_plain lane.Express low n p h = record { recoverable = h.recoverable; express = marked_quiet n p.express h.express }

  noted_knows : (peer : ℕ) (s : State) (o : Origin) (head : SessionHead) → Knows own K V s → Knows own K V (noted peer s (o, head))
  noted_knows peer s (beside.Owed row) head h = number_knows own K V mine s delivery.Express (λ e. absurd (clash e)) h
  noted_knows peer s beside.OfRecoverable head h = plain_knows own K V mine s peer (with_marked lane.Durable head.recoverable) (marked_plain lane.Durable s.next_number head.recoverable) h
  noted_knows peer s beside.OfExpress head h = plain_knows own K V mine s peer (with_marked lane.Express head.user) (marked_plain lane.Express s.next_number head.user) h
  noted_knows peer s (beside.OfRow row number) head h = h

  all_noted_knows : (peer : ℕ) (s : State) (sent : List _) → Knows own K V s → Knows own K V (fold (noted peer) s sent)
  all_noted_knows peer s [] h = h
  all_noted_knows peer s (g ∷ gs) h = all_noted_knows peer (noted peer s g) gs (noted_knows peer s g.0 g.1 h)

  acked_plain : (low number : ℕ) (p : PlainLists) → ArePlain own K V low p → ArePlain own K V low (without_acked number p)
  acked_plain low number p h = record { recoverable = h.recoverable; express = all_filter IsQuiet (λ o. not (is_sent_by number o)) p.express h.express }

  express_met : (m : Message) → is_express m.delivery ≡ true → IsMet K m
  express_met m e f = absurd (clash (subst (λ b. b ≡ false) e f))

  pub beside_knows : (b : Beside) (s : State) → IsRightBeside s b → Knows own K V s → Knows own K V (beside_done b s)
  beside_knows beside.Nothing s q h = h
  beside_knows (beside.SendsExpress now m) s q h = sent_knows (number_taken s delivery.Express) m now (express_met m q.0)
      (record { express = λ e. q.1; durable = λ f. absurd (clash (subst (λ b. b ≡ false) q.0 f)) }) (number_knows own K V mine s delivery.Express (λ e. absurd (clash e)) h)
  beside_knows (beside.TakesExpress now at index) s q h = taken_at_knows lane.Express at index now (begun s) h
  beside_knows (beside.PurgesExpress now at) s q h = purged_knows lane.Express at now (begun s) h
  beside_knows (beside.TicksExpress now) s q h = ticked_knows lane.Express now (begun s) h
  beside_knows beside.Unmarks s q h = record {
    identity = h.identity;
    bounded = h.bounded;
    fresh = h.fresh;
    plain = all_unmarked_plain s.next_number s.plain h.plain;
    places = h.places;
    rows = h.rows;
  }
  beside_knows (beside.DropsExpress peer number) s q h = plain_knows own K V mine s peer (without_acked number) (acked_plain s.next_number number) h
  beside_knows (beside.HearsExpress peer number now m refusal) s q h = arrived_knows (with_plain (without_acked number) s peer) m now refusal q.1 (express_met m q.0)
      (plain_knows own K V mine s peer (without_acked number) (acked_plain s.next_number number) h)
  beside_knows (beside.NotesSent peer sent) s q h = all_noted_knows peer s sent h

  -- What a store stands for.

  stored_plain : (low : ℕ) (ps : List PlainLists) → AllByRecursion (ArePlain own K V low) ps → AllByRecursion (ArePlain own K V low) (map durable_plain ps)
  stored_plain low [] h = tt
  stored_plain low (p ∷ ps) h = (record { recoverable = unmarked_safe low p.recoverable h.0.recoverable; express = tt }, stored_plain low ps h.1)

  stored_listed : (l : Lists) → AreListed K l → AreListed K (durable_lists l)
  stored_listed l h = record { durable = h.durable; express = tt }

  stored_queued : (qs : List Queue) → AllByRecursion (AreQueued K) qs → AllByRecursion (AreQueued K) (map durable_queue qs)
  stored_queued [] h = tt
  stored_queued (q ∷ qs) h = (record { lists = stored_listed q.lists h.0.lists; journal = stored_listed q.journal h.0.journal }, stored_queued qs h.1)

  pub stored_knows : (s : State) → Knows own K V s → Knows own K V (durable s)
  stored_knows s h = record {
    identity = h.identity;
    bounded = h.bounded;
    fresh = h.fresh;
    plain = stored_plain s.next_number s.plain h.plain;
    places = record {
      queues = stored_queued s.places.queues h.places.queues;
      dead = stored_listed s.places.dead h.places.dead;
      dead_xact = stored_listed s.places.dead_xact h.places.dead_xact;
      journal = stored_listed s.places.journal h.places.journal;
    };
    rows = h.rows;
  }
