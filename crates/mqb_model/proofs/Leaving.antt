-- How durable messages leave: it reads and changes nothing but what a store stands for.
use Rattle.std.proofs.Common.{refl, ap, ◌∙◌}
use Rattle.std.specs.Option.{option_map_or}
use Rattle.std.specs.Prelude.{◌≡◌, All, Bool, IfSome, None, Option, Some, cond, false, length, option_and_then, option_map, slice_get, suc, true, zero, ℕ}
use Rattle.mqb_base.specs.declared.class.TheConstants.Class.{QUEUE_PURGED, RECEIVED}
use Rattle.mqb_base.specs.declared.ids.MessageId.{MessageId}
use Rattle.mqb_base.specs.declared.message.Lane.TheVariants as lane
use Rattle.mqb_base.specs.declared.message.Message.{Message}
use Rattle.mqb_base.specs.declared.queues.EntryPlace.{EntryPlace}
use Rattle.mqb_base.specs.declared.queues.EntryPlace.TheVariants as place
use Rattle.mqb_queue.specs.First.{first_index, index_named, is_queue, is_wanted}
use Rattle.mqb_queue.specs.Lists.{Lists, without}
use Rattle.mqb_queue.specs.Places.{Queue, lists_at, numbered}
use Rattle.mqb_model.specs.Loops.{for_each_below, repeated}
use Rattle.mqb_model.specs.laws.Durable.{durable_effect}
use Rattle.mqb_model.specs.rules.Effects.{Effect, joined, with_line}
use Rattle.mqb_model.specs.rules.Notices.{meets}
use Rattle.mqb_model.specs.rules.Purges.{after_purge, count_at, message_purged, oldest_purged, purge_line, purged}
use Rattle.mqb_model.specs.rules.Takes.{after_take, copied, message_at, message_taken, take_line, taken, taken_at}
use Rattle.mqb_model.specs.state.Durable.{durable, durable_lists, durable_queue}
use Rattle.mqb_model.specs.state.Places.{put_at, without_at}
use Rattle.mqb_model.specs.state.State.{State}
use Rattle.mqb_model.proofs.Holding.{Holds, IsDurable, item_holds, lists_hold, meets_holds, put_holds, without_holds}
use Rattle.mqb_model.proofs.Lenses.{lists_same, place_changed_same, put_same}
use Rattle.mqb_model.proofs.Mapped.{numbered_mapped}
use Rattle.mqb_model.proofs.Meeting.{meets_same}

-- Places.

pub without_same : (s : State) (at : EntryPlace) (k : ℕ) → without_at lane.Durable (durable s) at k ≡ durable (without_at lane.Durable s at k)
without_same s at k = place_changed_same s at (without lane.Durable k) (λ l. refl)

pub message_same : (s : State) (at : EntryPlace) (k : ℕ) → message_at lane.Durable (durable s) at k ≡ message_at lane.Durable s at k
message_same s at k = ap (option_and_then (λ l. slice_get l.durable k)) (lists_same s.places at) ∙ by (lists_at s.places at)
  where
    by : (o : Option Lists) → option_and_then (λ l. slice_get l.durable k) (option_map durable_lists o) ≡ option_and_then (λ l. slice_get l.durable k) o
    by None = refl
    by (Some l) = refl

pub message_holds : (s : State) (at : EntryPlace) (k : ℕ) → Holds s → IfSome (message_at lane.Durable s at k) IsDurable
message_holds s at k h = by (lists_at s.places at) (lists_hold s at h)
  where
    by : (o : Option Lists) → IfSome o (λ l. All IsDurable l.durable) → IfSome (option_and_then (λ l. slice_get l.durable k) o) IsDurable
    by None d = tt
    by (Some l) d = item_holds IsDurable l.durable k d

-- Takes.

copied_same : (s : State) (n : ℕ) (m : Message) → IsDurable m → copied (durable s) n m ≡ durable (copied s n m)
copied_same s n m d = ap (λ o. option_map_or (λ q. cond q.plan.journal (put_at (durable s) (place.JournalOf n) m) (durable s)) o (durable s)) (numbered_mapped durable_queue s.places.queues n) ∙ by (numbered s.places.queues n)
  where
    keeps : (b : Bool) → cond b (put_at (durable s) (place.JournalOf n) m) (durable s) ≡ durable (cond b (put_at s (place.JournalOf n) m) s)
    keeps true = put_same s (place.JournalOf n) m d
    keeps false = refl

    by : (o : Option Queue) → option_map_or (λ q. cond q.plan.journal (put_at (durable s) (place.JournalOf n) m) (durable s)) (option_map durable_queue o) (durable s)
        ≡ durable (option_map_or (λ q. cond q.plan.journal (put_at s (place.JournalOf n) m) s) o s)
    by None = refl
    by (Some q) = keeps q.plan.journal

copied_holds : (s : State) (n : ℕ) (m : Message) → IsDurable m → Holds s → Holds (copied s n m)
copied_holds s n m d h = by (numbered s.places.queues n)
  where
    keeps : (b : Bool) → Holds (cond b (put_at s (place.JournalOf n) m) s)
    keeps true = put_holds s (place.JournalOf n) m d h
    keeps false = h

    by : (o : Option Queue) → Holds (option_map_or (λ q. cond q.plan.journal (put_at s (place.JournalOf n) m) s) o s)
    by None = h
    by (Some q) = keeps q.plan.journal

after_take_same : (s : State) (at : EntryPlace) (m : Message) (now : ℕ) → IsDurable m → after_take (durable s) at m now ≡ durable (after_take s at m now)
after_take_same s (place.Queue n) m now d = ap (λ u. meets u m RECEIVED now) (copied_same s n m d) ∙ meets_same (copied s n m) m RECEIVED now d
after_take_same s at m now d = refl

after_take_holds : (s : State) (at : EntryPlace) (m : Message) (now : ℕ) → IsDurable m → Holds s → Holds (after_take s at m now)
after_take_holds s (place.Queue n) m now d h = meets_holds (copied s n m) m RECEIVED now d (copied_holds s n m d h)
after_take_holds s at m now d h = h

message_taken_same : (at : EntryPlace) (k now : ℕ) (s : State) (m : Message) → IsDurable m
    → message_taken lane.Durable at k now (durable s) m ≡ durable_effect (message_taken lane.Durable at k now s m)
message_taken_same at k now s m d = ap (λ u. with_line (take_line at m) u) (ap (λ u. after_take u at m now) (without_same s at k) ∙ after_take_same (without_at lane.Durable s at k) at m now d)

taken_at_same : (at : EntryPlace) (k now : ℕ) (e : Effect) → Holds e.state → taken_at lane.Durable at k now (durable_effect e) ≡ durable_effect (taken_at lane.Durable at k now e)
taken_at_same at k now e h = ap (λ o. option_map_or (λ m. joined (durable_effect e) (message_taken lane.Durable at k now (durable e.state) m)) o (durable_effect e)) (message_same e.state at k)
    ∙ by (message_at lane.Durable e.state at k) (message_holds e.state at k h)
  where
    by : (o : Option Message) → IfSome o IsDurable → option_map_or (λ m. joined (durable_effect e) (message_taken lane.Durable at k now (durable e.state) m)) o (durable_effect e)
        ≡ durable_effect (option_map_or (λ m. joined e (message_taken lane.Durable at k now e.state m)) o e)
    by None d = refl
    by (Some m) d = ap (λ x. joined (durable_effect e) x) (message_taken_same at k now e.state m d)

taken_at_holds : (at : EntryPlace) (k now : ℕ) (e : Effect) → Holds e.state → Holds (taken_at lane.Durable at k now e).state
taken_at_holds at k now e h = by (message_at lane.Durable e.state at k) (message_holds e.state at k h)
  where
    by : (o : Option Message) → IfSome o IsDurable → Holds (option_map_or (λ m. joined e (message_taken lane.Durable at k now e.state m)) o e).state
    by None d = h
    by (Some m) d = after_take_holds (without_at lane.Durable e.state at k) at m now d (without_holds e.state at k h)

pub index_same : (s : State) (at : EntryPlace) (id : MessageId) (now : ℕ) → index_named (durable s).places at id now ≡ index_named s.places at id now
index_same s at id now = ap (option_and_then (λ l. first_index (is_wanted at now (Some id)) l.durable)) (lists_same s.places at) ∙ by (lists_at s.places at)
  where
    by : (o : Option Lists) → option_and_then (λ l. first_index (is_wanted at now (Some id)) l.durable) (option_map durable_lists o) ≡ option_and_then (λ l. first_index (is_wanted at now (Some id)) l.durable) o
    by None = refl
    by (Some l) = refl

pub taken_same : (at : EntryPlace) (id : MessageId) (now : ℕ) (e : Effect) → Holds e.state → taken at id now (durable_effect e) ≡ durable_effect (taken at id now e)
taken_same at id now e h = ap (λ o. option_map_or (λ k. taken_at lane.Durable at k now (durable_effect e)) o (durable_effect e)) (index_same e.state at id now) ∙ by (index_named e.state.places at id now)
  where
    by : (o : Option ℕ) → option_map_or (λ k. taken_at lane.Durable at k now (durable_effect e)) o (durable_effect e) ≡ durable_effect (option_map_or (λ k. taken_at lane.Durable at k now e) o e)
    by None = refl
    by (Some k) = taken_at_same at k now e h

pub taken_holds : (at : EntryPlace) (id : MessageId) (now : ℕ) (e : Effect) → Holds e.state → Holds (taken at id now e).state
taken_holds at id now e h = by (index_named e.state.places at id now)
  where
    by : (o : Option ℕ) → Holds (option_map_or (λ k. taken_at lane.Durable at k now e) o e).state
    by None = h
    by (Some k) = taken_at_holds at k now e h

-- Loops.

pub repeated_same : (step : Effect → Effect) → ((e : Effect) → Holds e.state → step (durable_effect e) ≡ durable_effect (step e))
    → ((e : Effect) → Holds e.state → Holds (step e).state) → (count : ℕ) (e : Effect) → Holds e.state
    → (repeated count step (durable_effect e) ≡ durable_effect (repeated count step e)) × Holds (repeated count step e).state
repeated_same step same keeps zero e h = (refl, h)
repeated_same step same keeps (suc count) e h = let before = repeated_same step same keeps count e h in
    (ap step before.0 ∙ same (repeated count step e) before.1, keeps (repeated count step e) before.1)

pub each_same : (step : ℕ → Effect → Effect) → ((k : ℕ) (e : Effect) → Holds e.state → step k (durable_effect e) ≡ durable_effect (step k e))
    → ((k : ℕ) (e : Effect) → Holds e.state → Holds (step k e).state) → (count : ℕ) (e : Effect) → Holds e.state
    → (for_each_below count step (durable_effect e) ≡ durable_effect (for_each_below count step e)) × Holds (for_each_below count step e).state
each_same step same keeps zero e h = (refl, h)
each_same step same keeps (suc count) e h = let before = each_same step same keeps count e h in
    (ap (step count) before.0 ∙ same count (for_each_below count step e) before.1, keeps count (for_each_below count step e) before.1)

-- Purges.

after_purge_same : (s : State) (at : EntryPlace) (m : Message) (now : ℕ) → IsDurable m → after_purge (durable s) at m now ≡ durable (after_purge s at m now)
after_purge_same s at m now d = by (is_queue at)
  where
    by : (b : Bool) → cond b (meets (durable s) m QUEUE_PURGED now) (durable s) ≡ durable (cond b (meets s m QUEUE_PURGED now) s)
    by true = meets_same s m QUEUE_PURGED now d
    by false = refl

after_purge_holds : (s : State) (at : EntryPlace) (m : Message) (now : ℕ) → IsDurable m → Holds s → Holds (after_purge s at m now)
after_purge_holds s at m now d h = by (is_queue at)
  where
    by : (b : Bool) → Holds (cond b (meets s m QUEUE_PURGED now) s)
    by true = meets_holds s m QUEUE_PURGED now d h
    by false = h

oldest_same : (at : EntryPlace) (now : ℕ) (e : Effect) → Holds e.state → oldest_purged lane.Durable at now (durable_effect e) ≡ durable_effect (oldest_purged lane.Durable at now e)
oldest_same at now e h = ap (λ o. option_map_or (λ m. joined (durable_effect e) (message_purged lane.Durable at now (durable e.state) m)) o (durable_effect e)) (message_same e.state at 0)
    ∙ by (message_at lane.Durable e.state at 0) (message_holds e.state at 0 h)
  where
    by : (o : Option Message) → IfSome o IsDurable → option_map_or (λ m. joined (durable_effect e) (message_purged lane.Durable at now (durable e.state) m)) o (durable_effect e)
        ≡ durable_effect (option_map_or (λ m. joined e (message_purged lane.Durable at now e.state m)) o e)
    by None d = refl
    by (Some m) d = ap (λ u. joined (durable_effect e) (with_line (purge_line at m) u))
        (ap (λ u. after_purge u at m now) (without_same e.state at 0) ∙ after_purge_same (without_at lane.Durable e.state at 0) at m now d)

oldest_holds : (at : EntryPlace) (now : ℕ) (e : Effect) → Holds e.state → Holds (oldest_purged lane.Durable at now e).state
oldest_holds at now e h = by (message_at lane.Durable e.state at 0) (message_holds e.state at 0 h)
  where
    by : (o : Option Message) → IfSome o IsDurable → Holds (option_map_or (λ m. joined e (message_purged lane.Durable at now e.state m)) o e).state
    by None d = h
    by (Some m) d = after_purge_holds (without_at lane.Durable e.state at 0) at m now d (without_holds e.state at 0 h)

count_same : (s : State) (at : EntryPlace) → count_at lane.Durable (durable s) at ≡ count_at lane.Durable s at
count_same s at = ap (λ o. option_map_or (λ l. length l.durable) o 0) (lists_same s.places at) ∙ by (lists_at s.places at)
  where
    by : (o : Option Lists) → option_map_or (λ l. length l.durable) (option_map durable_lists o) 0 ≡ option_map_or (λ l. length l.durable) o 0
    by None = refl
    by (Some l) = refl

pub purged_same : (at : EntryPlace) (now : ℕ) (e : Effect) → Holds e.state → purged lane.Durable at now (durable_effect e) ≡ durable_effect (purged lane.Durable at now e)
purged_same at now e h = ap (λ n. repeated n (oldest_purged lane.Durable at now) (durable_effect e)) (count_same e.state at)
    ∙ (repeated_same (oldest_purged lane.Durable at now) (oldest_same at now) (oldest_holds at now) (count_at lane.Durable e.state at) e h).0
