-- How queues are swept.
use Rattle.std.proofs.Common.{◌≡◌, ◌≢◌, ℕ, zero, suc, ◌+◌, ◌-◌, ◌<◌, ◌≤◌, ◌==◌, Bool, true, false, cond, List, [], length, Option, Some, None, refl, sym, ap, ◌∙◌, subst, arith}
use Rattle.std.specs.List.{All, position}
use Rattle.std.specs.Option.{IsSome, option_map_or}
use Rattle.std.specs.Prelude.{count_by, option_and_then, option_map, remove, slice_get}
use Rattle.std.proofs.lemmas.Bool.Decides.{nat_tests}
use Rattle.std.proofs.lemmas.Option.{none-some, slice_get_within}
use Rattle.mqb_base.specs.declared.class.TheConstants.Class.{RECEIVE_TIMEOUT}
use Rattle.mqb_base.specs.declared.message.Lane.{Lane}
use Rattle.mqb_base.specs.declared.message.Lane.TheVariants as lane
use Rattle.mqb_base.specs.declared.message.Message.{Message}
use Rattle.mqb_base.specs.declared.queues.EntryPlace.TheVariants as place
use Rattle.mqb_queue.specs.Laws.{same_entry}
use Rattle.mqb_queue.specs.Lists.{Lists, messages_in, without}
use Rattle.mqb_queue.specs.Places.{Queue, lists_at, numbered, with_lists}
use Rattle.mqb_queue.proofs.Changed.{lists_given}
use Rattle.mqb_queue.proofs.Lens.{numbered_is}
use Rattle.mqb_queue.proofs.Others.{one_place}
use Rattle.mqb_model.specs.Loops.{for_each_below, repeated}
use Rattle.mqb_model.specs.rules.Effects.{Effect, joined}
use Rattle.mqb_model.specs.rules.Notices.{meets}
use Rattle.mqb_model.specs.rules.Takes.{message_at}
use Rattle.mqb_model.specs.rules.Timeouts.{cannot_be_received, message_swept, next_swept, queue_swept, sweeping, sweeping_in}
use Rattle.mqb_model.specs.state.Places.{with_place, without_at}
use Rattle.mqb_model.specs.state.State.{State}
use Rattle.mqb_timeouts.specs.Waiting.{NoneSwept, queued, swept_count}
use Rattle.mqb_timeouts.proofs.Appended.{Appended, appended_count, none_before, none_passes_then}
use Rattle.mqb_timeouts.proofs.Due.{IsUndue, meets_undue}

pub numbered_next : {X : Type 0} (xs : List X) (k : ℕ) → numbered xs (k + 1) ≡ slice_get xs k
numbered_next xs k = numbered_is xs (k + 1) (grind (arith, nat_tests)) ∙ ap (λ (j : ℕ). slice_get xs j) (omega arith)

-- the message of a lane of the queue at an index is swept, where it is there
abbrev swept_at : Lane → ℕ → ℕ → ℕ → Effect → Effect
swept_at kind now k index e = option_map_or (λ m. joined e (message_swept kind now (k + 1) index e.state m))
    (message_at kind e.state (place.Queue (k + 1)) index) e

-- the next one that is due is
pub next_swept_is : (kind : Lane) (now k : ℕ) (e : Effect)
    → next_swept kind now k e ≡ option_map_or (λ index. swept_at kind now k index e) (position (cannot_be_received now) (queued kind e.state k)) e
next_swept_is kind now k e = by (slice_get e.state.places.queues k)
    ∙ ap (λ (o : Option Queue). found o) (sym (numbered_next e.state.places.queues k))
  where
    -- where the queue of the number is this one
    found : Option Queue → Effect
    found o = option_map_or (λ index. option_map_or (λ m. joined e (message_swept kind now (k + 1) index e.state m))
        (option_and_then (λ l. slice_get (messages_in kind l) index) (option_map (λ q. q.lists) o)) e)
        (position (cannot_be_received now) (option_map_or (messages_in kind) (option_map (λ q. q.lists) o) [])) e

    by : (o : Option Queue) → option_map_or (λ q. option_map_or (λ index. option_map_or (λ m. joined e (message_swept kind now (k + 1) index e.state m))
        (slice_get (messages_in kind q.lists) index) e) (sweeping kind now q) e) o e ≡ found o
    by None = refl
    by (Some q) = refl

-- how many are due
pub swept_count_is : (kind : Lane) (now : ℕ) (s : State) (k : ℕ) → swept_count kind now s k ≡ count_by (cannot_be_received now) (queued kind s k)
swept_count_is kind now s k = by (slice_get s.places.queues k)
    ∙ ap (λ (o : Option Queue). count_by (cannot_be_received now) (option_map_or (messages_in kind) (option_map (λ q. q.lists) o) [])) (sym (numbered_next s.places.queues k))
  where
    by : (o : Option Queue) → option_map_or (sweeping_in kind now) o 0
        ≡ count_by (cannot_be_received now) (option_map_or (messages_in kind) (option_map (λ q. q.lists) o) [])
    by None = refl
    by (Some q) = refl

without_is : (kind : Lane) (k : ℕ) (l : Lists) → messages_in kind (without kind k l) ≡ remove (messages_in kind l) k
without_is lane.Durable k l = refl
without_is lane.Express k l = refl

-- the queue without the message
left_queued : (kind : Lane) (s : State) (k index : ℕ) (l : Lists) → lists_at s.places (place.Queue (k + 1)) ≡ Some l
    → queued kind (without_at kind s (place.Queue (k + 1)) index) k ≡ remove (messages_in kind l) index
left_queued kind s k index l is =
    ap (λ (o : Option Lists). option_map_or (messages_in kind) (lists_at (option_map_or (λ m. with_lists s.places (place.Queue (k + 1)) (without kind index m)) o s.places) (place.Queue (k + 1))) []) is
    ∙ (ap (λ (o : Option Lists). option_map_or (messages_in kind) o []) (lists_given s.places (place.Queue (k + 1)) l (without kind index l) is)
    ∙ without_is kind index l)

-- once it is swept, none before it is due
pub none_swept_before : (kind : Lane) (now k index : ℕ) (e : Effect) → position (cannot_be_received now) (queued kind e.state k) ≡ Some index
    → NoneSwept kind now (swept_at kind now k index e).state k index
none_swept_before kind now k index e found = by (lists_at e.state.places (place.Queue (k + 1))) refl found
  where
    p : Message → Bool
    p = cannot_be_received now

    gone : (l : Lists) → lists_at e.state.places (place.Queue (k + 1)) ≡ Some l → position p (messages_in kind l) ≡ Some index
        → (o : Option Message) → slice_get (messages_in kind l) index ≡ o
        → NoneSwept kind now (option_map_or (λ m. joined e (message_swept kind now (k + 1) index e.state m)) o e).state k index
    gone l is found None there = none_before p (queued kind e.state k) index (ap (λ (o : Option Lists). position p (option_map_or (messages_in kind) o [])) is ∙ found)
    gone l is found (Some m) there =
        let left = without_at kind e.state (place.Queue (k + 1)) index in
        let then = meets left m RECEIVE_TIMEOUT now in
        none_passes_then p (messages_in kind l) (queued kind then k) index found (slice_get_within (messages_in kind l) index m there)
        (subst (λ (ms : List Message). Appended p ms (queued kind then k)) (left_queued kind e.state k index l is)
        ((meets_undue now left m RECEIVE_TIMEOUT now).queues kind k))

    by : (o : Option Lists) → lists_at e.state.places (place.Queue (k + 1)) ≡ o → position p (option_map_or (messages_in kind) o []) ≡ Some index
        → NoneSwept kind now (option_map_or (λ m. joined e (message_swept kind now (k + 1) index e.state m))
        (option_and_then (λ l. slice_get (messages_in kind l) index) o) e).state k index
    by None is found = absurd (none-some index found)
    by (Some l) is found = gone l is found (slice_get (messages_in kind l) index) refl

-- The other queues stay.

other_queued : (kind : Lane) (s : State) (k j : ℕ) (change : Lists → Lists) → j ≢ k → queued kind (with_place change s (place.Queue (k + 1))) j ≡ queued kind s j
other_queued kind s k j change other = by (lists_at s.places (place.Queue (k + 1))) refl
  where
    differ : (k + 1 == j + 1) ≡ false
    differ = grind (arith, nat_tests)

    by : (o : Option Lists) → lists_at s.places (place.Queue (k + 1)) ≡ o
        → option_map_or (messages_in kind) (lists_at (option_map_or (λ l. with_lists s.places (place.Queue (k + 1)) (change l)) o s.places) (place.Queue (j + 1))) []
        ≡ queued kind s j
    by None is = refl
    by (Some l) is = ap (λ (o : Option Lists). option_map_or (messages_in kind) o [])
        (one_place s.places (place.Queue (k + 1)) (place.Queue (j + 1)) (change l) (subst (λ (o : Option Lists). IsSome o) (sym is) refl)
        ∙ ap (λ (b : Bool). cond b (Some (change l)) (lists_at s.places (place.Queue (j + 1)))) differ)

-- as many of another queue are due as before
swept_others : (kind : Lane) (now k index j : ℕ) (e : Effect) → j ≢ k → swept_count kind now (swept_at kind now k index e).state j ≡ swept_count kind now e.state j
swept_others kind now k index j e other = by (message_at kind e.state (place.Queue (k + 1)) index)
  where
    by : (o : Option Message) → swept_count kind now (option_map_or (λ m. joined e (message_swept kind now (k + 1) index e.state m)) o e).state j ≡ swept_count kind now e.state j
    by None = refl
    by (Some m) =
        let left = without_at kind e.state (place.Queue (k + 1)) index in
        let then = meets left m RECEIVE_TIMEOUT now in
        swept_count_is kind now then j
        ∙ (appended_count (cannot_be_received now) (queued kind left j) (queued kind then j) ((meets_undue now left m RECEIVE_TIMEOUT now).queues kind j)
        ∙ (ap (count_by (cannot_be_received now)) (other_queued kind e.state k j (without kind index) other)
        ∙ sym (swept_count_is kind now e.state j)))

next_others : (kind : Lane) (now k j : ℕ) (e : Effect) → j ≢ k → swept_count kind now (next_swept kind now k e).state j ≡ swept_count kind now e.state j
next_others kind now k j e other = ap (λ (x : Effect). swept_count kind now x.state j) (next_swept_is kind now k e)
    ∙ by (position (cannot_be_received now) (queued kind e.state k))
  where
    by : (o : Option ℕ) → swept_count kind now (option_map_or (λ index. swept_at kind now k index e) o e).state j ≡ swept_count kind now e.state j
    by None = refl
    by (Some index) = swept_others kind now k index j e other

queue_others : (kind : Lane) (now k j n : ℕ) (e : Effect) → j ≢ k → swept_count kind now (repeated n (next_swept kind now k) e).state j ≡ swept_count kind now e.state j
queue_others kind now k j zero e other = refl
queue_others kind now k j (suc n) e other = next_others kind now k j (repeated n (next_swept kind now k) e) other ∙ queue_others kind now k j n e other

pub later_swept : (kind : Lane) (now j n : ℕ) (e : Effect) → n ≤ j → swept_count kind now (for_each_below n (queue_swept kind now) e).state j ≡ swept_count kind now e.state j
later_swept kind now j zero e h = refl
later_swept kind now j (suc n) e h =
    let before = for_each_below n (queue_swept kind now) e in
    let other : j ≢ n = omega (arith, h) in
    queue_others kind now n j (option_map_or (sweeping_in kind now) (slice_get before.state.places.queues n) 0) before other
    ∙ later_swept kind now j n e (omega (arith, h))
