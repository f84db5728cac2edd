use Rattle.std.specs.Prelude.{◌≡◌, ℕ, Bool, true, false, ◌==◌, List, map, slice_get, Option, Some}
use Rattle.std.specs.Prelude.{IsSome, if◌then◌else◌}
use Rattle.mqb_base.specs.declared.message.Message.{Message}
use Rattle.mqb_base.specs.declared.queues.EntryPlace.{EntryPlace}
use Rattle.mqb_base.specs.declared.queues.EntryPlace.TheVariants as entry
use Rattle.mqb_base.specs.declared.queues.Place.{Place}
use Rattle.mqb_base.specs.declared.queues.Place.TheVariants as place
use Rattle.mqb_base.specs.declared.queues.QueuePlan.{QueuePlan}
use Rattle.mqb_base.specs.Same.{same_ignoring_case}
use Rattle.mqb_queue.specs.First.{First, first_of}
use Rattle.mqb_queue.specs.Lists.{Lists}
use Rattle.mqb_queue.specs.Places.{Places, Queue, NamesDiffer, changed_named, found, lists_at}
use Rattle.mqb_queue.specs.Places.{lists_named, with_lists}

-- There is at most one first message, or none.
abbrev pub AtMostOneFirst : Type 0
AtMostOneFirst = (free : Message → Bool) (held : List Message) (a b : Option Message)
    → First free held a → First free held b → a ≡ b

-- The oldest free message of the greatest priority is the first one.
abbrev pub OldestIsFirst : Type 0
OldestIsFirst = (free : Message → Bool) (held : List Message) → First free held (first_of free held)

-- two places are the same
abbrev pub same_entry : EntryPlace → EntryPlace → Bool
same_entry (entry.Queue a) (entry.Queue b) = a == b
same_entry (entry.JournalOf a) (entry.JournalOf b) = a == b
same_entry entry.Dead entry.Dead = true
same_entry entry.DeadXact entry.DeadXact = true
same_entry entry.Journal entry.Journal = true
same_entry _ _ = false

-- A place that is there and is given lists has them, and every other place has what it had.
abbrev pub OnePlaceChanges : Type 0
OnePlaceChanges = (s : Places) (at other : EntryPlace) (l : Lists) → IsSome (lists_at s at)
    → lists_at (with_lists s at l) other
    ≡ (if same_entry at other then Some l else lists_at s other)

-- two words for one place, the case of names left aside
abbrev pub same_place : Place → Place → Bool
same_place (place.Queue a) (place.Queue b) = same_ignoring_case a b
same_place (place.JournalOf a) (place.JournalOf b) = same_ignoring_case a b
same_place place.Dead place.Dead = true
same_place place.DeadXact place.DeadXact = true
same_place place.Journal place.Journal = true
same_place _ _ = false

-- The same by name.
abbrev pub OneNamedPlaceChanges : Type 0
OneNamedPlaceChanges = (s : Places) (p q : Place) (l : Lists) → IsSome (lists_named s p)
    → lists_named (changed_named s p (λ m. l)) q
    ≡ (if same_place p q then Some l else lists_named s q)

abbrev pub plans : List Queue → List QueuePlan
plans queues = map (λ q. q.plan) queues

-- The plans of the queues stay.
abbrev pub PlansStay : Type 0
PlansStay =
    (s : Places) (at : EntryPlace) (l : Lists) → plans (with_lists s at l).queues ≡ plans s.queues

-- Where names differ, each queue is found by its name.
abbrev pub FoundByItsName : Type 0
FoundByItsName = (queues : List Queue) (k : ℕ) (q : Queue) → NamesDiffer queues
    → slice_get queues k ≡ Some q → found queues q.plan.name ≡ Some k
