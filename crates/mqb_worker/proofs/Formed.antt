-- What waits in a queue of a valid state is one of the messages of its places.
use Rattle.std.proofs.lemmas.List.Elements.{recursion_from_All}
use Rattle.std.specs.List.{AllByRecursion, flat_map}
use Rattle.std.specs.Prelude.{[], ◌++◌, ◌-◌, ◌==◌, ◌∷◌, Bool, IfSome, List, None, Option, Some, cond, false, option_and_then, slice_get, suc, true, zero, ℕ}
use Rattle.mqb_base.specs.Messages.{IsWellFormed}
use Rattle.mqb_base.specs.declared.message.Message.{Message}
use Rattle.mqb_base.specs.declared.queues.EntryPlace.TheVariants as place
use Rattle.mqb_packet.specs.declared.packet.Headers.TheVariants as headers
use Rattle.mqb_queue.specs.First.{first_index, is_free}
use Rattle.mqb_queue.specs.Places.{Queue, numbered}
use Rattle.mqb_model.specs.state.Resolving.{queue_named}
use Rattle.mqb_model.specs.state.State.{State}
use Rattle.mqb_model.specs.state.Valid.{IsCarried, IsValidState, placed_messages}
use Rattle.mqb_worker.specs.Work.{waiting_at, waiting_in, waiting_of}

-- Lists.

all_left : {X : Type 0} (P : X → Type 0) (xs ys : List X) → AllByRecursion P (xs ++ ys) → AllByRecursion P xs
all_left P [] ys h = tt
all_left P (x ∷ xs) ys h = (h.0, all_left P xs ys h.1)

all_right : {X : Type 0} (P : X → Type 0) (xs ys : List X) → AllByRecursion P (xs ++ ys) → AllByRecursion P ys
all_right P [] ys h = h
all_right P (x ∷ xs) ys h = all_right P xs ys h.1

get_has : {X : Type 0} (P : X → Type 0) (xs : List X) (k : ℕ) → AllByRecursion P xs → IfSome (slice_get xs k) P
get_has P [] k h = tt
get_has P (x ∷ xs) zero h = h.0
get_has P (x ∷ xs) (suc k) h = get_has P xs k h.1

module _ (P : Message → Type 0) where
  -- a queue's durable messages have it
  abbrev QueueHas : Queue → Type 0
  QueueHas q = AllByRecursion P q.lists.durable

  in_queues : (qs : List Queue) → AllByRecursion P (flat_map (λ q. q.lists.durable ++ q.journal.durable) qs) → AllByRecursion QueueHas qs
  in_queues [] h = tt
  in_queues (q ∷ qs) h =
      let more = flat_map (λ (q : Queue). q.lists.durable ++ q.journal.durable) qs in (
        all_left P q.lists.durable q.journal.durable (all_left P (q.lists.durable ++ q.journal.durable) more h),
        in_queues qs (all_right P (q.lists.durable ++ q.journal.durable) more h),
      )

  queues_have : (s : State) → AllByRecursion P (placed_messages s) → AllByRecursion QueueHas s.places.queues
  queues_have s h =
      let queues = flat_map (λ (q : Queue). q.lists.durable ++ q.journal.durable) s.places.queues in
      in_queues s.places.queues
      (all_left P queues s.places.dead.durable
      (all_left P (queues ++ s.places.dead.durable) s.places.dead_xact.durable
      (all_left P (queues ++ s.places.dead.durable ++ s.places.dead_xact.durable) s.places.journal.durable h)))

  numbered_has : (qs : List Queue) (n : ℕ) → AllByRecursion QueueHas qs → IfSome (numbered qs n) QueueHas
  numbered_has qs n h = at (n == 0)
    where
      at : (b : Bool) → IfSome (cond b None (slice_get qs (n - 1))) QueueHas
      at true = tt
      at false = get_has QueueHas qs (n - 1) h

  of_queue : (now number : ℕ) (q : Queue) → QueueHas q → IfSome (waiting_of now number q) P
  of_queue now number q h = at (first_index (is_free (place.Queue number) now) q.lists.durable)
    where
      at : (o : Option ℕ) → IfSome (option_and_then (slice_get q.lists.durable) o) P
      at None = tt
      at (Some k) = get_has P q.lists.durable k h

  at_number : (s : State) (now number : ℕ) → AllByRecursion QueueHas s.places.queues → IfSome (waiting_at s now number) P
  at_number s now number h = at (numbered s.places.queues number) (numbered_has s.places.queues number h)
    where
      at : (o : Option Queue) → IfSome o QueueHas → IfSome (option_and_then (waiting_of now number) o) P
      at None has = tt
      at (Some q) has = of_queue now number q has

  pub waiting_has : (s : State) (name : List ℕ) (now : ℕ) → AllByRecursion P (placed_messages s) → IfSome (waiting_in s name now) P
  waiting_has s name now h = at (queue_named s name)
    where
      at : (o : Option ℕ) → IfSome (option_and_then (waiting_at s now) o) P
      at None = tt
      at (Some number) = at_number s now number (queues_have s h)

formed : (o : Option Message) → IfSome o (IsCarried headers.Bare) → IfSome o IsWellFormed
formed None h = tt
formed (Some m) h = h.well_formed

-- so it can be answered
pub waiting_is_formed : (s : State) (name : List ℕ) (now : ℕ) → IsValidState s → IfSome (waiting_in s name now) IsWellFormed
waiting_is_formed s name now valid =
    formed (waiting_in s name now)
    (waiting_has (IsCarried headers.Bare) s name now (recursion_from_All (IsCarried headers.Bare) (placed_messages s) valid.placed))
