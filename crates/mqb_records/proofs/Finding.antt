-- Queues that code looks for.
use Rattle.std.proofs.Common.{refl, ap, ◌∙◌}
use Rattle.std.specs.List.{list_any}
use Rattle.std.specs.Prelude.{◌&&◌, ◌+◌, ◌==◌, ◌∷◌, ◌≡◌, ◌||◌, [], Bool, List, None, Option, Some, false, length, nat_lt, not, option_map, slice_get, take, true, ℕ}
use Rattle.mqb_base.specs.Same.{same_ignoring_case}
use Rattle.mqb_base.specs.declared.queues.QueuePlan.{QueuePlan}
use Rattle.mqb_fate.specs.Orders.{is_order_name}
use Rattle.mqb_queue.specs.Places.{Queue, found}
use Rattle.mqb_model.specs.declared.limits.TheConstants.{MAX_QUEUES}
use Rattle.mqb_model.specs.records.Peer.{is_taken_by, next_queue, queue_fits, queue_there, shares_guid}
use Rattle.mqb_model.specs.state.State.{State}
use Rattle.mqb_arrivals.proofs.Searching.{any_there, none_at, none_more}

-- Queues.

-- the queue at an index, whose plan is known
pub queue_at : (qs : List Queue) (k : ℕ) (plan : QueuePlan) → option_map (λ q. q.plan) (slice_get qs k) ≡ Some plan → (q : Queue) × (slice_get qs k ≡ Some q) × (q.plan ≡ plan)
queue_at qs k plan h = by (slice_get qs k) refl h
  where
    by : (o : Option Queue) → slice_get qs k ≡ o → option_map (λ q. q.plan) o ≡ Some plan → (q : Queue) × (slice_get qs k ≡ Some q) × (q.plan ≡ plan)
    by None is h = absurd (let no : ⊥ = cc in no)
    by (Some q) is h = (q, is, cc)

-- a test of plans is the test of their queues
abbrev pub Tells : (Queue → Bool) → (QueuePlan → Bool) → Type 0
Tells p t = (q : Queue) → p q ≡ t q.plan

pub queue_passes : (p : Queue → Bool) (t : QueuePlan → Bool) → Tells p t → (qs : List Queue) (k : ℕ) (plan : QueuePlan) → option_map (λ q. q.plan) (slice_get qs k) ≡ Some plan
    → t plan ≡ true → list_any p qs ≡ true
queue_passes p t tells qs k plan h does = let q = queue_at qs k plan h in any_there p qs k q.0 q.1 (tells q.0 ∙ (ap t q.2 ∙ does))

pub queue_fails : (p : Queue → Bool) (t : QueuePlan → Bool) → Tells p t → (qs : List Queue) (k : ℕ) (plan : QueuePlan) → list_any p (take k qs) ≡ false
    → option_map (λ q. q.plan) (slice_get qs k) ≡ Some plan → t plan ≡ false → list_any p (take (k + 1) qs) ≡ false
queue_fails p t tells qs k plan none h fails = let q = queue_at qs k plan h in none_more p qs k q.0 none q.1 (tells q.0 ∙ (ap t q.2 ∙ fails))

or_left : (a b : Bool) → (a || b) ≡ false → a ≡ false
or_left true b h = h
or_left false b h = refl

or_parts : (a b : Bool) → (a || b) ≡ false → (a ≡ false) × (b ≡ false)
or_parts true b h = absurd (let no : ⊥ = cc in no)
or_parts false b h = (refl, h)

not_parts : (b : Bool) → not b ≡ true → b ≡ false
not_parts true h = absurd (let no : ⊥ = cc in no)
not_parts false h = refl

any_fewer : {X : Type 0} (p q : X → Bool) (xs : List X) → ((x : X) → q x ≡ false → p x ≡ false) → list_any q xs ≡ false → list_any p xs ≡ false
any_fewer p q [] weaker h = refl
any_fewer p q (x ∷ xs) weaker h = let both = or_parts (q x) (list_any q xs) h in
    ap (λ b. b || list_any p xs) (weaker x both.0) ∙ any_fewer p q xs weaker both.1

-- the name of a queue that fits is free
pub name_is_free : (s : State) (number : ℕ) (plan : QueuePlan) → queue_fits s number plan ≡ true → found s.places.queues plan.name ≡ None
name_is_free s number plan h =
    let there : queue_there s plan ≡ false = not_parts (queue_there s plan) (middle (number == next_queue s) (not (queue_there s plan)) (nat_lt (length s.places.queues) MAX_QUEUES) h) in
    let none = or_parts (is_order_name plan.name) (list_any (is_taken_by plan) s.places.queues) there in
    none_at (λ q. same_ignoring_case q.plan.name plan.name) s.places.queues
    (any_fewer (λ q. same_ignoring_case q.plan.name plan.name) (is_taken_by plan) s.places.queues
    (λ q g. or_left (same_ignoring_case q.plan.name plan.name) (shares_guid plan q) g) none.1)
  where
    middle : (a b c : Bool) → (a && b && c) ≡ true → b ≡ true
    middle true true c h = refl
    middle true false c h = h
    middle false true c h = refl
    middle false false c h = h
