-- What a change of one place does to the others.
use Rattle.std.proofs.Common.{◌≡◌, ◌≢◌, ℕ, zero, suc, ◌<◌, ◌≤◌, ◌==◌, Bool, true, false, cond, List, [], ◌∷◌, length, map, set, Option, Some, None, refl, sym, ap, ◌∙◌, subst, arith}
use Rattle.std.specs.Prelude.{slice_get, ◌-◌}
use Rattle.std.specs.Option.{option_map, option_map_or, IsSome}
use Rattle.std.proofs.lemmas.Bool.{true≢false, eqb-true, eq-eqb}
use Rattle.std.proofs.lemmas.Bool.Decides.{nat_tests}
use Rattle.std.proofs.lemmas.List.{map-set}
use Rattle.std.proofs.lemmas.Option.{slice_get-map}
use Rattle.mqb_base.specs.declared.queues.EntryPlace.{EntryPlace}
use Rattle.mqb_base.specs.declared.queues.EntryPlace.TheVariants as entry
use Rattle.mqb_base.specs.declared.queues.QueuePlan.{QueuePlan}
use Rattle.mqb_queue.specs.Laws.{same_entry, plans}
use Rattle.mqb_queue.specs.Lists.{Lists}
use Rattle.mqb_queue.specs.Places.{Places, Queue, numbered, with_numbered, lists_at, with_lists}
use Rattle.mqb_queue.proofs.Lens.{set_same, is_there}
use Rattle.mqb_queue.proofs.Changed.{given}

get-set_other : {X : Type 0} (xs : List X) (k j : ℕ) (y : X) → k ≢ j → slice_get (set xs k y) j ≡ slice_get xs j
get-set_other [] k j y h = refl
get-set_other (x ∷ xs) zero zero y h = absurd (h refl)
get-set_other (x ∷ xs) zero (suc j) y h = refl
get-set_other (x ∷ xs) (suc k) zero y h = refl
get-set_other (x ∷ xs) (suc k) (suc j) y h = get-set_other xs k j y (λ e. h (ap suc e))

-- the member of a number once that of another one, or of the same, was changed
after : {X : Type 0} (xs : List X) (m n : ℕ) (x : X) (change : X → X) → numbered xs m ≡ Some x
    → numbered (with_numbered xs m change) n ≡ cond (m == n) (Some (change x)) (numbered xs n)
after {X} xs m n x change is = at (m == n) refl
  where
    written : with_numbered xs m change ≡ set xs (m - 1) (change x)
    written = ap (λ (o : Option X). option_map_or (λ y. set xs (m - 1) (change y)) o xs) is

    other : (m == n) ≡ false → (b : Bool) → (n == 0) ≡ b → cond b None (slice_get (set xs (m - 1) (change x)) (n - 1)) ≡ cond b None (slice_get xs (n - 1))
    other differ true zero_is = refl
    other differ false some = get-set_other xs (m - 1) (n - 1) (change x) (λ e. differ_not e)
      where
        differ_not : m - 1 ≡ n - 1 → ⊥
        differ_not e = true≢false (sym (eq-eqb m n (grind (arith, nat_tests, (is_there xs m x is).0, some, e))) ∙ differ)

    at : (b : Bool) → (m == n) ≡ b → numbered (with_numbered xs m change) n ≡ cond b (Some (change x)) (numbered xs n)
    at true same = subst (λ (k : ℕ). numbered (with_numbered xs m change) k ≡ Some (change x)) (eqb-true m n same) (given xs m x change is)
    at false differ = ap (λ (ys : List X). numbered ys n) written ∙ other differ (n == 0) refl

-- a part of the queue of a number is given
part_after : {Y : Type 0} (queues : List Queue) (m n : ℕ) (q : Queue) (change : Queue → Queue) (part : Queue → Y) (l : Y) → part (change q) ≡ l
    → numbered queues m ≡ Some q → option_map part (numbered (with_numbered queues m change) n) ≡ cond (m == n) (Some l) (option_map part (numbered queues n))
part_after {Y} queues m n q change part l is_l is = ap (option_map part) (after queues m n q change is) ∙ at (m == n)
  where
    at : (b : Bool) → option_map part (cond b (Some (change q)) (numbered queues n)) ≡ cond b (Some l) (option_map part (numbered queues n))
    at true = ap (λ (y : Y). Some y) is_l
    at false = refl

-- the other part stays
other_after : {Y : Type 0} (queues : List Queue) (m n : ℕ) (q : Queue) (change : Queue → Queue) (part : Queue → Y) → part (change q) ≡ part q
    → numbered queues m ≡ Some q → option_map part (numbered (with_numbered queues m change) n) ≡ option_map part (numbered queues n)
other_after {Y} queues m n q change part same is = part_after queues m n q change part (part q) same is ∙ at (m == n) refl
  where
    at : (b : Bool) → (m == n) ≡ b → cond b (Some (part q)) (option_map part (numbered queues n)) ≡ option_map part (numbered queues n)
    at true e = sym (ap (option_map part) (ap (numbered queues) (sym (eqb-true m n e)) ∙ is))
    at false e = refl

-- the queue of a place that is there
the_queue : {P : Type 0} (part : Queue → Lists) (o : Option Queue) → IsSome (option_map part o) → ((q : Queue) → o ≡ Some q → P) → P
the_queue part None there then = absurd (true≢false (sym there))
the_queue part (Some q) there then = then q refl

pub one_place : (s : Places) (p q : EntryPlace) (l : Lists) → IsSome (lists_at s p)
    → lists_at (with_lists s p l) q ≡ cond (same_entry p q) (Some l) (lists_at s q)
one_place s (entry.Queue m) (entry.Queue n) l there = the_queue (λ r. r.lists) (numbered s.queues m) there
    (λ r is. part_after s.queues m n r (λ t. record t { lists = l }) (λ t. t.lists) l refl is)
one_place s (entry.Queue m) (entry.JournalOf n) l there = the_queue (λ r. r.lists) (numbered s.queues m) there
    (λ r is. other_after s.queues m n r (λ t. record t { lists = l }) (λ t. t.journal) refl is)
one_place s (entry.Queue m) entry.Dead l there = refl
one_place s (entry.Queue m) entry.DeadXact l there = refl
one_place s (entry.Queue m) entry.Journal l there = refl
one_place s (entry.JournalOf m) (entry.Queue n) l there = the_queue (λ r. r.journal) (numbered s.queues m) there
    (λ r is. other_after s.queues m n r (λ t. record t { journal = l }) (λ t. t.lists) refl is)
one_place s (entry.JournalOf m) (entry.JournalOf n) l there = the_queue (λ r. r.journal) (numbered s.queues m) there
    (λ r is. part_after s.queues m n r (λ t. record t { journal = l }) (λ t. t.journal) l refl is)
one_place s (entry.JournalOf m) entry.Dead l there = refl
one_place s (entry.JournalOf m) entry.DeadXact l there = refl
one_place s (entry.JournalOf m) entry.Journal l there = refl
one_place s entry.Dead (entry.Queue n) l there = refl
one_place s entry.Dead (entry.JournalOf n) l there = refl
one_place s entry.Dead entry.Dead l there = refl
one_place s entry.Dead entry.DeadXact l there = refl
one_place s entry.Dead entry.Journal l there = refl
one_place s entry.DeadXact (entry.Queue n) l there = refl
one_place s entry.DeadXact (entry.JournalOf n) l there = refl
one_place s entry.DeadXact entry.Dead l there = refl
one_place s entry.DeadXact entry.DeadXact l there = refl
one_place s entry.DeadXact entry.Journal l there = refl
one_place s entry.Journal (entry.Queue n) l there = refl
one_place s entry.Journal (entry.JournalOf n) l there = refl
one_place s entry.Journal entry.Dead l there = refl
one_place s entry.Journal entry.DeadXact l there = refl
one_place s entry.Journal entry.Journal l there = refl

-- plans
plans_kept : (queues : List Queue) (m : ℕ) (change : Queue → Queue) → ((r : Queue) → (change r).plan ≡ r.plan) → plans (with_numbered queues m change) ≡ plans queues
plans_kept queues m change keeps = at (numbered queues m) refl
  where
    at : (o : Option Queue) → numbered queues m ≡ o → plans (option_map_or (λ q. set queues (m - 1) (change q)) o queues) ≡ plans queues
    at None is = refl
    at (Some q) is =
        map-set (λ r. r.plan) queues (m - 1) (change q)
        ∙ (ap (λ (p : QueuePlan). set (plans queues) (m - 1) p) (keeps q)
        ∙ set_same (plans queues) (m - 1) q.plan (slice_get-map (λ (r : Queue). r.plan) queues (m - 1) ∙ ap (option_map (λ (r : Queue). r.plan)) (is_there queues m q is).1))

pub plans_stay : (s : Places) (p : EntryPlace) (l : Lists) → plans (with_lists s p l).queues ≡ plans s.queues
plans_stay s (entry.Queue m) l = plans_kept s.queues m (λ q. record q { lists = l }) (λ q. refl)
plans_stay s (entry.JournalOf m) l = plans_kept s.queues m (λ q. record q { journal = l }) (λ q. refl)
plans_stay s entry.Dead l = refl
plans_stay s entry.DeadXact l = refl
plans_stay s entry.Journal l = refl
