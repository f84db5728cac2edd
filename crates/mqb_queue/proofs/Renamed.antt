-- What a change of one place, named by its queue's name, does to the others.
use Rattle.std.proofs.Common.{◌≡◌, ℕ, ◌+◌, ◌==◌, Bool, true, false, cond, List, [], ◌∷◌, map, Option, Some, None, refl, sym, ap, ◌∙◌, subst, arith}
use Rattle.std.specs.List.{position}
use Rattle.std.specs.Option.{option_map, option_map_or, option_and_then, IsSome}
use Rattle.std.proofs.lemmas.Bool.{true≢false, eqb-true, eq-eqb}
use Rattle.std.proofs.lemmas.Option.{none-some, same_Some}
use Rattle.mqb_base.specs.Same.{same_ignoring_case}
use Rattle.mqb_base.specs.declared.queues.EntryPlace.{EntryPlace}
use Rattle.mqb_base.specs.declared.queues.EntryPlace.TheVariants as entry
use Rattle.mqb_base.specs.declared.queues.Place.{Place}
use Rattle.mqb_base.specs.declared.queues.Place.TheVariants as place
use Rattle.mqb_base.specs.declared.queues.QueuePlan.{QueuePlan}
use Rattle.mqb_queue.specs.Laws.{same_entry, same_place, plans}
use Rattle.mqb_queue.specs.Lists.{Lists}
use Rattle.mqb_queue.specs.Places.{Places, Queue, found, place_named, lists_at, lists_named, with_lists, changed_at, changed_named}
use Rattle.mqb_queue.proofs.Names.{same_found, same_from_found}
use Rattle.mqb_queue.proofs.Others.{one_place, plans_stay}
use Rattle.mqb_queue.proofs.Positions.{position_map}

-- a name finds the same in queues of the same plans
found_by_plans : (before after : List Queue) (name : List ℕ) → plans after ≡ plans before → found after name ≡ found before name
found_by_plans before after name same =
    sym (position_map (λ (q : Queue). q.plan) (λ (p : QueuePlan). same_ignoring_case p.name name) after)
    ∙ (ap (position (λ (p : QueuePlan). same_ignoring_case p.name name)) same
    ∙ position_map (λ (q : Queue). q.plan) (λ (p : QueuePlan). same_ignoring_case p.name name) before)

place_by_plans : (before after : List Queue) (p : Place) → plans after ≡ plans before → place_named after p ≡ place_named before p
place_by_plans before after (place.Queue name) same = ap (option_map (λ k. entry.Queue (k + 1))) (found_by_plans before after name same)
place_by_plans before after (place.JournalOf name) same = ap (option_map (λ k. entry.JournalOf (k + 1))) (found_by_plans before after name same)
place_by_plans before after place.Dead same = refl
place_by_plans before after place.DeadXact same = refl
place_by_plans before after place.Journal same = refl

-- names and numbers agree
any_queue : (queues : List Queue) (x : List ℕ) (k : ℕ) → found queues x ≡ Some k → Queue
any_queue [] x k is = absurd (none-some k is)
any_queue (q ∷ queues) x k is = q

named_same : (queues : List Queue) (x y : List ℕ) (j k : ℕ) → found queues x ≡ Some j → found queues y ≡ Some k → (j + 1 == k + 1) ≡ same_ignoring_case x y
named_same queues x y j k at_x at_y = at (same_ignoring_case x y) refl
  where
    at : (b : Bool) → same_ignoring_case x y ≡ b → (j + 1 == k + 1) ≡ b
    at true same = eq-eqb (j + 1) (k + 1) (ap (λ n. n + 1) (same_Some j k (sym at_x ∙ (sym (same_found queues x y same) ∙ at_y))))
    at false differ = not_same (j + 1 == k + 1) refl
      where
        not_same : (b : Bool) → (j + 1 == k + 1) ≡ b → b ≡ false
        not_same false e = refl
        not_same true e =
            let same : j ≡ k = omega (arith, eqb-true (j + 1) (k + 1) e) in
            absurd (true≢false (sym (same_from_found queues x y k (any_queue queues y k at_y) (at_x ∙ ap (λ n. Some n) same) at_y) ∙ differ))

missing : (queues : List Queue) (x y : List ℕ) (j : ℕ) → found queues x ≡ Some j → found queues y ≡ None → same_ignoring_case x y ≡ false
missing queues x y j at_x none = at (same_ignoring_case x y) refl
  where
    at : (b : Bool) → same_ignoring_case x y ≡ b → b ≡ false
    at false e = refl
    at true same = absurd (none-some j (sym none ∙ (same_found queues x y same ∙ at_x)))

with_found : {P : Type 0} (f : ℕ → EntryPlace) (o : Option ℕ) (a : EntryPlace) → option_map f o ≡ Some a → ((k : ℕ) → o ≡ Some k → f k ≡ a → P) → P
with_found f None a is then = absurd (none-some a is)
with_found f (Some k) a is then = then k refl (same_Some (f k) a is)

none_found : (f : ℕ → EntryPlace) (o : Option ℕ) → option_map f o ≡ None → o ≡ None
none_found f None is = refl
none_found f (Some k) is = absurd (none-some (f k) (sym is))

abbrev Agree : Place → Place → EntryPlace → EntryPlace → Type 0
Agree p q a b = same_entry a b ≡ same_place p q

agreed : (p q : Place) (a b c d : EntryPlace) → c ≡ a → d ≡ b → Agree p q c d → Agree p q a b
agreed p q a b c d is_a is_b h = subst (λ e. Agree p q e b) is_a (subst (λ e. Agree p q c e) is_b h)

agree : (queues : List Queue) (p q : Place) (a b : EntryPlace) → place_named queues p ≡ Some a → place_named queues q ≡ Some b → Agree p q a b
agree queues (place.Queue x) (place.Queue y) a b h g = with_found (λ k. entry.Queue (k + 1)) (found queues x) a h (λ j at_x is_a. with_found (λ k. entry.Queue (k + 1)) (found queues y) b g (λ k at_y is_b. agreed (place.Queue x) (place.Queue y) a b (entry.Queue (j + 1)) (entry.Queue (k + 1)) is_a is_b (named_same queues x y j k at_x at_y)))
agree queues (place.Queue x) (place.JournalOf y) a b h g = with_found (λ k. entry.Queue (k + 1)) (found queues x) a h (λ j at_x is_a. with_found (λ k. entry.JournalOf (k + 1)) (found queues y) b g (λ k at_y is_b. agreed (place.Queue x) (place.JournalOf y) a b (entry.Queue (j + 1)) (entry.JournalOf (k + 1)) is_a is_b refl))
agree queues (place.Queue x) place.Dead a b h g = with_found (λ k. entry.Queue (k + 1)) (found queues x) a h (λ j at_x is_a. agreed (place.Queue x) place.Dead a b (entry.Queue (j + 1)) entry.Dead is_a (same_Some entry.Dead b g) refl)
agree queues (place.Queue x) place.DeadXact a b h g = with_found (λ k. entry.Queue (k + 1)) (found queues x) a h (λ j at_x is_a. agreed (place.Queue x) place.DeadXact a b (entry.Queue (j + 1)) entry.DeadXact is_a (same_Some entry.DeadXact b g) refl)
agree queues (place.Queue x) place.Journal a b h g = with_found (λ k. entry.Queue (k + 1)) (found queues x) a h (λ j at_x is_a. agreed (place.Queue x) place.Journal a b (entry.Queue (j + 1)) entry.Journal is_a (same_Some entry.Journal b g) refl)
agree queues (place.JournalOf x) (place.Queue y) a b h g = with_found (λ k. entry.JournalOf (k + 1)) (found queues x) a h (λ j at_x is_a. with_found (λ k. entry.Queue (k + 1)) (found queues y) b g (λ k at_y is_b. agreed (place.JournalOf x) (place.Queue y) a b (entry.JournalOf (j + 1)) (entry.Queue (k + 1)) is_a is_b refl))
agree queues (place.JournalOf x) (place.JournalOf y) a b h g = with_found (λ k. entry.JournalOf (k + 1)) (found queues x) a h (λ j at_x is_a. with_found (λ k. entry.JournalOf (k + 1)) (found queues y) b g (λ k at_y is_b. agreed (place.JournalOf x) (place.JournalOf y) a b (entry.JournalOf (j + 1)) (entry.JournalOf (k + 1)) is_a is_b (named_same queues x y j k at_x at_y)))
agree queues (place.JournalOf x) place.Dead a b h g = with_found (λ k. entry.JournalOf (k + 1)) (found queues x) a h (λ j at_x is_a. agreed (place.JournalOf x) place.Dead a b (entry.JournalOf (j + 1)) entry.Dead is_a (same_Some entry.Dead b g) refl)
agree queues (place.JournalOf x) place.DeadXact a b h g = with_found (λ k. entry.JournalOf (k + 1)) (found queues x) a h (λ j at_x is_a. agreed (place.JournalOf x) place.DeadXact a b (entry.JournalOf (j + 1)) entry.DeadXact is_a (same_Some entry.DeadXact b g) refl)
agree queues (place.JournalOf x) place.Journal a b h g = with_found (λ k. entry.JournalOf (k + 1)) (found queues x) a h (λ j at_x is_a. agreed (place.JournalOf x) place.Journal a b (entry.JournalOf (j + 1)) entry.Journal is_a (same_Some entry.Journal b g) refl)
agree queues place.Dead (place.Queue y) a b h g = with_found (λ k. entry.Queue (k + 1)) (found queues y) b g (λ k at_y is_b. agreed place.Dead (place.Queue y) a b entry.Dead (entry.Queue (k + 1)) (same_Some entry.Dead a h) is_b refl)
agree queues place.Dead (place.JournalOf y) a b h g = with_found (λ k. entry.JournalOf (k + 1)) (found queues y) b g (λ k at_y is_b. agreed place.Dead (place.JournalOf y) a b entry.Dead (entry.JournalOf (k + 1)) (same_Some entry.Dead a h) is_b refl)
agree queues place.Dead place.Dead a b h g = agreed place.Dead place.Dead a b entry.Dead entry.Dead (same_Some entry.Dead a h) (same_Some entry.Dead b g) refl
agree queues place.Dead place.DeadXact a b h g = agreed place.Dead place.DeadXact a b entry.Dead entry.DeadXact (same_Some entry.Dead a h) (same_Some entry.DeadXact b g) refl
agree queues place.Dead place.Journal a b h g = agreed place.Dead place.Journal a b entry.Dead entry.Journal (same_Some entry.Dead a h) (same_Some entry.Journal b g) refl
agree queues place.DeadXact (place.Queue y) a b h g = with_found (λ k. entry.Queue (k + 1)) (found queues y) b g (λ k at_y is_b. agreed place.DeadXact (place.Queue y) a b entry.DeadXact (entry.Queue (k + 1)) (same_Some entry.DeadXact a h) is_b refl)
agree queues place.DeadXact (place.JournalOf y) a b h g = with_found (λ k. entry.JournalOf (k + 1)) (found queues y) b g (λ k at_y is_b. agreed place.DeadXact (place.JournalOf y) a b entry.DeadXact (entry.JournalOf (k + 1)) (same_Some entry.DeadXact a h) is_b refl)
agree queues place.DeadXact place.Dead a b h g = agreed place.DeadXact place.Dead a b entry.DeadXact entry.Dead (same_Some entry.DeadXact a h) (same_Some entry.Dead b g) refl
agree queues place.DeadXact place.DeadXact a b h g = agreed place.DeadXact place.DeadXact a b entry.DeadXact entry.DeadXact (same_Some entry.DeadXact a h) (same_Some entry.DeadXact b g) refl
agree queues place.DeadXact place.Journal a b h g = agreed place.DeadXact place.Journal a b entry.DeadXact entry.Journal (same_Some entry.DeadXact a h) (same_Some entry.Journal b g) refl
agree queues place.Journal (place.Queue y) a b h g = with_found (λ k. entry.Queue (k + 1)) (found queues y) b g (λ k at_y is_b. agreed place.Journal (place.Queue y) a b entry.Journal (entry.Queue (k + 1)) (same_Some entry.Journal a h) is_b refl)
agree queues place.Journal (place.JournalOf y) a b h g = with_found (λ k. entry.JournalOf (k + 1)) (found queues y) b g (λ k at_y is_b. agreed place.Journal (place.JournalOf y) a b entry.Journal (entry.JournalOf (k + 1)) (same_Some entry.Journal a h) is_b refl)
agree queues place.Journal place.Dead a b h g = agreed place.Journal place.Dead a b entry.Journal entry.Dead (same_Some entry.Journal a h) (same_Some entry.Dead b g) refl
agree queues place.Journal place.DeadXact a b h g = agreed place.Journal place.DeadXact a b entry.Journal entry.DeadXact (same_Some entry.Journal a h) (same_Some entry.DeadXact b g) refl
agree queues place.Journal place.Journal a b h g = agreed place.Journal place.Journal a b entry.Journal entry.Journal (same_Some entry.Journal a h) (same_Some entry.Journal b g) refl

-- a place that is not there is not one that is
apart : (queues : List Queue) (p q : Place) (a : EntryPlace) → place_named queues p ≡ Some a → place_named queues q ≡ None → same_place p q ≡ false
apart queues (place.Queue x) (place.Queue y) a h g = with_found (λ k. entry.Queue (k + 1)) (found queues x) a h (λ j at_x is_a. missing queues x y j at_x (none_found (λ k. entry.Queue (k + 1)) (found queues y) g))
apart queues (place.Queue x) (place.JournalOf y) a h g = refl
apart queues (place.Queue x) place.Dead a h g = absurd (none-some entry.Dead (sym g))
apart queues (place.Queue x) place.DeadXact a h g = absurd (none-some entry.DeadXact (sym g))
apart queues (place.Queue x) place.Journal a h g = absurd (none-some entry.Journal (sym g))
apart queues (place.JournalOf x) (place.Queue y) a h g = refl
apart queues (place.JournalOf x) (place.JournalOf y) a h g = with_found (λ k. entry.JournalOf (k + 1)) (found queues x) a h (λ j at_x is_a. missing queues x y j at_x (none_found (λ k. entry.JournalOf (k + 1)) (found queues y) g))
apart queues (place.JournalOf x) place.Dead a h g = absurd (none-some entry.Dead (sym g))
apart queues (place.JournalOf x) place.DeadXact a h g = absurd (none-some entry.DeadXact (sym g))
apart queues (place.JournalOf x) place.Journal a h g = absurd (none-some entry.Journal (sym g))
apart queues place.Dead (place.Queue y) a h g = refl
apart queues place.Dead (place.JournalOf y) a h g = refl
apart queues place.Dead place.Dead a h g = absurd (none-some entry.Dead (sym g))
apart queues place.Dead place.DeadXact a h g = absurd (none-some entry.DeadXact (sym g))
apart queues place.Dead place.Journal a h g = absurd (none-some entry.Journal (sym g))
apart queues place.DeadXact (place.Queue y) a h g = refl
apart queues place.DeadXact (place.JournalOf y) a h g = refl
apart queues place.DeadXact place.Dead a h g = absurd (none-some entry.Dead (sym g))
apart queues place.DeadXact place.DeadXact a h g = absurd (none-some entry.DeadXact (sym g))
apart queues place.DeadXact place.Journal a h g = absurd (none-some entry.Journal (sym g))
apart queues place.Journal (place.Queue y) a h g = refl
apart queues place.Journal (place.JournalOf y) a h g = refl
apart queues place.Journal place.Dead a h g = absurd (none-some entry.Dead (sym g))
apart queues place.Journal place.DeadXact a h g = absurd (none-some entry.DeadXact (sym g))
apart queues place.Journal place.Journal a h g = absurd (none-some entry.Journal (sym g))

pub one_named_place : (s : Places) (p q : Place) (l : Lists) → IsSome (lists_named s p)
    → lists_named (changed_named s p (λ m. l)) q ≡ cond (same_place p q) (Some l) (lists_named s q)
one_named_place s p q l there = at (place_named s.queues p) refl there
  where
    given_at : (a : EntryPlace) → place_named s.queues p ≡ Some a → IsSome (lists_at s a) → lists_named (with_lists s a l) q ≡ cond (same_place p q) (Some l) (lists_named s q)
    given_at a is_a has =
        ap (option_and_then (lists_at (with_lists s a l))) (place_by_plans s.queues (with_lists s a l).queues q (plans_stay s a l))
        ∙ other (place_named s.queues q) refl
      where
        other : (o : Option EntryPlace) → place_named s.queues q ≡ o
            → option_and_then (lists_at (with_lists s a l)) o ≡ cond (same_place p q) (Some l) (option_and_then (lists_at s) o)
        other None is = sym (ap (λ b. cond b (Some l) None) (apart s.queues p q a is_a is))
        other (Some b) is = one_place s a b l has ∙ ap (λ t. cond t (Some l) (lists_at s b)) (agree s.queues p q a b is_a is)

    changed_to : (a : EntryPlace) (o : Option Lists) → IsSome o → option_map_or (λ m. with_lists s a l) o s ≡ with_lists s a l
    changed_to a None h = absurd (true≢false (sym h))
    changed_to a (Some m) h = refl

    at : (o : Option EntryPlace) → place_named s.queues p ≡ o → IsSome (option_and_then (lists_at s) o)
        → lists_named (option_map_or (λ a. changed_at s a (λ m. l)) o s) q ≡ cond (same_place p q) (Some l) (lists_named s q)
    at None is h = absurd (true≢false (sym h))
    at (Some a) is h = ap (λ t. lists_named t q) (changed_to a (lists_at s a) h) ∙ given_at a is h
