-- A queue with a new name joins a list.
use Rattle.std.proofs.Common.{◌≡◌, ℕ, ◌<◌, ◌≤◌, Bool, true, false, cond, ltb, List, [], ◌∷◌, ◌++◌, length, get_or, map, take, Some, None, ◌⊎◌, inl, inr, refl, sym, ap, ◌∙◌, subst, arith}
use Rattle.std.specs.List.{AllPairs, position, position_or_len, slice_get}
use Rattle.std.proofs.lemmas.Bool.{ltb-false}
use Rattle.std.proofs.lemmas.List.{map-append, get_or-map, length-map, length-take, get_or-take, take-map}
use Rattle.std.proofs.lemmas.List.Quantifiers.{all_pairs_push}
use Rattle.std.proofs.lemmas.List.Sums.{fails_before_first}
use Rattle.std.proofs.lemmas.List.Elements.{All-from_get_or}
use Rattle.std.proofs.lemmas.Option.{get_or_from_slice_get, none-some, slice_get_cases, slice_get_within}
use Rattle.mqb_base.specs.Same.{same_ignoring_case}
use Rattle.mqb_queue.specs.Places.{Queue, NamesDiffer, found}
use Rattle.mqb_queue.proofs.Positions.{passes_none}

past_the_end : (p : Queue → Bool) (queues : List Queue) → position p queues ≡ None → length queues ≤ position_or_len p queues
past_the_end p queues none = at (ltb (position_or_len p queues) (length queues)) (λ f. ltb-false (position_or_len p queues) (length queues) f) none
  where
    at : (b : Bool) → (b ≡ false → length queues ≤ position_or_len p queues) → cond b (Some (position_or_len p queues)) None ≡ None
        → length queues ≤ position_or_len p queues
    at true beyond e = absurd (none-some (position_or_len p queues) (sym e))
    at false beyond e = beyond refl

none_has : (queues : List Queue) (name : List ℕ) → found queues name ≡ None → (k : ℕ) (d : List ℕ)
    → k < length (map (λ (q : Queue). q.plan.name) queues)
    → same_ignoring_case (get_or (map (λ (q : Queue). q.plan.name) queues) k d) name ≡ false
none_has queues name none k d within = at (slice_get_cases queues k).1
  where
    name_of : Queue → List ℕ
    name_of q = q.plan.name

    has : Queue → Bool
    has q = same_ignoring_case q.plan.name name

    inside : k < length queues
    inside = subst (λ n. k < n) (length-map queues name_of) within

    at : ((q : Queue) × (k < length queues) × (slice_get queues k ≡ Some q) × (get_or queues k q ≡ q)) ⊎ ((length queues ≤ k) ×
        (slice_get queues k ≡ None))
        → same_ignoring_case (get_or (map name_of queues) k d) name ≡ false
    at (inl (q, there, got, is)) =
        ap (λ n. same_ignoring_case n name) (get_or-map name_of queues k q d inside)
        ∙ fails_before_first has queues k q (omega (arith, inside, past_the_end has queues none))
    at (inr (past, nothing)) = absurd (omega (arith, inside))

pub new_differs : (queues : List Queue) (q : Queue) → found queues q.plan.name ≡ None → NamesDiffer queues → NamesDiffer (queues ++ q ∷ [])
new_differs queues q none differ =
    let name_of : Queue → List ℕ = λ r. r.plan.name in
    subst (λ ns. AllPairs (λ a b. same_ignoring_case a b ≡ false) ns) (sym (map-append name_of queues (q ∷ [])))
    (all_pairs_push (λ a b. same_ignoring_case a b ≡ false) (map name_of queues) q.plan.name differ (none_has queues q.plan.name none))

-- Fewer names still differ.
pub fewer_differ : (n : ℕ) (queues : List Queue) → NamesDiffer queues → NamesDiffer (take n queues)
fewer_differ n queues differ =
    let name_of : Queue → List ℕ = λ r. r.plan.name in
    subst (λ ns. AllPairs (λ a b. same_ignoring_case a b ≡ false) ns) (take-map name_of n queues) (first_differ (map name_of queues) differ)
  where
    first_differ : (names : List (List ℕ)) → AllPairs (λ a b. same_ignoring_case a b ≡ false) names → AllPairs (λ a b. same_ignoring_case a b ≡ false) (take n names)
    first_differ names pairs i j d before within =
        let inside : j < n = omega (arith, within, length-take n names) in
        let there : j < length names = omega (arith, within, length-take n names) in
        subst (λ (a : List ℕ). same_ignoring_case a (get_or (take n names) j d) ≡ false) (sym (get_or-take n names i d (omega (arith, before, inside))))
        (subst (λ (b : List ℕ). same_ignoring_case (get_or names i d) b ≡ false) (sym (get_or-take n names j d inside)) (pairs i j d before there))

-- no queue before one has its name
pub none_before : (queues : List Queue) (k : ℕ) (q : Queue) → NamesDiffer queues → slice_get queues k ≡ Some q → found (take k queues) q.plan.name ≡ None
none_before queues k q differ got =
    passes_none (λ r. same_ignoring_case r.plan.name q.plan.name) (take k queues)
    (All-from_get_or (λ r. same_ignoring_case r.plan.name q.plan.name ≡ false) (take k queues) q (λ i within. apart i within))
  where
    name_of : Queue → List ℕ
    name_of r = r.plan.name

    inside : k < length queues
    inside = slice_get_within queues k q got

    is : get_or (map name_of queues) k q.plan.name ≡ q.plan.name
    is = get_or-map name_of queues k q q.plan.name inside ∙ ap name_of (get_or_from_slice_get queues k q q got)

    apart : (i : ℕ) → i < length (take k queues) → same_ignoring_case (name_of (get_or (take k queues) i q)) q.plan.name ≡ false
    apart i within =
        let before : i < k = omega (arith, within, length-take k queues, inside) in
        let there : i < length queues = omega (arith, before, inside) in
        ap (λ (r : Queue). same_ignoring_case r.plan.name q.plan.name) (get_or-take k queues i q before)
        ∙ (ap (λ (name : List ℕ). same_ignoring_case name q.plan.name) (sym (get_or-map name_of queues i q q.plan.name there))
        ∙ (ap (λ (name : List ℕ). same_ignoring_case (get_or (map name_of queues) i q.plan.name) name) (sym is)
        ∙ differ i k q.plan.name before (omega (arith, inside, length-map queues name_of))))
