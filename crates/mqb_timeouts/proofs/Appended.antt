-- Lists to which members were added that do not pass.
use Rattle.std.proofs.Common.{◌≡◌, ◌⊎◌, inl, inr, ℕ, zero, suc, ◌+◌, ◌<◌, ◌≤◌, Bool, true, false, cond, List, [], ◌∷◌, ◌++◌, length, take, drop, Option, Some, None, refl, sym, ap, ◌∙◌, subst, arith, append_assoc}
use Rattle.std.specs.Prelude.{count_by, remove, slice_get, sum_by}
use Rattle.std.specs.List.{All, position}
use Rattle.std.specs.Option.{option_map, option_map_or}
use Rattle.std.proofs.lemmas.Bool.{cases_lt}
use Rattle.std.proofs.lemmas.List.{take_all}
use Rattle.std.proofs.lemmas.List.Elements.{All-cons, All-nil}
use Rattle.std.proofs.lemmas.List.Sums.{sum_by-append, sum_by-cons, sum_by_more}
use Rattle.std.proofs.lemmas.Option.{none-some, same_Some, slice_get-get_or, slice_get_past}
use Rattle.mqb_queue.proofs.Positions.{position_step}

pub append_nothing : {X : Type 0} (xs : List X) → xs ++ [] ≡ xs
append_nothing [] = refl
append_nothing (x ∷ xs) = ap (λ rest. x ∷ rest) (append_nothing xs)

-- members were added at the end, and none of them passes
pub record Appended {X : Type 0} (p : X → Bool) (xs ys : List X) : Type 0 where
  pub extra : List X
  pub whole : ys ≡ xs ++ extra
  pub none : count_by p extra ≡ 0

pub appended_refl : {X : Type 0} (p : X → Bool) (xs : List X) → Appended p xs xs
appended_refl p xs = record { extra = []; whole = sym (append_nothing xs); none = refl }

pub appended_one : {X : Type 0} (p : X → Bool) (xs : List X) (x : X) → p x ≡ false → Appended p xs (xs ++ x ∷ [])
appended_one p xs x fails = record { extra = x ∷ []; whole = refl; none = ap (λ (b : Bool). 0 + cond b 1 0) fails }

pub appended_trans : {X : Type 0} (p : X → Bool) (xs ys zs : List X) → Appended p xs ys → Appended p ys zs → Appended p xs zs
appended_trans {X} p xs ys zs a b = record {
  extra = a.extra ++ b.extra;
  whole = b.whole ∙ (ap (λ (l : List X). l ++ b.extra) a.whole ∙ append_assoc xs a.extra b.extra);
  none = let both = sum_by-append (λ (x : X). cond (p x) 1 0) a.extra b.extra in omega (arith, both, a.none, b.none);
}

-- as many pass as before
pub appended_count : {X : Type 0} (p : X → Bool) (xs ys : List X) → Appended p xs ys → count_by p ys ≡ count_by p xs
appended_count {X} p xs ys a =
    let both = sum_by-append (λ (x : X). cond (p x) 1 0) xs a.extra in
    let whole = ap (count_by p) a.whole in
    omega (arith, both, whole, a.none)

-- what stands before the first member that passes
pub none_before : {X : Type 0} (p : X → Bool) (xs : List X) (k : ℕ) → position p xs ≡ Some k → All (λ x. p x ≡ false) (take k xs)
none_before p [] k is = absurd (none-some k is)
none_before {X} p (x ∷ xs) k is = at (p x) refl (sym (position_step p x xs) ∙ is) (none_before p xs)
  where
    at : (b : Bool) → p x ≡ b → cond b (Some 0) (option_map suc (position p xs)) ≡ Some k → ((j : ℕ) → position p xs ≡ Some j → All (λ y. p y ≡ false) (take j xs))
        → All (λ y. p y ≡ false) (take k (x ∷ xs))
    at true so h rest = subst (λ (n : ℕ). All (λ y. p y ≡ false) (take n (x ∷ xs))) (same_Some 0 k h) (All-nil (λ y. p y ≡ false))
    at false so h rest = later (position p xs) refl h
      where
        later : (o : Option ℕ) → position p xs ≡ o → option_map suc o ≡ Some k → All (λ y. p y ≡ false) (take k (x ∷ xs))
        later None e g = absurd (none-some k g)
        later (Some j) e g = subst (λ (n : ℕ). All (λ y. p y ≡ false) (take n (x ∷ xs))) (same_Some (suc j) k g)
            (All-cons (λ y. p y ≡ false) x (take j xs) so (rest j e))

-- the members before one that leaves stay where they are
pub before_stays : {X : Type 0} (xs extra : List X) (k : ℕ) → k < length xs → take k (remove xs k ++ extra) ≡ take k xs
before_stays [] extra k h = absurd (omega (arith, h))
before_stays (x ∷ xs) extra zero h = refl
before_stays (x ∷ xs) extra (suc k) h = ap (λ l. x ∷ l) (before_stays xs extra k (omega (arith, h)))

-- so none of them passes once the first one that passes has left
pub none_passes_then : {X : Type 0} (p : X → Bool) (xs ys : List X) (k : ℕ) → position p xs ≡ Some k → k < length xs → Appended p (remove xs k) ys
    → All (λ x. p x ≡ false) (take k ys)
none_passes_then {X} p xs ys k is within a = subst (λ (l : List X). All (λ x. p x ≡ false) l)
    (sym (ap (take k) a.whole ∙ before_stays xs a.extra k within)) (none_before p xs k is)

-- sums over the first members
pub sum_step : {X : Type 0} (f : X → ℕ) (xs : List X) (k : ℕ) → sum_by f (take (k + 1) xs) ≡ sum_by f (take k xs) + option_map_or f (slice_get xs k) 0
sum_step f [] k =
    let a = ap (sum_by f) (take_all (k + 1) [] (omega arith)) in
    let b = ap (sum_by f) (take_all k [] (omega arith)) in
    omega (arith, a, b)
sum_step {X} f (x ∷ xs) k = at (cases_lt k (length (x ∷ xs)))
  where
    at : (k < length (x ∷ xs)) ⊎ (length (x ∷ xs) ≤ k)
        → sum_by f (take (k + 1) (x ∷ xs)) ≡ sum_by f (take k (x ∷ xs)) + option_map_or f (slice_get (x ∷ xs) k) 0
    at (inl h) = sum_by_more f (x ∷ xs) k x h
        ∙ ap (λ (o : Option X). sum_by f (take k (x ∷ xs)) + option_map_or f o 0) (sym (slice_get-get_or (x ∷ xs) k x h))
    at (inr h) =
        let a = ap (sum_by f) (take_all (k + 1) (x ∷ xs) (omega (arith, h))) in
        let b = ap (sum_by f) (take_all k (x ∷ xs) h) in
        let e = ap (λ (o : Option X). option_map_or f o 0) (slice_get_past (x ∷ xs) k h) in
        omega (arith, a, b, e)

-- one member more is counted
pub count_step : {X : Type 0} (p : X → Bool) (xs : List X) (k : ℕ) (x : X) → slice_get xs k ≡ Some x
    → count_by p (take (k + 1) xs) ≡ count_by p (take k xs) + cond (p x) 1 0
count_step {X} p xs k x is = sum_step (λ y. cond (p y) 1 0) xs k
    ∙ ap (λ (o : Option X). count_by p (take k xs) + option_map_or (λ y. cond (p y) 1 0) o 0) is

-- members of the same sizes
pub same_sums : {X : Type 0} (f : X → ℕ) (xs ys : List X) → ((k : ℕ) → option_map_or f (slice_get ys k) 0 ≡ option_map_or f (slice_get xs k) 0) → sum_by f ys ≡ sum_by f xs
same_sums f [] [] same = refl
same_sums f [] (y ∷ ys) same =
    let h = same_sums f [] ys (λ k. same (suc k)) in
    let a = sum_by-cons f y ys in
    let b : f y ≡ 0 = same 0 in
    omega (arith, h, a, b)
same_sums f (x ∷ xs) [] same =
    let h = same_sums f xs [] (λ k. same (suc k)) in
    let a = sum_by-cons f x xs in
    let b : 0 ≡ f x = same 0 in
    omega (arith, h, a, b)
same_sums f (x ∷ xs) (y ∷ ys) same =
    let h = same_sums f xs ys (λ k. same (suc k)) in
    let a = sum_by-cons f x xs in
    let c = sum_by-cons f y ys in
    let b : f y ≡ f x = same 0 in
    omega (arith, h, a, b, c)
