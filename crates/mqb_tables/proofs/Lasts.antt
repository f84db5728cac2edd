-- The last member that passes.
use Rattle.std.proofs.Common.{◌≡◌, ◌⊎◌, inl, inr, ℕ, zero, suc, ◌+◌, ◌<◌, Bool, true, false, cond, List, [], ◌∷◌, ◌++◌, length, get_or, map, take, filter, Option, Some, None, refl, sym, ap, ◌∙◌, subst}
use Rattle.std.specs.Prelude.{slice_get}
use Rattle.std.specs.Option.{option_map}
use Rattle.std.proofs.lemmas.Option.{none-some, same_Some}
use Rattle.std.specs.List.{last_or}
use Rattle.std.proofs.lemmas.List.{take_more}
use Rattle.std.proofs.lemmas.List.Elements.{filter-append}

last_or-append : {X : Type 0} (o : Option X) (xs ys : List X) → last_or o (xs ++ ys) ≡ last_or (last_or o xs) ys
last_or-append o [] ys = refl
last_or-append o (x ∷ xs) ys = last_or-append (Some x) xs ys

pub last_more : {X : Type 0} (p : X → Bool) (xs : List X) (k : ℕ) (x : X) → k < length xs → get_or xs k x ≡ x
    → last_or None (filter p (take (k + 1) xs)) ≡ cond (p x) (Some x) (last_or None (filter p (take k xs)))
last_more {X} p xs k x within is =
    ap (λ (ys : List X). last_or None (filter p ys)) (take_more xs k x within ∙ ap (λ (y : X). take k xs ++ y ∷ []) is)
    ∙ (ap (λ (ys : List X). last_or None ys) (filter-append p (take k xs) (x ∷ []))
    ∙ (last_or-append None (filter p (take k xs)) (filter p (x ∷ [])) ∙ at (p x)))
  where
    at : (b : Bool) → last_or (last_or None (filter p (take k xs))) (cond b (x ∷ []) []) ≡ cond b (Some x) (last_or None (filter p (take k xs)))
    at true = refl
    at false = refl

pub last_pushed : {X : Type 0} (p : X → Bool) (xs : List X) (x : X) → last_or None (filter p (xs ++ x ∷ [])) ≡ cond (p x) (Some x) (last_or None (filter p xs))
last_pushed {X} p xs x =
    ap (λ (ys : List X). last_or None ys) (filter-append p xs (x ∷ [])) ∙ (last_or-append None (filter p xs) (filter p (x ∷ [])) ∙ at (p x))
  where
    at : (b : Bool) → last_or (last_or None (filter p xs)) (cond b (x ∷ []) []) ≡ cond b (Some x) (last_or None (filter p xs))
    at true = refl
    at false = refl

-- ---- it passes, and is one of them

last_from : {X : Type 0} (p : X → Bool) (xs : List X) (x : X) (o : Option X) → last_or o (filter p xs) ≡ Some x
    → (o ≡ Some x) ⊎ ((k : ℕ) × (slice_get xs k ≡ Some x) × (p x ≡ true))
last_from p [] x o is = inl is
last_from {X} p (y ∷ ys) x o is = at (p y) refl is (last_from p ys x)
  where
    at : (b : Bool) → p y ≡ b → last_or o (cond b (y ∷ filter p ys) (filter p ys)) ≡ Some x
        → ((o : Option X) → last_or o (filter p ys) ≡ Some x → (o ≡ Some x) ⊎ ((k : ℕ) × (slice_get ys k ≡ Some x) × (p x ≡ true)))
        → (o ≡ Some x) ⊎ ((k : ℕ) × (slice_get (y ∷ ys) k ≡ Some x) × (p x ≡ true))
    at true passes last rest = first (rest (Some y) last)
      where
        first : (Some y ≡ Some x) ⊎ ((k : ℕ) × (slice_get ys k ≡ Some x) × (p x ≡ true)) → (o ≡ Some x) ⊎ ((k : ℕ) × (slice_get (y ∷ ys) k ≡ Some x) × (p x ≡ true))
        first (inl e) = inr (0, e, subst (λ z. p z ≡ true) (same_Some y x e) passes)
        first (inr r) = inr (suc r.0, r.1, r.2)
    at false passes last rest = later (rest o last)
      where
        later : (o ≡ Some x) ⊎ ((k : ℕ) × (slice_get ys k ≡ Some x) × (p x ≡ true)) → (o ≡ Some x) ⊎ ((k : ℕ) × (slice_get (y ∷ ys) k ≡ Some x) × (p x ≡ true))
        later (inl e) = inl e
        later (inr r) = inr (suc r.0, r.1, r.2)

pub last_there : {X : Type 0} (p : X → Bool) (xs : List X) (x : X) → last_or None (filter p xs) ≡ Some x → (k : ℕ) × (slice_get xs k ≡ Some x) × (p x ≡ true)
last_there {X} p xs x is = at None refl (last_from p xs x None is)
  where
    at : (o : Option X) → o ≡ None → (o ≡ Some x) ⊎ ((k : ℕ) × (slice_get xs k ≡ Some x) × (p x ≡ true)) → (k : ℕ) × (slice_get xs k ≡ Some x) × (p x ≡ true)
    at o none (inl e) = absurd (none-some x (sym none ∙ e))
    at o none (inr r) = r

-- ---- there is one where one passes

still_some : {X : Type 0} (xs : List X) (x : X) → (y : X) × (last_or (Some x) xs ≡ Some y)
still_some [] x = (x, refl)
still_some (z ∷ zs) x = still_some zs z

some_last : {X : Type 0} (p : X → Bool) (xs : List X) (k : ℕ) (x : X) (o : Option X) → slice_get xs k ≡ Some x → p x ≡ true → (y : X) × (last_or o (filter p xs) ≡ Some y)
some_last p [] k x o is passes = absurd (none-some x is)
some_last {X} p (z ∷ zs) zero x o is passes =
    subst (λ (b : Bool). (y : X) × (last_or o (cond b (z ∷ filter p zs) (filter p zs)) ≡ Some y)) (sym (ap p (same_Some z x is) ∙ passes)) (still_some (filter p zs) z)
some_last {X} p (z ∷ zs) (suc k) x o is passes = at (p z) (λ c. some_last p zs k x c is passes)
  where
    at : (b : Bool) → ((c : Option X) → (y : X) × (last_or c (filter p zs) ≡ Some y)) → (y : X) × (last_or o (cond b (z ∷ filter p zs) (filter p zs)) ≡ Some y)
    at true rest = rest (Some z)
    at false rest = rest o

pub last_is_there : {X : Type 0} (p : X → Bool) (xs : List X) (k : ℕ) (x : X) → slice_get xs k ≡ Some x → p x ≡ true → (y : X) × (last_or None (filter p xs) ≡ Some y)
last_is_there p xs k x is passes = some_last p xs k x None is passes

-- ---- of what the members have

tagged : {X T : Type 0} (tag : X → T) (p : T → Bool) (xs : List X) (o : Option X)
    → last_or (option_map tag o) (filter p (map tag xs)) ≡ option_map tag (last_or o (filter (λ x. p (tag x)) xs))
tagged tag p [] o = refl
tagged {X} tag p (x ∷ xs) o = at (p (tag x)) (tagged tag p xs)
  where
    at : (b : Bool) → ((c : Option X) → last_or (option_map tag c) (filter p (map tag xs)) ≡ option_map tag (last_or c (filter (λ y. p (tag y)) xs)))
        → last_or (option_map tag o) (cond b (tag x ∷ filter p (map tag xs)) (filter p (map tag xs)))
        ≡ option_map tag (last_or o (cond b (x ∷ filter (λ y. p (tag y)) xs) (filter (λ y. p (tag y)) xs)))
    at true rest = rest (Some x)
    at false rest = rest o

pub last_tagged : {X T : Type 0} (tag : X → T) (p : T → Bool) (xs : List X) → last_or None (filter p (map tag xs)) ≡ option_map tag (last_or None (filter (λ x. p (tag x)) xs))
last_tagged tag p xs = tagged tag p xs None
