-- A queue is looked for by its plan.
use Rattle.std.proofs.Common.{◌≡◌, ◌+◌, ℕ, zero, suc, Bool, true, false, List, [], ◌∷◌, Option, Some, None, get_or, take, refl, ap, ◌∙◌}
use Rattle.std.specs.List.{list_any}
use Rattle.std.specs.Option.{option_map}
use Rattle.std.specs.Prelude.{◌||◌, slice_get}
use Rattle.std.proofs.lemmas.List.Folds.{list_any_more}
use Rattle.std.proofs.lemmas.Option.{get_or_from_slice_get, none-some, same_Some, slice_get_within}

or_right : (a b : Bool) → b ≡ true → (a || b) ≡ true
or_right true b h = refl
or_right false b h = h

any_there : {X : Type 0} (p : X → Bool) (xs : List X) (k : ℕ) (x : X) → slice_get xs k ≡ Some x → p x ≡ true → list_any p xs ≡ true
any_there p [] k x is h = absurd (none-some x is)
any_there p (y ∷ ys) zero x is h = ap (λ b. b || list_any p ys) (ap p (same_Some y x is) ∙ h)
any_there p (y ∷ ys) (suc k) x is h = or_right (p y) (list_any p ys) (any_there p ys k x is h)

-- the member at an index, of which a part is known
member_of : {X Y : Type 0} (see : X → Y) (xs : List X) (k : ℕ) (y : Y) → option_map see (slice_get xs k) ≡ Some y → (x : X) × (slice_get xs k ≡ Some x) × (see x ≡ y)
member_of {X} {Y} see xs k y h = at (slice_get xs k) refl h
  where
    at : (o : Option X) → slice_get xs k ≡ o → option_map see o ≡ Some y → (x : X) × (slice_get xs k ≡ Some x) × (see x ≡ y)
    at None is h = absurd (none-some y h)
    at (Some x) is h = (x, is, same_Some (see x) y h)

-- it passes
pub seen_passes : {X Y : Type 0} (see : X → Y) (p : Y → Bool) (xs : List X) (k : ℕ) (y : Y) → option_map see (slice_get xs k) ≡ Some y → p y ≡ true
    → list_any (λ x. p (see x)) xs ≡ true
seen_passes see p xs k y is h = let m = member_of see xs k y is in any_there (λ x. p (see x)) xs k m.0 m.1 (ap p m.2 ∙ h)

-- it does not, as those before it
pub seen_fails : {X Y : Type 0} (see : X → Y) (p : Y → Bool) (xs : List X) (k : ℕ) (y : Y) → list_any (λ x. p (see x)) (take k xs) ≡ false
    → option_map see (slice_get xs k) ≡ Some y → p y ≡ false → list_any (λ x. p (see x)) (take (k + 1) xs) ≡ false
seen_fails {X} see p xs k y none is h =
    let m = member_of see xs k y is in
    list_any_more (λ x. p (see x)) xs k m.0 (slice_get_within xs k m.0 m.1)
    ∙ (ap (λ b. b || p (see (get_or xs k m.0))) none
    ∙ (ap (λ (x : X). p (see x)) (get_or_from_slice_get xs k m.0 m.0 m.1) ∙ (ap p m.2 ∙ h)))
