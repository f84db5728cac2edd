-- What holds of each member that a loop has come by.
use Rattle.std.proofs.Common.{◌≡◌, ◌≤◌, ◌<◌, ◌+◌, ℕ, List, inl, inr, None, Option, Some, get_or, length, map, take, refl, ap, subst, sym, ◌∙◌}
use Rattle.std.proofs.lemmas.List.{take_all}
use Rattle.std.proofs.lemmas.List.Elements.{All-from_recursion, All-more, recursion_from_All}
use Rattle.std.proofs.lemmas.Option.{get_or_from_slice_get, slice_get_cases, slice_get_within}
use Rattle.std.specs.Prelude.{All, IsSomeAnd, option_map, slice_get}
use Rattle.mqb_snapshot.proofs.Members.{all_mapped}

-- of the first so many members
abbrev pub SoFar : {X : Type 0} → (X → Type 0) → List X → ℕ → Type 0
SoFar P xs i = All P (take i xs)

pub more : {X : Type 0} (P : X → Type 0) (xs : List X) (i : ℕ) (x : X) → SoFar P xs i → i < length xs → x ≡ get_or xs i x → P x → SoFar P xs (i + 1)
more P xs i x so within is one = All-more P xs i x within so (subst P is one)

-- the same where the member was asked for
pub more_got : {X : Type 0} (P : X → Type 0) (xs : List X) (i : ℕ) (x : X) → SoFar P xs i → slice_get xs i ≡ Some x → P x → SoFar P xs (i + 1)
more_got P xs i x so got one = more P xs i x so (slice_get_within xs i x got) (sym (get_or_from_slice_get xs i x x got)) one

-- the same where what is seen of the member was asked for
pub more_seen : {X Y : Type 0} (see : X → Y) (P : Y → Type 0) (xs : List X) (i : ℕ) (y : Y) → SoFar (λ x. P (see x)) xs i → option_map see (slice_get xs i) ≡ Some y → P y
    → SoFar (λ x. P (see x)) xs (i + 1)
more_seen {X} {Y} see P xs i y so got one = elim (slice_get_cases xs i).1 [
  | inl here ↦
      let same : Some (see here.0) ≡ Some y = ap (option_map see) (sym here.2) ∙ got in
      let seen : see here.0 ≡ y = cc in
      more_got (λ x. P (see x)) xs i here.0 so here.2 (subst P (sym seen) one)
  | inr past ↦ absurd (none_is_not (option_map see (slice_get xs i)) y (ap (option_map see) past.1) got)
]
  where
    none_is_not : (o : Option Y) (y : Y) → o ≡ None → o ≡ Some y → ⊥
    none_is_not o y none some = cc

-- the same where the member is there
pub more_there : {X : Type 0} (P : X → Type 0) (xs : List X) (i : ℕ) → SoFar P xs i → IsSomeAnd (slice_get xs i) P → SoFar P xs (i + 1)
more_there {X} P xs i so there = at (slice_get xs i) refl there
  where
    at : (o : Option X) → slice_get xs i ≡ o → IsSomeAnd o P → SoFar P xs (i + 1)
    at (Some x) got one = more_got P xs i x so got one
    at None got one = absurd one

-- of all of them
pub of_all : {X : Type 0} (P : X → Type 0) (xs : List X) (i : ℕ) → length xs ≤ i → SoFar P xs i → All P xs
of_all P xs i past so = subst (All P) (take_all i xs past) so

-- and of what is seen of each
pub of_seen : {X Y : Type 0} (P : Y → Type 0) (see : X → Y) (xs : List X) → All (λ x. P (see x)) xs → All P (map see xs)
of_seen P see xs all = All-from_recursion P (map see xs) (all_mapped P see xs (recursion_from_All (λ x. P (see x)) xs all))
