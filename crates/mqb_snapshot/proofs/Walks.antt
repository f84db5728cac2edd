-- Members that are put one after the other, as loops do.
use Rattle.std.proofs.Common.{◌≡◌, inl, inr, None, Option, ◌≤◌, ◌<◌, ◌+◌, ℕ, suc, List, [], ◌∷◌, ◌++◌, length, drop, get_or, Some, refl, sym, ap, ◌∙◌, arith, append_assoc, drop-cons}
use Rattle.std.specs.List.{flat_map, slice_get}
use Rattle.std.specs.Prelude.{IsSomeAnd, option_map}
use Rattle.std.proofs.lemmas.Option.{get_or_from_slice_get, slice_get_cases, slice_get_within}
use Rattle.std.proofs.lemmas.List.{append-nil, drop_all}

front_of : {A : Type 0} (xs : List A) (i : ℕ) (x : A) → i < length xs → x ≡ get_or xs i x → drop i xs ≡ x ∷ drop (i + 1) xs
front_of {A} xs i x within is =
    let next : suc i ≡ i + 1 = omega arith in
    drop-cons xs i x within ∙ ap (λ (y : A). y ∷ drop (suc i) xs) (sym is) ∙ ap (λ (n : ℕ). x ∷ drop n xs) next

-- so far the first members were put
pub record PutSoFar {X : Type 0} (spell : X → List ℕ) (xs : List X) (i : ℕ) (old new : List ℕ) : Type 0 where
  pub within : i ≤ length xs
  pub text : new ++ flat_map spell (drop i xs) ≡ old ++ flat_map spell xs

pub put_begins : {X : Type 0} (spell : X → List ℕ) (xs : List X) (old : List ℕ) → PutSoFar spell xs 0 old old
put_begins spell xs old = record { within = omega arith; text = refl }

pub put_more : {X : Type 0} (spell : X → List ℕ) (xs : List X) (i : ℕ) (old new : List ℕ) (x : X) (newer : List ℕ)
    → PutSoFar spell xs i old new → i < length xs → x ≡ get_or xs i x → newer ≡ new ++ spell x → PutSoFar spell xs (i + 1) old newer
put_more spell xs i old new x newer s within is added =
    let rest = flat_map spell (drop (i + 1) xs) in
    let front : flat_map spell (drop i xs) ≡ spell x ++ rest = ap (flat_map spell) (front_of xs i x within is) in
    record {
      within = omega (arith, within);
      text = ap (λ (t : List ℕ). t ++ rest) added ∙ append_assoc new (spell x) rest ∙ ap (λ (t : List ℕ). new ++ t) (sym front) ∙ s.text;
    }

-- all of them were put
pub put_done : {X : Type 0} (spell : X → List ℕ) (xs : List X) (i : ℕ) (old new : List ℕ) → PutSoFar spell xs i old new → length xs ≤ i → new ≡ old ++ flat_map spell xs
put_done spell xs i old new s past =
    let none : flat_map spell (drop i xs) ≡ [] = ap (flat_map spell) (drop_all i xs past) in
    sym (append-nil new) ∙ ap (λ (t : List ℕ). new ++ t) (sym none) ∙ s.text

-- and their count before them
pub put_all : {X : Type 0} (spell : X → List ℕ) (xs : List X) (i : ℕ) (base count old new : List ℕ)
    → old ≡ base ++ count → PutSoFar spell xs i old new → length xs ≤ i → new ≡ base ++ (count ++ flat_map spell xs)
put_all spell xs i base count old new before s past =
    put_done spell xs i old new s past ∙ ap (λ (t : List ℕ). t ++ flat_map spell xs) before ∙ append_assoc base count (flat_map spell xs)

-- the same where the member was asked for
pub put_got : {X : Type 0} (spell : X → List ℕ) (xs : List X) (i : ℕ) (old new : List ℕ) (x : X) (newer : List ℕ)
    → PutSoFar spell xs i old new → slice_get xs i ≡ Some x → newer ≡ new ++ spell x → PutSoFar spell xs (i + 1) old newer
put_got spell xs i old new x newer s got added =
    put_more spell xs i old new x newer s (slice_get_within xs i x got) (sym (get_or_from_slice_get xs i x x got)) added

-- two parts that were added in turn
pub two_added : (out first second a b : List ℕ) → a ≡ out ++ first → b ≡ a ++ second → b ≡ out ++ (first ++ second)
two_added out first second a b one two = two ∙ ap (λ (x : List ℕ). x ++ second) one ∙ append_assoc out first second

-- the same where what is seen of the member was asked for
pub put_seen : {X Y : Type 0} (see : X → Y) (tell : Y → List ℕ) (xs : List X) (i : ℕ) (old new : List ℕ) (y : Y) (newer : List ℕ)
    → PutSoFar (λ x. tell (see x)) xs i old new → option_map see (slice_get xs i) ≡ Some y → newer ≡ new ++ tell y → PutSoFar (λ x. tell (see x)) xs (i + 1) old newer
put_seen {X} {Y} see tell xs i old new y newer s got added = elim (slice_get_cases xs i).1 [
  | inl here ↦
      let same : Some (see here.0) ≡ Some y = ap (option_map see) (sym here.2) ∙ got in
      let seen : see here.0 ≡ y = cc in
      put_got (λ x. tell (see x)) xs i old new here.0 newer s here.2 (added ∙ ap (λ (z : Y). new ++ tell z) (sym seen))
  | inr past ↦ absurd (none_is_not (option_map see (slice_get xs i)) y (ap (option_map see) past.1) got)
]
  where
    none_is_not : {Y : Type 0} (o : Option Y) (y : Y) → o ≡ None → o ≡ Some y → ⊥
    none_is_not o y none some = cc

-- the same where the member is there
pub put_there : {X : Type 0} (spell : X → List ℕ) (xs : List X) (i : ℕ) (old new : List ℕ) (newer : List ℕ)
    → PutSoFar spell xs i old new → IsSomeAnd (slice_get xs i) (λ x. newer ≡ new ++ spell x) → PutSoFar spell xs (i + 1) old newer
put_there {X} spell xs i old new newer s there = at (slice_get xs i) refl there
  where
    at : (o : Option X) → slice_get xs i ≡ o → IsSomeAnd o (λ x. newer ≡ new ++ spell x) → PutSoFar spell xs (i + 1) old newer
    at (Some x) got added = put_got spell xs i old new x newer s got added
    at None got added = absurd added

-- a part that was added behind others, seen otherwise
pub chained : {X : Type 0} (spell : X → List ℕ) (out front a b : List ℕ) (x y : X) → a ≡ out ++ front → b ≡ a ++ spell x → x ≡ y → b ≡ out ++ (front ++ spell y)
chained {X} spell out front a b x y one two same =
    two_added out front (spell x) a b one two ∙ ap (λ (z : X). out ++ (front ++ spell z)) same
