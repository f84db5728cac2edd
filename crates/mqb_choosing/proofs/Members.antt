-- What holds of all members of a list.
use Rattle.std.proofs.Common.{◌≡◌, ℕ, ◌<◌, ◌≤◌, List, length, Option, Some, None, inl, inr, refl, sym, subst, ◌∙◌, arith}
use Rattle.std.proofs.lemmas.Option.{get_or_from_slice_get, slice_get_cases, slice_get_within}
use Rattle.std.specs.Prelude.{All, IsSomeAnd, slice_get}

-- holds of the one that was got
pub got_holds : {X : Type 0} (P : X → Type 0) (xs : List X) (i : ℕ) (x : X) → All P xs → slice_get xs i ≡ Some x → P x
got_holds P xs i x all is = subst P (get_or_from_slice_get xs i x x is) (all i x (slice_get_within xs i x is))

-- of the one that is there
pub there_holds : {X : Type 0} (P : X → Type 0) (xs : List X) (i : ℕ) → All P xs → i < length xs → IsSomeAnd (slice_get xs i) P
there_holds {X} P xs i all within = at (slice_get xs i) refl
  where
    apart : (x : X) → Some x ≡ None → ⊥
    apart x e = cc

    not_past : length xs ≤ i → ⊥
    not_past past = omega arith

    not_none : slice_get xs i ≡ None → ⊥
    not_none got = elim (slice_get_cases xs i).1 [
      | inl here ↦ apart here.0 (sym here.2 ∙ got)
      | inr past ↦ not_past past.0
    ]

    at : (o : Option X) → slice_get xs i ≡ o → IsSomeAnd o P
    at (Some x) got = got_holds P xs i x all got
    at None got = absurd (not_none got)
