-- What the members of a list tell, and what they tell of a longer one.
use Rattle.std.proofs.Common.{◌≡◌, ◌⊎◌, inl, inr, Bool, true, false, List, [], ◌∷◌, refl, sym, subst}
use Rattle.std.specs.List.{list_any}
use Rattle.std.proofs.lemmas.Bool.{and_parts, not-true, or_cases, true≢false}
use Rattle.mqb_exactly_once.specs.World.{Position, Commitment, Expiry, Decision}
use Rattle.mqb_exactly_once.specs.Words.{In, same_position, is_committed, is_expired, is_decided, is_kept}
use Rattle.mqb_exactly_once.proofs.Either.{or_left, or_right}
use Rattle.mqb_exactly_once.proofs.Positions.{same_position_is, same_position_refl}

pub any_from_In : {A : Type 0} (test : A → Bool) (x : A) (xs : List A) → In x xs → test x ≡ true → list_any test xs ≡ true
any_from_In test x [] (inside) h = absurd inside
any_from_In test x (y ∷ ys) (inl is) h = or_left (test y) (list_any test ys) (subst (λ z. test z ≡ true) (sym is) h)
any_from_In test x (y ∷ ys) (inr behind) h = or_right (test y) (list_any test ys) (any_from_In test x ys behind h)

pub In_from_any : {A : Type 0} (test : A → Bool) (xs : List A) → list_any test xs ≡ true → (x : A) × In x xs × (test x ≡ true)
In_from_any test [] h = absurd (true≢false (sym h))
In_from_any {A} test (x ∷ xs) h = found (or_cases (test x) (list_any test xs) h) (λ k. In_from_any test xs k)
  where
    found : (test x ≡ true) ⊎ (list_any test xs ≡ true) → (list_any test xs ≡ true → (y : A) × In y xs × (test y ≡ true))
        → (y : A) × In y (x ∷ xs) × (test y ≡ true)
    found (inl at) rest = (x, inl refl, at)
    found (inr behind) rest = let f = rest behind in (f.0, inr f.1, f.2)

pub decided_from_In : (d : Decision) (ds : List Decision) → In d ds → is_decided ds d.position ≡ true
decided_from_In d ds inside = any_from_In (λ e. same_position e.position d.position) d ds inside (same_position_refl d.position)

pub In_from_committed : (cs : List Commitment) (p : Position) → is_committed cs p ≡ true → (c : Commitment) × In c cs × (c.position ≡ p)
In_from_committed cs p h = let f = In_from_any (λ c. same_position c.position p) cs h in (f.0, f.1, same_position_is _ _ f.2)

pub In_from_decided : (ds : List Decision) (p : Position) → is_decided ds p ≡ true → (d : Decision) × In d ds × (d.position ≡ p)
In_from_decided ds p h = let f = In_from_any (λ d. same_position d.position p) ds h in (f.0, f.1, same_position_is _ _ f.2)

pub kept_is_committed : (cs : List Commitment) (es : List Expiry) (p : Position) → is_kept cs es p ≡ true → is_committed cs p ≡ true
kept_is_committed cs es p h = (and_parts _ _ h).0

pub kept_is_not_expired : (cs : List Commitment) (es : List Expiry) (p : Position) → is_kept cs es p ≡ true → is_expired es p ≡ false
kept_is_not_expired cs es p h = not-true _ (and_parts _ _ h).1
