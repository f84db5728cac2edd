-- Candidates that are left to be offered, as loops go.
use Rattle.std.proofs.Common.{◌≡◌, ℕ, zero, suc, ◌+◌, ◌<◌, ◌≤◌, false, List, [], ◌∷◌, ◌++◌, length, drop, get_or, Some, refl, sym, ap, ◌∙◌, append_assoc, arith, drop-cons}
use Rattle.std.proofs.lemmas.List.{drop_all}
use Rattle.std.proofs.lemmas.Option.{get_or_from_slice_get, none-some, same_Some, slice_get_within}
use Rattle.std.specs.Prelude.{slice_get, zip}
use Rattle.mqb_model.specs.calls.pump.Candidates.{Candidate}
use Rattle.mqb_model.specs.state.State.{State}
use Rattle.mqb_choosing.specs.Going.{Going, Offers, coming_to}
use Rattle.mqb_choosing.proofs.Offers.{offers_closed}

-- These are left of all that are to be offered.
abbrev pub AreLeft : State → (start now : Going) → (left all : List Candidate) → Type 0
AreLeft s start now left all = (next : List Candidate) → coming_to s now (left ++ next) ≡ coming_to s start (all ++ next)

pub left_begins : (s : State) (g : Going) (all : List Candidate) → AreLeft s g g all all
left_begins s g all next = refl

-- some of them were offered
pub left_more : (s : State) (start now after : Going) (part left all : List Candidate) → AreLeft s start now (part ++ left) all → Offers s now after part
    → AreLeft s start after left all
left_more s start now after part left all l o next =
    o (left ++ next) ∙ ap (coming_to s now) (sym (append_assoc part left next)) ∙ l next

-- the same, told otherwise
pub left_same : (s : State) (start now : Going) (left other all : List Candidate) → left ≡ other → AreLeft s start now left all → AreLeft s start now other all
left_same s start now left other all same l next = ap (λ (cs : List Candidate). coming_to s now (cs ++ next)) (sym same) ∙ l next

-- none is left
pub left_none : (s : State) (start now : Going) (left all : List Candidate) → left ≡ [] → AreLeft s start now left all → Offers s start now all
left_none s start now left all none l next = left_same s start now left [] all none l next

-- nothing more goes
pub left_closed : (s : State) (start now : Going) (left all : List Candidate) → now.more ≡ false → AreLeft s start now left all → Offers s start now all
left_closed s start now left all closed l next = offers_closed s now left closed next ∙ l next

-- the member at an index, and those behind it
pub front_is : {X : Type 0} (xs : List X) (i : ℕ) (x : X) → slice_get xs i ≡ Some x → drop i xs ≡ x ∷ drop (i + 1) xs
front_is {X} xs i x is =
    let next : suc i ≡ i + 1 = omega arith in
    drop-cons xs i x (slice_get_within xs i x is) ∙ ap (λ (y : X). y ∷ drop (suc i) xs) (get_or_from_slice_get xs i x x is) ∙ ap (λ (n : ℕ). x ∷ drop n xs) next

-- Pairs of members of two lists.

pub zip_got : {X Y : Type 0} (xs : List X) (ys : List Y) (i : ℕ) (x : X) (y : Y) → slice_get xs i ≡ Some x → slice_get ys i ≡ Some y → slice_get (zip xs ys) i ≡ Some (x, y)
zip_got [] ys i x y a b = absurd (none-some x a)
zip_got (x' ∷ xs) [] i x y a b = absurd (none-some y b)
zip_got {X} {Y} (x' ∷ xs) (y' ∷ ys) zero x y a b = ap (λ (x : X). Some (x, y')) (same_Some x' x a) ∙ ap (λ (y : Y). Some (x, y)) (same_Some y' y b)
zip_got (x' ∷ xs) (y' ∷ ys) (suc i) x y a b = zip_got xs ys i x y a b

pub zip_front : {X Y : Type 0} (xs : List X) (ys : List Y) (i : ℕ) (x : X) (y : Y) → slice_get xs i ≡ Some x → slice_get ys i ≡ Some y
    → drop i (zip xs ys) ≡ (x, y) ∷ drop (i + 1) (zip xs ys)
zip_front xs ys i x y a b = front_is (zip xs ys) i (x, y) (zip_got xs ys i x y a b)

pub zip_past : {X Y : Type 0} (xs : List X) (ys : List Y) (i : ℕ) → length ys ≤ i → drop i (zip xs ys) ≡ []
zip_past [] ys zero past = refl
zip_past [] ys (suc i) past = refl
zip_past (x ∷ xs) [] zero past = refl
zip_past (x ∷ xs) [] (suc i) past = refl
zip_past (x ∷ xs) (y ∷ ys) zero past = absurd (omega (arith, past))
zip_past (x ∷ xs) (y ∷ ys) (suc i) past = zip_past xs ys i (omega (arith, past))

pub got_is : {X : Type 0} (xs : List X) (i : ℕ) (d : X) → i < length xs → slice_get xs i ≡ Some (get_or xs i d)
got_is [] i d within = absurd (omega (arith, within))
got_is (x ∷ xs) zero d within = refl
got_is (x ∷ xs) (suc i) d within = got_is xs i d (omega (arith, within))
