-- Members of lists, and those before them.
use Rattle.std.proofs.Common.{◌≡◌, ℕ, zero, suc, ◌+◌, ◌-◌, ◌<◌, Bool, true, false, List, [], ◌∷◌, ◌++◌, length, map, Some, None, refl, sym, ap, subst, ◌∙◌, arith}
use Rattle.std.proofs.lemmas.Bool.Decides.{nat_tests}
use Rattle.std.proofs.lemmas.List.{append-nil}
use Rattle.std.proofs.lemmas.List.Elements.{All-from_recursion, recursion_from_All}
use Rattle.std.specs.List.{AllByRecursion, list_any}
use Rattle.std.specs.Prelude.{◌==◌, ◌||◌, All, AllPairs, IfSome, position, slice_get, slice_set}
use Rattle.mqb_model.specs.Lists.{with_changed}
use Rattle.mqb_model.specs.state.Valid.{AreNew}
use Rattle.mqb_queue.proofs.Lens.{numbered_is}
use Rattle.mqb_queue.proofs.Positions.{passes_none}
use Rattle.mqb_queue.specs.Places.{numbered, with_numbered}
use Rattle.mqb_snapshot.proofs.Backs.{append_push}

-- What holds of all holds of each.

pub all_here : {X : Type 0} (P : X → Type 0) (before : List X) (x : X) (behind : List X) → AllByRecursion P (before ++ (x ∷ behind)) → P x
all_here P [] x behind h = h.0
all_here P (b ∷ before) x behind h = all_here P before x behind h.1

pub here : {X : Type 0} (P : X → Type 0) (all before : List X) (x : X) (behind : List X) → all ≡ before ++ (x ∷ behind) → All P all → P x
here P all before x behind e h = all_here P before x behind (subst (AllByRecursion P) e (recursion_from_All P all h))

-- Members that differ from those before them.

new_among : {X : Type 0} (there : List X → X → Bool) (known before : List X) (x : X) (behind : List X) → AreNew there known (before ++ (x ∷ behind)) → there (known ++ before) x ≡ false
new_among there known [] x behind h = subst (λ known. there known x ≡ false) (sym (append-nil known)) h.0
new_among there known (b ∷ before) x behind h = subst (λ known. there known x ≡ false) (sym (append_push known b before)) (new_among there (known ++ b ∷ []) before x behind h.1)

pub new_here : {X : Type 0} (there : List X → X → Bool) (known all before : List X) (x : X) (behind : List X) → all ≡ before ++ (x ∷ behind) → AreNew there known all
    → there (known ++ before) x ≡ false
new_here there known all before x behind e h = new_among there known before x behind (subst (AreNew there known) e h)

-- each two members, the earlier one first
abbrev pub Pairs : {X : Type 0} → (X → X → Type 0) → List X → Type 0
Pairs R [] = Unit {0}
Pairs R (x ∷ xs) = AllByRecursion (R x) xs × Pairs R xs

pub pairs_of : {X : Type 0} (R : X → X → Type 0) (xs : List X) → AllPairs R xs → Pairs R xs
pairs_of R [] h = tt
pairs_of R (x ∷ xs) h = (
  recursion_from_All (R x) xs (λ k d lt. let first : 0 < suc k = omega arith in let within : suc k < length (x ∷ xs) = omega arith in h 0 (suc k) d first within),
  pairs_of R xs (λ i j d less lt. let rises : suc i < suc j = omega arith in let within : suc j < length (x ∷ xs) = omega arith in h (suc i) (suc j) d rises within),
)

pub pairs_before : {X : Type 0} (R : X → X → Type 0) (before : List X) (x : X) (behind : List X) → Pairs R (before ++ (x ∷ behind)) → AllByRecursion (λ y. R y x) before
pairs_before R [] x behind h = tt
pairs_before R (b ∷ before) x behind h = (all_here (R b) before x behind h.0, pairs_before R before x behind h.1)

pub before_here : {X : Type 0} (R : X → X → Type 0) (all before : List X) (x : X) (behind : List X) → all ≡ before ++ (x ∷ behind) → AllPairs R all → AllByRecursion (λ y. R y x) before
before_here R all before x behind e h = pairs_before R before x behind (subst (Pairs R) e (pairs_of R all h))

pub all_weaker : {X : Type 0} (P Q : X → Type 0) → ((x : X) → P x → Q x) → (xs : List X) → AllByRecursion P xs → AllByRecursion Q xs
all_weaker P Q f [] h = tt
all_weaker P Q f (x ∷ xs) h = (f x h.0, all_weaker P Q f xs h.1)

pub all_mapped : {X Y : Type 0} (P : Y → Type 0) (f : X → Y) (xs : List X) → AllByRecursion (λ x. P (f x)) xs → AllByRecursion P (map f xs)
all_mapped P f [] h = tt
all_mapped P f (x ∷ xs) h = (h.0, all_mapped P f xs h.1)

-- what holds of all holds of the one at an index
pub at_index : {X : Type 0} (P : X → Type 0) (xs : List X) (k : ℕ) → AllByRecursion P xs → IfSome (slice_get xs k) P
at_index P [] k h = tt
at_index P (x ∷ xs) zero h = h.0
at_index P (x ∷ xs) (suc k) h = at_index P xs k h.1

-- Tests.

pub neither : (a b : Bool) → (a || b) ≡ false → (a ≡ false) × (b ≡ false)
neither true b e = absurd (let none : ⊥ = cc in none)
neither false b e = (refl, e)

pub none_of : {X : Type 0} (p : X → Bool) (xs : List X) → list_any p xs ≡ false → AllByRecursion (λ x. p x ≡ false) xs
none_of p [] e = tt
none_of p (x ∷ xs) e = let both = neither (p x) (list_any p xs) e in (both.0, none_of p xs both.1)

pub no_member : {X : Type 0} (p : X → Bool) (xs : List X) → AllByRecursion (λ x. p x ≡ false) xs → list_any p xs ≡ false
no_member p [] h = refl
no_member p (x ∷ xs) h = ap (λ b. b || list_any p xs) h.0 ∙ no_member p xs h.1

pub no_position : {X : Type 0} (p : X → Bool) (xs : List X) → AllByRecursion (λ x. p x ≡ false) xs → position p xs ≡ None
no_position p xs h = passes_none p xs (All-from_recursion (λ x. p x ≡ false) xs h)

-- A member that has others around it.

pub got_here : {X : Type 0} (before : List X) (x : X) (behind : List X) → slice_get (before ++ (x ∷ behind)) (length before) ≡ Some x
got_here [] x behind = refl
got_here (b ∷ before) x behind = got_here before x behind

pub set_here : {X : Type 0} (before : List X) (x y : X) (behind : List X) → slice_set (before ++ (x ∷ behind)) (length before) y ≡ before ++ (y ∷ behind)
set_here [] x y behind = refl
set_here (b ∷ before) x y behind = ap (λ rest. b ∷ rest) (set_here before x y behind)

pub changed_here : {X : Type 0} (change : X → X) (before : List X) (x : X) (behind : List X) → with_changed change (before ++ (x ∷ behind)) (length before) ≡ before ++ (change x ∷ behind)
changed_here change before x behind = rw (got_here before x behind) (set_here before x (change x) behind)

pub numbered_here : {X : Type 0} (before : List X) (x : X) (behind : List X) → numbered (before ++ (x ∷ behind)) (length before + 1) ≡ Some x
numbered_here before x behind =
    let some : ((length before + 1) == 0) ≡ false = grind (arith, nat_tests) in
    let back : (length before + 1) - 1 ≡ length before = omega arith in
    numbered_is (before ++ (x ∷ behind)) (length before + 1) some ∙ ap (slice_get (before ++ (x ∷ behind))) back ∙ got_here before x behind

pub numbered_changed : {X : Type 0} (change : X → X) (before : List X) (x : X) (behind : List X)
    → with_numbered (before ++ (x ∷ behind)) (length before + 1) change ≡ before ++ (change x ∷ behind)
numbered_changed change before x behind =
    let back : (length before + 1) - 1 ≡ length before = omega arith in
    rw (numbered_here before x behind) (ap (λ (k : ℕ). slice_set (before ++ (x ∷ behind)) k (change x)) back ∙ set_here before x (change x) behind)
