-- What a crash leaves of a list of changes.
use Rattle.std.proofs.Common.{◌≡◌, inl, inr, ◌⊎◌, ℕ, ◌+◌, ◌/◌, ◌≤◌, Bool, true, false, nat_le, if◌then◌else◌, List, [], ◌∷◌, ◌++◌, length, take, drop, refl, sym, subst, arith}
use Rattle.std.proofs.lemmas.Bool.{leb-true}
use Rattle.std.proofs.lemmas.List.{length-take, length-replicate}
use Rattle.mqb_outside.specs.declared.power.Pick.{Pick}
use Rattle.mqb_outside.specs.declared.power.Pick.TheVariants.{Old, New, Half, Ones}
use Rattle.mqb_outside.specs.Images.{Follows, Written, Torn, IsCut, MayBeCut}
use Rattle.mqb_outside.specs.lemmas.Steps.{written_torn, nothing_torn}
use Rattle.mqb_disk.specs.Picks.{begun, stands, left_of, left_by}
use Rattle.mqb_disk.specs.Changes.{Step, Left}
use Rattle.mqb_disk.specs.declared.change.Change.{Change}
use Rattle.mqb_disk.specs.declared.change.Change.TheVariants.{Wrote, Cut}

-- one change more
pub left_push : (changes : List Change) (change : Change) (safe between new : List ℕ) → Left changes safe between → Step change between new → Left (changes ++ change ∷ []) safe new
left_push [] change safe between new left step = (new, subst (λ (l : List ℕ). Step change l new) left step, refl)
left_push (first ∷ changes) change safe between new left step = (left.0, left.1, left_push changes change left.0 between new left.2 step)

-- the last change is made of what the ones before it left
pub left_last : (changes : List Change) (change : Change) (safe new : List ℕ) → Left (changes ++ change ∷ []) safe new → (between : List ℕ) × Left changes safe between × Step change between new
left_last [] change safe new left = (safe, refl, subst (λ (l : List ℕ). Step change safe l) (sym left.2) left.1)
left_last (first ∷ changes) change safe new left =
    let rest = left_last changes change left.0 new left.2 in
    (rest.0, (left.0, left.1, rest.1), rest.2)

-- what a disk with these contents leaves, where these changes were made over safe contents
abbrev pub Leaves : List Change → List ℕ → List ℕ → List ℕ → Type 0
Leaves changes safe now c = (c ≡ now) ⊎ Left changes safe c

pub wrote_leaves : (changes : List Change) (safe old new bytes : List ℕ) (at : ℕ) → at ≤ length old → Written at bytes old new → Follows (Torn at (length bytes)) (Leaves changes safe old) (Leaves (changes ++ Wrote at (length bytes) ∷ []) safe new)
wrote_leaves changes safe old new bytes at place written c (inl is) = (old, inl refl, subst (λ (l : List ℕ). Torn at (length bytes) old l) (sym is) (written_torn at (length bytes) bytes old new place (omega arith) written))
wrote_leaves changes safe old new bytes at place written c (inr left) =
    let last = left_last changes (Wrote at (length bytes)) safe c left in
    (last.0, inr last.1, last.2)

pub cut_leaves : (changes : List Change) (safe old new : List ℕ) (n : ℕ) → IsCut n old new → Follows (MayBeCut n) (Leaves changes safe old) (Leaves (changes ++ Cut n ∷ []) safe new)
cut_leaves changes safe old new n cut c (inl is) = (old, inl refl, subst (λ (l : List ℕ). MayBeCut n old l) (sym is) (inr cut))
cut_leaves changes safe old new n cut c (inr left) =
    let last = left_last changes (Cut n) safe c left in
    (last.0, inr last.1, last.2)

-- the same, where the fields are named by what they are equal to
pub wrote_leaves_as : (changes later : List Change) (safe later_safe old new bytes : List ℕ) (at : ℕ) → later ≡ changes ++ Wrote at (length bytes) ∷ [] → later_safe ≡ safe → at ≤ length old → Written at bytes old new → Follows (Torn at (length bytes)) (Leaves changes safe old) (Leaves later later_safe new)
wrote_leaves_as changes later safe later_safe old new bytes at noted same place written c left =
    wrote_leaves changes safe old new bytes at place written c (subst (λ (l : List Change). Leaves l safe new c) noted (subst (λ (l : List ℕ). Leaves later l new c) same left))

pub cut_leaves_as : (changes later : List Change) (safe later_safe old new : List ℕ) (n : ℕ) → later ≡ changes ++ Cut n ∷ [] → later_safe ≡ safe → IsCut n old new → Follows (MayBeCut n) (Leaves changes safe old) (Leaves later later_safe new)
cut_leaves_as changes later safe later_safe old new n noted same cut c left =
    cut_leaves changes safe old new n cut c (subst (λ (l : List Change). Leaves l safe new c) noted (subst (λ (l : List ℕ). Leaves later l new c) same left))

chosen : (b : Bool) (P : List ℕ → Type 0) (x y : List ℕ) → (b ≡ true → P x) → P y → P (if b then x else y)
chosen true P x y first second = first refl
chosen false P x y first second = second

begun_short : (pick : Pick) (at n : ℕ) (written : List ℕ) → length (begun pick at n written) ≤ n
begun_short Old at n written = omega arith
begun_short New at n written = omega (arith, length-take n (drop at written))
begun_short Half at n written = omega (arith, length-take (n / 2) (drop at written))
begun_short Ones at n written = omega (arith, length-replicate {A = ℕ} n 1)

-- what a pick leaves of a change is one of the contents that a crash may leave of it
left_step : (pick : Pick) (written : List ℕ) (change : Change) (c : List ℕ) → Step change c (left_of pick written change c)
left_step pick written (Wrote at n) c =
    chosen (nat_le at (length c)) (Torn at n c) (take at c ++ begun pick at n written ++ drop (at + length (begun pick at n written)) c) c
    (λ reached. written_torn at n (begun pick at n written) c _ (leb-true at (length c) reached) (begun_short pick at n written) refl) (nothing_torn at n c)
left_step pick written (Cut n) c = chosen (stands pick) (MayBeCut n c) (take n c) c (λ is. inr refl) (inl refl)

pub left_by_pick : (pick : Pick) (written : List ℕ) (changes : List Change) (safe : List ℕ) → Left changes safe (left_by pick written changes safe)
left_by_pick pick written [] safe = refl
left_by_pick pick written (change ∷ changes) safe = (left_of pick written change safe, left_step pick written change safe, left_by_pick pick written changes (left_of pick written change safe))
