-- Lists of places, of peers and of rows that are filled in order: the ones before are full, one is being filled, and those behind are empty.
use Rattle.std.proofs.Common.{◌≡◌, ℕ, zero, suc, List, [], ◌∷◌, ◌++◌, length, Option, Some, None, refl, sym, subst, ◌∙◌}
use Rattle.std.specs.List.{AllByRecursion}
use Rattle.std.specs.Option.{option_map_or}
use Rattle.std.specs.Prelude.{slice_get, slice_set}
use Rattle.mqb_model.specs.Lists.{with_changed}
use Rattle.mqb_snapshot.proofs.Lists.{changed_long}

-- the members before an index, the one at it, and those behind
abbrev Stand : {X : Type 0} → (Full Open New : X → Type 0) → ℕ → List X → Type 0
Stand Full Open New k [] = Unit {0}
Stand Full Open New zero (x ∷ xs) = Open x × AllByRecursion New xs
Stand Full Open New (suc k) (x ∷ xs) = Full x × Stand Full Open New k xs

-- and how many there are
pub record UpTo {X : Type 0} (long : ℕ) (Full Open New : X → Type 0) (k : ℕ) (xs : List X) : Type 0 where
  pub stand : Stand Full Open New k xs
  pub count : length xs ≡ long

-- the one at the index is changed, if it is there
filling : {X : Type 0} (Full Open Next New : X → Type 0) (change : X → X) → ((x : X) → Open x → Next (change x)) → (k : ℕ) (xs : List X) → Stand Full Open New k xs
    → Stand Full Next New k (with_changed change xs k)
filling {X} Full Open Next New change more k xs h = at (slice_get xs k) refl
  where
    none : (k : ℕ) (xs : List X) → slice_get xs k ≡ None → Stand Full Open New k xs → Stand Full Next New k xs
    none k [] got h = tt
    none zero (x ∷ xs) got h = absurd (let no : ⊥ = cc in no)
    none (suc k) (x ∷ xs) got h = (h.0, none k xs got h.1)

    some : (k : ℕ) (xs : List X) (y : X) → slice_get xs k ≡ Some y → Stand Full Open New k xs → Stand Full Next New k (slice_set xs k (change y))
    some k [] y got h = tt
    some zero (x ∷ xs) y got h = let same : x ≡ y = cc in (more y (subst Open same h.0), h.1)
    some (suc k) (x ∷ xs) y got h = (h.0, some k xs y got h.1)

    at : (o : Option X) → slice_get xs k ≡ o → Stand Full Next New k (option_map_or (λ x. slice_set xs k (change x)) o xs)
    at None got = none k xs got h
    at (Some y) got = some k xs y got h

pub filled_more : {X : Type 0} {long : ℕ} {Full Open New : X → Type 0} (Next : X → Type 0) (change : X → X) → ((x : X) → Open x → Next (change x)) → (k : ℕ) (xs : List X)
    → UpTo long Full Open New k xs → UpTo long Full Next New k (with_changed change xs k)
filled_more {Full = Full} {Open = Open} {New = New} Next change more k xs h =
    record { stand = filling Full Open Next New change more k xs h.stand; count = changed_long change xs k ∙ h.count }

-- the one at the index is seen otherwise
seen_as : {X : Type 0} (Full Open Next New : X → Type 0) → ((x : X) → Open x → Next x) → (k : ℕ) (xs : List X) → Stand Full Open New k xs → Stand Full Next New k xs
seen_as Full Open Next New more k [] h = tt
seen_as Full Open Next New more zero (x ∷ xs) h = (more x h.0, h.1)
seen_as Full Open Next New more (suc k) (x ∷ xs) h = (h.0, seen_as Full Open Next New more k xs h.1)

pub opened : {X : Type 0} {long : ℕ} {Full Open New : X → Type 0} (Next : X → Type 0) → ((x : X) → Open x → Next x) → (k : ℕ) (xs : List X) → UpTo long Full Open New k xs
    → UpTo long Full Next New k xs
opened {Full = Full} {Open = Open} {New = New} Next more k xs h = record { stand = seen_as Full Open Next New more k xs h.stand; count = h.count }

-- the one at the index is full, and the next one is still empty
closing : {X : Type 0} (Full Open New : X → Type 0) → ((x : X) → Open x → Full x) → (k : ℕ) (xs : List X) → Stand Full Open New k xs → Stand Full New New (suc k) xs
closing Full Open New full k [] h = tt
closing Full Open New full zero (x ∷ []) h = (full x h.0, tt)
closing Full Open New full zero (x ∷ y ∷ xs) h = (full x h.0, h.1)
closing Full Open New full (suc k) (x ∷ xs) h = (h.0, closing Full Open New full k xs h.1)

pub next_one : {X : Type 0} {long : ℕ} {Full Open New : X → Type 0} → ((x : X) → Open x → Full x) → (k : ℕ) (xs : List X) → UpTo long Full Open New k xs
    → UpTo long Full New New (suc k) xs
next_one {Full = Full} {Open = Open} {New = New} full k xs h = record { stand = closing Full Open New full k xs h.stand; count = h.count }

-- none is full yet
pub none_full : {X : Type 0} (Full New : X → Type 0) (xs : List X) → AllByRecursion New xs → UpTo (length xs) Full New New 0 xs
none_full Full New [] h = record { stand = tt; count = refl }
none_full Full New (x ∷ xs) h = record { stand = h; count = refl }

-- all are full
done : {X : Type 0} (Full Open New : X → Type 0) (xs : List X) → Stand Full Open New (length xs) xs → AllByRecursion Full xs
done Full Open New [] h = tt
done Full Open New (x ∷ xs) h = (h.0, done Full Open New xs h.1)

pub all_full : {X : Type 0} {long : ℕ} {Full Open New : X → Type 0} (k : ℕ) (xs : List X) → k ≡ long → UpTo long Full Open New k xs → AllByRecursion Full xs
all_full {Full = Full} {Open = Open} {New = New} k xs end h = done Full Open New xs (subst (λ (n : ℕ). Stand Full Open New n xs) (end ∙ sym h.count) h.stand)

-- one more behind full ones, which is being filled
adding : {X : Type 0} (Full Open New : X → Type 0) (xs : List X) (x : X) → AllByRecursion Full xs → Open x → Stand Full Open New (length xs) (xs ++ x ∷ [])
adding Full Open New [] x h new = (new, tt)
adding Full Open New (y ∷ xs) x h new = (h.0, adding Full Open New xs x h.1 new)

pub one_added : {X : Type 0} (Full Open New : X → Type 0) (xs : List X) (x : X) → AllByRecursion Full xs → Open x → UpTo (length (xs ++ x ∷ [])) Full Open New (length xs) (xs ++ x ∷ [])
one_added Full Open New xs x h new = record { stand = adding Full Open New xs x h new; count = refl }

-- where those around the one at the index are full, and it is, all are
around : {X : Type 0} (Full Open : X → Type 0) → ((x : X) → Open x → Full x) → (k : ℕ) (xs : List X) → Stand Full Open Full k xs → AllByRecursion Full xs
around Full Open full k [] h = tt
around Full Open full zero (x ∷ xs) h = (full x h.0, h.1)
around Full Open full (suc k) (x ∷ xs) h = (h.0, around Full Open full k xs h.1)

pub all_done : {X : Type 0} {long : ℕ} {Full Open : X → Type 0} → ((x : X) → Open x → Full x) → (k : ℕ) (xs : List X) → UpTo long Full Open Full k xs → AllByRecursion Full xs
all_done {Full = Full} {Open = Open} full k xs h = around Full Open full k xs h.stand
