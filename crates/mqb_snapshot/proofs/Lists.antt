-- Lists of which a member was added or changed.
use Rattle.std.proofs.Common.{◌≡◌, ◌<◌, ℕ, zero, suc, ◌-◌, Bool, false, List, [], ◌∷◌, ◌++◌, length, Option, Some, None, ◌⊎◌, inl, inr, refl, sym, ap, subst, ◌∙◌, append_assoc, arith}
use Rattle.std.proofs.lemmas.List.{append-nil, length-set}
use Rattle.std.proofs.lemmas.List.Elements.{All-from_recursion}
use Rattle.std.proofs.lemmas.List.Kept.{AllPairs-cons}
use Rattle.std.specs.List.{AllByRecursion, flat_map}
use Rattle.std.specs.Option.{option_map_or}
use Rattle.std.specs.Prelude.{AllPairs, IfSome, slice_get, slice_set}
use Rattle.mqb_model.specs.Lists.{with_changed}
use Rattle.mqb_model.specs.state.Valid.{AreNew}
use Rattle.mqb_snapshot.proofs.Members.{Pairs, all_weaker, at_index}

-- What holds of each member.

pub all_pushed : {X : Type 0} (P : X → Type 0) (xs : List X) (x : X) → AllByRecursion P xs → P x → AllByRecursion P (xs ++ x ∷ [])
all_pushed P [] x h new = (new, tt)
all_pushed P (y ∷ xs) x h new = (h.0, all_pushed P xs x h.1 new)

pub all_set : {X : Type 0} (P : X → Type 0) (xs : List X) (k : ℕ) (x : X) → AllByRecursion P xs → P x → AllByRecursion P (slice_set xs k x)
all_set P [] k x h new = tt
all_set P (y ∷ xs) zero x h new = (new, h.1)
all_set P (y ∷ xs) (suc k) x h new = (h.0, all_set P xs k x h.1 new)

pub all_got : {X : Type 0} (P : X → Type 0) (xs : List X) (k : ℕ) (x : X) → slice_get xs k ≡ Some x → AllByRecursion P xs → P x
all_got P xs k x got h = subst (λ o. IfSome o P) got (at_index P xs k h)

pub all_two : {X : Type 0} (P Q : X → Type 0) (xs : List X) → AllByRecursion P xs → AllByRecursion Q xs → AllByRecursion (λ x. P x × Q x) xs
all_two P Q [] h k = tt
all_two P Q (x ∷ xs) h k = ((h.0, k.0), all_two P Q xs h.1 k.1)

-- What holds of each two members.

pub pairs_pushed : {X : Type 0} (R : X → X → Type 0) (xs : List X) (x : X) → Pairs R xs → AllByRecursion (λ y. R y x) xs → Pairs R (xs ++ x ∷ [])
pairs_pushed R [] x h new = (tt, tt)
pairs_pushed R (y ∷ xs) x h new = (all_pushed (R y) xs x h.0 new.0, pairs_pushed R xs x h.1 new.1)

pub pairs_set : {X : Type 0} (R : X → X → Type 0) (xs : List X) (k : ℕ) (x z : X) → slice_get xs k ≡ Some x → ((y : X) → R y x → R y z) → ((y : X) → R x y → R z y)
    → Pairs R xs → Pairs R (slice_set xs k z)
pairs_set R [] k x z got to from h = tt
pairs_set R (y ∷ xs) zero x z got to from h = let same : y ≡ x = cc in (all_weaker (R x) (R z) from xs (subst (λ w. AllByRecursion (R w) xs) same h.0), h.1)
pairs_set R (y ∷ xs) (suc k) x z got to from h = (all_set (R y) xs k z h.0 (to y (all_got (R y) xs k x got h.0)), pairs_set R xs k x z got to from h.1)

pub pairs_all : {X : Type 0} (R : X → X → Type 0) (xs : List X) → Pairs R xs → AllPairs R xs
pairs_all R [] h = λ i j d less lt. absurd (omega arith)
pairs_all R (x ∷ xs) h = AllPairs-cons R x xs (All-from_recursion (R x) xs h.0) (pairs_all R xs h.1)

-- where the last member of a list that rises is below a number, all are
pub below_last : {X : Type 0} (of : X → ℕ) (xs : List X) (n : ℕ) → Pairs (λ a b. of a < of b) xs → option_map_or of (slice_get xs (length xs - 1)) 0 < n
    → AllByRecursion (λ x. of x < n) xs
below_last of [] n h last = tt
below_last of (x ∷ []) n h last = (last, tt)
below_last of (x ∷ y ∷ xs) n h last =
    let back : length (x ∷ y ∷ xs) - 1 ≡ suc (length (y ∷ xs) - 1) = omega arith in
    let rest = below_last of (y ∷ xs) n h.1 (subst (λ (k : ℕ). option_map_or of (slice_get (x ∷ y ∷ xs) k) 0 < n) back last) in
    (omega (arith, h.0.0, rest.0), rest)

-- Members that are new beside those before them.

pub push_append : {X : Type 0} (before : List X) (x : X) (xs : List X) → before ++ (x ∷ xs) ≡ (before ++ x ∷ []) ++ xs
push_append before x xs = sym (append_assoc before (x ∷ []) xs)

pub new_pushed : {X : Type 0} (there : List X → X → Bool) (known xs : List X) (x : X) → AreNew there known xs → there (known ++ xs) x ≡ false → AreNew there known (xs ++ x ∷ [])
new_pushed there known [] x h new = (subst (λ ks. there ks x ≡ false) (append-nil known) new, tt)
new_pushed there known (y ∷ xs) x h new = (h.0, new_pushed there (known ++ y ∷ []) xs x h.1 (subst (λ ks. there ks x ≡ false) (push_append known y xs) new))

-- A list that stayed, or that has a member more.

pub record Inserted {X : Type 0} (x : X) (before after : List X) : Type 0 where
  pub front : List X
  pub behind : List X
  pub old : before ≡ front ++ behind
  pub new : after ≡ front ++ (x ∷ behind)

abbrev pub IsGrown : {X : Type 0} → X → List X → List X → Type 0
IsGrown x before after = (before ≡ after) ⊎ Inserted x before after

all_inserted : {X : Type 0} (P : X → Type 0) (x : X) (front behind : List X) → AllByRecursion P (front ++ behind) → P x → AllByRecursion P (front ++ (x ∷ behind))
all_inserted P x [] behind h new = (new, h)
all_inserted P x (y ∷ front) behind h new = (h.0, all_inserted P x front behind h.1 new)

pub all_grown : {X : Type 0} (P : X → Type 0) (x : X) (before after : List X) → IsGrown x before after → AllByRecursion P before → P x → AllByRecursion P after
all_grown P x before after (inl same) h new = subst (AllByRecursion P) same h
all_grown P x before after (inr i) h new = subst (AllByRecursion P) (sym i.new) (all_inserted P x i.front i.behind (subst (AllByRecursion P) i.old h) new)

pairs_inserted : {X : Type 0} (R : X → X → Type 0) (x : X) (front behind : List X) → Pairs R (front ++ behind) → AllByRecursion (λ y. R y x × R x y) (front ++ behind)
    → Pairs R (front ++ (x ∷ behind))
pairs_inserted R x [] behind h new = (all_weaker (λ y. R y x × R x y) (R x) (λ y both. both.1) behind new, h)
pairs_inserted R x (y ∷ front) behind h new = (all_inserted (R y) x front behind h.0 new.0.0, pairs_inserted R x front behind h.1 new.1)

pub pairs_grown : {X : Type 0} (R : X → X → Type 0) (x : X) (before after : List X) → IsGrown x before after → Pairs R before → AllByRecursion (λ y. R y x × R x y) before
    → Pairs R after
pairs_grown R x before after (inl same) h new = subst (Pairs R) same h
pairs_grown R x before after (inr i) h new =
    subst (Pairs R) (sym i.new) (pairs_inserted R x i.front i.behind (subst (Pairs R) i.old h) (subst (AllByRecursion (λ y. R y x × R x y)) i.old new))

pub grown_at_end : {X : Type 0} (x : X) (xs : List X) → IsGrown x xs (xs ++ x ∷ [])
grown_at_end x xs = inr (record { front = xs; behind = []; old = sym (append-nil xs); new = refl })

pub grown_behind : {X : Type 0} (x : X) (others before after : List X) → IsGrown x before after → IsGrown x (others ++ before) (others ++ after)
grown_behind x others before after (inl same) = inl (ap (λ xs. others ++ xs) same)
grown_behind x others before after (inr i) = inr (record {
  front = others ++ i.front;
  behind = i.behind;
  old = ap (λ xs. others ++ xs) i.old ∙ sym (append_assoc others i.front i.behind);
  new = ap (λ xs. others ++ xs) i.new ∙ sym (append_assoc others i.front (x ∷ i.behind));
})

pub grown_before : {X : Type 0} (x : X) (others before after : List X) → IsGrown x before after → IsGrown x (before ++ others) (after ++ others)
grown_before x others before after (inl same) = inl (ap (λ xs. xs ++ others) same)
grown_before x others before after (inr i) = inr (record {
  front = i.front;
  behind = i.behind ++ others;
  old = ap (λ xs. xs ++ others) i.old ∙ append_assoc i.front i.behind others;
  new = ap (λ xs. xs ++ others) i.new ∙ append_assoc i.front (x ∷ i.behind) others;
})

-- the lists of members, one behind the other, where that of one member is grown
pub set_grown : {X Y : Type 0} (f : X → List Y) (m : Y) (xs : List X) (k : ℕ) (y z : X) → slice_get xs k ≡ Some y → IsGrown m (f y) (f z)
    → IsGrown m (flat_map f xs) (flat_map f (slice_set xs k z))
set_grown f m [] k y z got g = inl refl
set_grown f m (x ∷ xs) zero y z got g = let same : x ≡ y = cc in grown_before m (flat_map f xs) (f x) (f z) (subst (λ w. IsGrown m (f w) (f z)) (sym same) g)
set_grown f m (x ∷ xs) (suc k) y z got g = grown_behind m (f x) (flat_map f xs) (flat_map f (slice_set xs k z)) (set_grown f m xs k y z got g)

-- a list of which the member at an index is changed, if it is there
pub changed_to : {X : Type 0} (Q : List X → Type 0) (change : X → X) (xs : List X) (k : ℕ) → Q xs → ((x : X) → slice_get xs k ≡ Some x → Q (slice_set xs k (change x)))
    → Q (with_changed change xs k)
changed_to {X} Q change xs k old new = at (slice_get xs k) refl
  where
    at : (o : Option X) → slice_get xs k ≡ o → Q (option_map_or (λ x. slice_set xs k (change x)) o xs)
    at None got = old
    at (Some x) got = new x got

pub changed_long : {X : Type 0} (change : X → X) (xs : List X) (k : ℕ) → length (with_changed change xs k) ≡ length xs
changed_long change xs k = changed_to (λ ys. length ys ≡ length xs) change xs k refl (λ x got. length-set xs k (change x))

-- a member more that has no list
pub none_more : {X Y : Type 0} (f : X → List Y) (xs : List X) (x : X) → f x ≡ [] → flat_map f (xs ++ x ∷ []) ≡ flat_map f xs
none_more f [] x none = ap (λ ys. ys ++ []) none
none_more f (y ∷ xs) x none = ap (λ ys. f y ++ ys) (none_more f xs x none)
