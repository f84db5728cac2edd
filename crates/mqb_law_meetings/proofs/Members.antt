-- Lists of which one member is another one now, and what is the same of them.
use Rattle.std.proofs.Common.{◌≡◌, ℕ, zero, suc, ◌+◌, ◌-◌, ◌||◌, Bool, true, false, cond, ◌++◌, List, [], ◌∷◌, Option, Some, None, refl, sym, ap, subst, ◌∙◌, arith}
use Rattle.std.specs.List.{AllByRecursion, enumerate_from, filter_map, flat_map, list_any}
use Rattle.std.specs.Option.{option_map_or}
use Rattle.std.specs.Prelude.{All, filter, get_or, length, map, position, replicate, slice_get, slice_set, zip}
use Rattle.std.proofs.lemmas.List.{append-nil}
use Rattle.std.proofs.lemmas.Option.{get_or_from_slice_get, slice_get-get_or, slice_get_within}
use Rattle.mqb_base.specs.Same.{same_guid}
use Rattle.mqb_base.specs.declared.ids.Guid.{Guid}
use Rattle.mqb_model.specs.Lists.{first_where, grown, with_changed, with_first_changed}
use Rattle.mqb_model.specs.calls.pump.Candidates.{owed_to}
use Rattle.mqb_orders.specs.declared.rows.InRow.{InRow}
use Rattle.mqb_law_meetings.proofs.Firsts.{first_cons}
use Rattle.mqb_law_meetings.proofs.Idle.{none_owing}

-- What holds of each member.

pub all_there : {X : Type 0} (P : X → Type 0) (xs : List X) (k : ℕ) (x : X) → All P xs → slice_get xs k ≡ Some x → P x
all_there P xs k x all e = subst P (get_or_from_slice_get xs k x x e) (all k x (slice_get_within xs k x e))

pub all_each : {X : Type 0} (P : X → Type 0) (xs : List X) → ((k : ℕ) (x : X) → slice_get xs k ≡ Some x → P x) → All P xs
all_each P xs f k d inside = f k (get_or xs k d) (slice_get-get_or xs k d inside)

-- A member that is another one now, of which a function tells the same.

pub set_map : {X Y : Type 0} (f : X → Y) (xs : List X) (k : ℕ) (x y : X) → slice_get xs k ≡ Some x → f y ≡ f x → map f (slice_set xs k y) ≡ map f xs
set_map f [] k x y e same = refl
set_map f (z ∷ zs) zero x y e same = let is : z ≡ x = cc in ap (λ w. w ∷ map f zs) (same ∙ ap f (sym is))
set_map f (z ∷ zs) (suc k) x y e same = ap (λ ws. f z ∷ ws) (set_map f zs k x y e same)

pub changed_map : {X Y : Type 0} (f : X → Y) (change : X → X) → ((x : X) → f (change x) ≡ f x) → (xs : List X) (k : ℕ) → map f (with_changed change xs k) ≡ map f xs
changed_map f change same xs k = at (slice_get xs k) refl
  where
    at : (o : Option _) → slice_get xs k ≡ o → map f (option_map_or (λ x. slice_set xs k (change x)) o xs) ≡ map f xs
    at None e = refl
    at (Some x) e = set_map f xs k x (change x) e (same x)

pub first_changed_map : {X Y : Type 0} (f : X → Y) (change : X → X) → ((x : X) → f (change x) ≡ f x) → (p : X → Bool) (xs : List X) → map f (with_first_changed change p xs) ≡ map f xs
first_changed_map f change same p xs = at (position p xs)
  where
    at : (o : Option ℕ) → map f (option_map_or (with_changed change xs) o xs) ≡ map f xs
    at None = refl
    at (Some k) = changed_map f change same xs k

-- Where a member is another one, a place has that one or what it had.

pub set_cases : {X : Type 0} (P : X → Type 0) (xs : List X) (k i : ℕ) (y x : X) → slice_get (slice_set xs k y) i ≡ Some x → (i ≡ k → P y) → (slice_get xs i ≡ Some x → P x) → P x
set_cases P [] k i y x e one two = two e
set_cases P (z ∷ zs) zero zero y x e one two = let is : y ≡ x = cc in subst P is (one refl)
set_cases P (z ∷ zs) zero (suc i) y x e one two = two e
set_cases P (z ∷ zs) (suc k) zero y x e one two = two e
set_cases P (z ∷ zs) (suc k) (suc i) y x e one two = set_cases P zs k i y x e (λ is. one (ap (λ n. suc n) is)) two

-- A list with as many members as there are grows by none.

pub grown_same : {X : Type 0} (x : X) (xs : List X) (n : ℕ) → length xs ≡ n → grown x n xs ≡ xs
grown_same x xs n e = ap (λ k. xs ++ replicate k x) (let none : n - length xs ≡ 0 = omega (arith, e) in none) ∙ append-nil xs

-- All alike but one, and all again.
pub set_replicate : {X : Type 0} (x y : X) (n k : ℕ) → slice_set (slice_set (replicate n x) k y) k x ≡ replicate n x
set_replicate x y zero k = refl
set_replicate x y (suc n) zero = refl
set_replicate x y (suc n) (suc k) = ap (λ ws. x ∷ ws) (set_replicate x y n k)

-- The first member that a filter keeps is the first that passes.

pub record Head {X : Type 0} (p : X → Bool) (xs : List X) : Type 0 where
  pub member : X
  pub rest : List X
  pub kept : filter p xs ≡ member ∷ rest
  pub found : first_where p xs ≡ Some member
  pub passes : p member ≡ true

pub head_of : {X : Type 0} (p : X → Bool) (xs : List X) → list_any p xs ≡ true → Head p xs
head_of p [] any = absurd (let no : ⊥ = cc in no)
head_of p (x ∷ xs) any = at (p x) refl any (head_of p xs)
  where
    at : (b : Bool) → p x ≡ b → (b || list_any p xs) ≡ true → (list_any p xs ≡ true → Head p xs) → Head p (x ∷ xs)
    at true is any rest = record {
      member = x;
      rest = filter p xs;
      kept = ap (λ b. cond b (x ∷ filter p xs) (filter p xs)) is;
      found = first_cons p x xs ∙ ap (λ b. cond b (Some x) (first_where p xs)) is;
      passes = is;
    }
    at false is any rest = let h = rest any in record {
      member = h.member;
      rest = h.rest;
      kept = ap (λ b. cond b (x ∷ filter p xs) (filter p xs)) is ∙ h.kept;
      found = first_cons p x xs ∙ ap (λ b. cond b (Some x) (first_where p xs)) is ∙ h.found;
      passes = h.passes;
    }

pub none_filtered : {X : Type 0} (p : X → Bool) (xs : List X) → list_any p xs ≡ false → filter p xs ≡ []
none_filtered p [] none = refl
none_filtered p (x ∷ xs) none = at (p x) refl none (none_filtered p xs)
  where
    at : (b : Bool) → p x ≡ b → (b || list_any p xs) ≡ false → (list_any p xs ≡ false → filter p xs ≡ []) → cond b (x ∷ filter p xs) (filter p xs) ≡ []
    at true is none rest = absurd (let no : ⊥ = cc in no)
    at false is none rest = rest none

-- One incoming row owes an acknowledgement.

pub one_owing : (peer : Guid) (rows : List InRow) (n j : ℕ) (r : InRow) → slice_get rows j ≡ Some r → same_guid r.source peer ≡ true
    → filter_map (owed_to peer) (enumerate_from n (zip rows (slice_set (replicate (length rows) false) j true))) ≡ (n + j, r) ∷ []
one_owing peer [] n j r e is = absurd (let no : ⊥ = cc in no)
one_owing peer (q ∷ rows) n zero r e is = let same : q ≡ r = cc in let s : same_guid q.source peer ≡ true = subst (λ (y : InRow). same_guid y.source peer ≡ true) (sym same) is in
    rw (s, none_owing peer rows (n + 1), same) (ap (λ i. (i, r) ∷ []) (let f : n ≡ n + 0 = omega arith in f))
one_owing peer (q ∷ rows) n (suc j) r e is = one_owing peer rows (n + 1) j r e is ∙ ap (λ i. (i, r) ∷ []) (let f : n + 1 + j ≡ n + suc j = omega arith in f)

-- A function of the first member that passes tells the same where a member is another one of which all is the same.
pub first_set : {X Y : Type 0} (p : X → Bool) (f : X → Y) (none : Y) (xs : List X) (k : ℕ) (x y : X) → slice_get xs k ≡ Some x → p y ≡ p x → f y ≡ f x
    → option_map_or f (first_where p (slice_set xs k y)) none ≡ option_map_or f (first_where p xs) none
first_set p f none [] k x y e tests same = refl
first_set p f none (z ∷ zs) zero x y e tests same = let is : z ≡ x = cc in
    ap (λ o. option_map_or f o none) (first_cons p y zs)
    ∙ ap (λ b. option_map_or f (cond b (Some y) (first_where p zs)) none) (tests ∙ ap p (sym is))
    ∙ at (p z) (same ∙ ap f (sym is)) ∙ ap (λ o. option_map_or f o none) (sym (first_cons p z zs))
  where
    at : (b : Bool) → f y ≡ f z → option_map_or f (cond b (Some y) (first_where p zs)) none ≡ option_map_or f (cond b (Some z) (first_where p zs)) none
    at true is = is
    at false is = refl
first_set p f none (z ∷ zs) (suc k) x y e tests same =
    ap (λ o. option_map_or f o none) (first_cons p z (slice_set zs k y)) ∙ at (p z) (first_set p f none zs k x y e tests same)
    ∙ ap (λ o. option_map_or f o none) (sym (first_cons p z zs))
  where
    at : (b : Bool) → option_map_or f (first_where p (slice_set zs k y)) none ≡ option_map_or f (first_where p zs) none
        → option_map_or f (cond b (Some z) (first_where p (slice_set zs k y))) none ≡ option_map_or f (cond b (Some z) (first_where p zs)) none
    at true is = refl
    at false is = is

pub first_changed_same : {X Y : Type 0} (p : X → Bool) (f : X → Y) (none : Y) (change : X → X) → ((x : X) → p (change x) ≡ p x) → ((x : X) → f (change x) ≡ f x)
    → (q : X → Bool) (xs : List X) → option_map_or f (first_where p (with_first_changed change q xs)) none ≡ option_map_or f (first_where p xs) none
first_changed_same p f none change tests same q xs = at (position q xs)
  where
    by : (k : ℕ) (o : Option _) → slice_get xs k ≡ o
        → option_map_or f (first_where p (option_map_or (λ x. slice_set xs k (change x)) o xs)) none ≡ option_map_or f (first_where p xs) none
    by k None e = refl
    by k (Some x) e = first_set p f none xs k x (change x) e (tests x) (same x)

    at : (o : Option ℕ) → option_map_or f (first_where p (option_map_or (with_changed change xs) o xs)) none ≡ option_map_or f (first_where p xs) none
    at None = refl
    at (Some k) = by k (slice_get xs k) refl

-- What each member keeps where one changes.
pub changed_each : {X : Type 0} (P : X → Type 0) (change : X → X) → ((x : X) → P x → P (change x)) → (xs : List X) (k : ℕ) → All P xs → All P (with_changed change xs k)
changed_each P change keeps xs k all = at (slice_get xs k) refl
  where
    at : (o : Option _) → slice_get xs k ≡ o → All P (option_map_or (λ x. slice_set xs k (change x)) o xs)
    at None e = all
    at (Some z) e = all_each P (slice_set xs k (change z)) (λ i y there. set_cases P xs k i (change z) y there
        (λ same. keeps z (all_there P xs k z all e)) (λ before. all_there P xs i y all before))

-- Of two lists that one function maps to the same, a member of one is one of the other in its place.
pub mapped_at : {X Y : Type 0} (f : X → Y) (xs ys : List X) → map f ys ≡ map f xs → (i : ℕ) (y : X) → slice_get ys i ≡ Some y → (x : X) × (slice_get xs i ≡ Some x) × (f x ≡ f y)
mapped_at f xs [] same i y e = absurd (let none : ⊥ = cc in none)
mapped_at f [] (z ∷ zs) same i y e = absurd (let none : ⊥ = cc in none)
mapped_at f (x ∷ xs) (z ∷ zs) same zero y e = (x, refl, let heads : f z ≡ f x = cc in let is : z ≡ y = cc in sym heads ∙ ap f is)
mapped_at f (x ∷ xs) (z ∷ zs) same (suc i) y e = mapped_at f xs zs (let tails : map f zs ≡ map f xs = cc in tails) i y e

-- What each member of a list of lists has.

pub all_parts : {X : Type 0} (P : X → Type 0) (xs ys : List X) → AllByRecursion P (xs ++ ys) → AllByRecursion P xs × AllByRecursion P ys
all_parts P [] ys h = (tt, h)
all_parts P (x ∷ xs) ys h = let rest = all_parts P xs ys h.1 in ((h.0, rest.0), rest.1)

pub flat_part : {X Y : Type 0} (P : Y → Type 0) (f : X → List Y) (xs : List X) (k : ℕ) (x : X) → AllByRecursion P (flat_map f xs) → slice_get xs k ≡ Some x → AllByRecursion P (f x)
flat_part P f [] k x h e = absurd (let none : ⊥ = cc in none)
flat_part P f (y ∷ ys) zero x h e = let is : y ≡ x = cc in subst (λ z. AllByRecursion P (f z)) is (all_parts P (f y) (flat_map f ys) h).0
flat_part P f (y ∷ ys) (suc k) x h e = flat_part P f ys k x (all_parts P (f y) (flat_map f ys) h).1 e

-- The first member that passes is one.
pub first_has : {X Y : Type 0} (P : Y → Type 0) (f : X → Y) (p : X → Bool) (xs : List X) (x : X) → AllByRecursion P (map f xs) → first_where p xs ≡ Some x → P (f x)
first_has P f p [] x h e = absurd (let none : ⊥ = cc in none)
first_has P f p (y ∷ ys) x h e = at (p y) (sym (first_cons p y ys) ∙ e) (first_has P f p ys x h.1)
  where
    at : (b : Bool) → cond b (Some y) (first_where p ys) ≡ Some x → (first_where p ys ≡ Some x → P (f x)) → P (f x)
    at true is rest = let same : y ≡ x = cc in subst (λ z. P (f z)) same h.0
    at false is rest = rest is
