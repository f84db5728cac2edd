-- Members of lists that were chosen, turned round or joined, and names that are the same.
use Rattle.std.proofs.Common.{◌≡◌, ℕ, zero, suc, ◌⊎◌, inl, inr, Bool, true, false, cond, List, [], ◌∷◌, ◌++◌, Option, Some, None, refl, sym, ap, subst, ◌∙◌}
use Rattle.std.proofs.lemmas.List.{reverse-append}
use Rattle.std.proofs.lemmas.List.Elements.{All-contains, All-from_recursion}
use Rattle.std.specs.List.{AllByRecursion, cons_option, flat_map}
use Rattle.std.specs.Prelude.{Contains, filter, filter_map, map, reverse, slice_get}
use Rattle.mqb_exactly_once.specs.Words.{In}

-- Members.

pub in_got : {X : Type 0} (xs : List X) (k : ℕ) (x : X) → slice_get xs k ≡ Some x → In x xs
in_got [] k x e = absurd (let none : ⊥ = cc in none)
in_got (y ∷ ys) zero x e = inl (let same : y ≡ x = cc in same)
in_got (y ∷ ys) (suc k) x e = inr (in_got ys k x e)

pub all_in : {X : Type 0} (P : X → Type 0) (xs : List X) (x : X) → In x xs → AllByRecursion P xs → P x
all_in P [] x inside all = absurd inside
all_in P (y ∷ ys) x (inl e) all = subst P e all.0
all_in P (y ∷ ys) x (inr inside) all = all_in P ys x inside all.1

all_of : {X : Type 0} (P : X → Type 0) (xs : List X) → ((x : X) → In x xs → P x) → AllByRecursion P xs
all_of P [] f = tt
all_of P (x ∷ xs) f = (f x (inl refl), all_of P xs (λ y inside. f y (inr inside)))

pub in_contains : {X : Type 0} (xs : List X) (x : X) → Contains xs x → In x xs
in_contains xs x h = All-contains (λ y. In y xs) xs x (All-from_recursion (λ y. In y xs) xs (all_of (λ y. In y xs) xs (λ y inside. inside))) h

pub in_left : {X : Type 0} (xs ys : List X) (x : X) → In x xs → In x (xs ++ ys)
in_left [] ys x inside = absurd inside
in_left (y ∷ xs) ys x (inl e) = inl e
in_left (y ∷ xs) ys x (inr inside) = inr (in_left xs ys x inside)

pub in_right : {X : Type 0} (xs ys : List X) (x : X) → In x ys → In x (xs ++ ys)
in_right [] ys x inside = inside
in_right (y ∷ xs) ys x inside = inr (in_right xs ys x inside)

pub in_either : {X : Type 0} (xs ys : List X) (x : X) → In x (xs ++ ys) → In x xs ⊎ In x ys
in_either [] ys x inside = inr inside
in_either (y ∷ xs) ys x (inl e) = inl (inl e)
in_either (y ∷ xs) ys x (inr inside) = at (in_either xs ys x inside)
  where
    at : In x xs ⊎ In x ys → In x (y ∷ xs) ⊎ In x ys
    at (inl a) = inl (inr a)
    at (inr b) = inr b

reverse_cons : {X : Type 0} (x : X) (xs : List X) → reverse (x ∷ xs) ≡ reverse xs ++ x ∷ []
reverse_cons x xs = reverse-append (x ∷ []) xs

pub in_reverse : {X : Type 0} (xs : List X) (x : X) → In x xs → In x (reverse xs)
in_reverse [] x inside = absurd inside
in_reverse (y ∷ ys) x (inl e) = subst (In x) (sym (reverse_cons y ys)) (in_right (reverse ys) (y ∷ []) x (inl e))
in_reverse (y ∷ ys) x (inr inside) = subst (In x) (sym (reverse_cons y ys)) (in_left (reverse ys) (y ∷ []) x (in_reverse ys x inside))

pub in_reversed : {X : Type 0} (xs : List X) (x : X) → In x (reverse xs) → In x xs
in_reversed [] x inside = inside
in_reversed (y ∷ ys) x inside = at (in_either (reverse ys) (y ∷ []) x (subst (In x) (reverse_cons y ys) inside)) (in_reversed ys x)
  where
    at : In x (reverse ys) ⊎ In x (y ∷ []) → (In x (reverse ys) → In x ys) → In x (y ∷ ys)
    at (inl a) rest = inr (rest a)
    at (inr (inl e)) rest = inl e
    at (inr (inr none)) rest = absurd none

pub filter_in : {X : Type 0} (p : X → Bool) (xs : List X) (x : X) → In x (filter p xs) → In x xs × (p x ≡ true)
filter_in p [] x inside = absurd inside
filter_in p (y ∷ ys) x inside = at (p y) refl inside (filter_in p ys x)
  where
    at : (b : Bool) → p y ≡ b → In x (cond b (y ∷ filter p ys) (filter p ys)) → (In x (filter p ys) → In x ys × (p x ≡ true)) → In x (y ∷ ys) × (p x ≡ true)
    at true is (inl e) rest = (inl e, subst (λ z. p z ≡ true) e is)
    at true is (inr inside) rest = let r = rest inside in (inr r.0, r.1)
    at false is inside rest = let r = rest inside in (inr r.0, r.1)

pub in_filter : {X : Type 0} (p : X → Bool) (xs : List X) (x : X) → In x xs → p x ≡ true → In x (filter p xs)
in_filter p [] x inside is = absurd inside
in_filter p (y ∷ ys) x (inl e) is = subst (In x) (sym (ap (λ b. cond b (y ∷ filter p ys) (filter p ys)) (ap p e ∙ is))) (inl e)
in_filter p (y ∷ ys) x (inr inside) is = at (p y) (in_filter p ys x inside is)
  where
    at : (b : Bool) → In x (filter p ys) → In x (cond b (y ∷ filter p ys) (filter p ys))
    at true i = inr i
    at false i = i

pub map_from : {X Y : Type 0} (f : X → Y) (xs : List X) (y : Y) → In y (map f xs) → (x : X) × In x xs × (f x ≡ y)
map_from f [] y inside = absurd inside
map_from f (x ∷ xs) y (inl e) = (x, inl refl, e)
map_from f (x ∷ xs) y (inr inside) = let r = map_from f xs y inside in (r.0, inr r.1, r.2)

pub map_in : {X Y : Type 0} (f : X → Y) (xs : List X) (x : X) → In x xs → In (f x) (map f xs)
map_in f [] x inside = absurd inside
map_in f (y ∷ ys) x (inl e) = inl (ap f e)
map_in f (y ∷ ys) x (inr inside) = inr (map_in f ys x inside)

pub chosen_in : {X Y : Type 0} (f : X → Option Y) (xs : List X) (x : X) (y : Y) → In x xs → f x ≡ Some y → In y (filter_map f xs)
chosen_in f [] x y inside is = absurd inside
chosen_in f (z ∷ zs) x y (inl e) is = subst (λ o. In y (cons_option o (filter_map f zs))) (sym (ap f e ∙ is)) (inl refl)
chosen_in f (z ∷ zs) x y (inr inside) is = at (f z) (chosen_in f zs x y inside is)
  where
    at : (o : Option _) → In y (filter_map f zs) → In y (cons_option o (filter_map f zs))
    at None i = i
    at (Some w) i = inr i

pub chosen_from : {X Y : Type 0} (f : X → Option Y) (xs : List X) (y : Y) → In y (filter_map f xs) → (x : X) × In x xs × (f x ≡ Some y)
chosen_from f [] y inside = absurd inside
chosen_from f (z ∷ zs) y inside = at (f z) refl inside (chosen_from f zs y)
  where
    at : (o : Option _) → f z ≡ o → In y (cons_option o (filter_map f zs)) → (In y (filter_map f zs) → (x : _) × In x zs × (f x ≡ Some y)) → (x : _) × In x (z ∷ zs) × (f x ≡ Some y)
    at None is i rest = let r = rest i in (r.0, inr r.1, r.2)
    at (Some w) is (inl e) rest = (z, inl refl, is ∙ ap (λ v. Some v) e)
    at (Some w) is (inr i) rest = let r = rest i in (r.0, inr r.1, r.2)

pub flat_from : {X Y : Type 0} (f : X → List Y) (xs : List X) (y : Y) → In y (flat_map f xs) → (x : X) × In x xs × In y (f x)
flat_from f [] y inside = absurd inside
flat_from f (x ∷ xs) y inside = at (in_either (f x) (flat_map f xs) y inside) (flat_from f xs y)
  where
    at : In y (f x) ⊎ In y (flat_map f xs) → (In y (flat_map f xs) → (z : _) × In z xs × In y (f z)) → (z : _) × In z (x ∷ xs) × In y (f z)
    at (inl i) rest = (x, inl refl, i)
    at (inr i) rest = let r = rest i in (r.0, inr r.1, r.2)

pub flat_in : {X Y : Type 0} (f : X → List Y) (xs : List X) (x : X) (y : Y) → In x xs → In y (f x) → In y (flat_map f xs)
flat_in f [] x y inside i = absurd inside
flat_in f (z ∷ zs) x y (inl e) i = in_left (f z) (flat_map f zs) y (subst (λ w. In y (f w)) (sym e) i)
flat_in f (z ∷ zs) x y (inr inside) i = in_right (f z) (flat_map f zs) y (flat_in f zs x y inside i)
