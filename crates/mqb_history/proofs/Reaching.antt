-- Stream worlds that some run reaches, and lists with their newest member first.
use Rattle.std.proofs.Common.{refl, ap, sym, subst, ◌∙◌, inl, inr}
use Rattle.std.proofs.lemmas.Grind.{reverse_onto}
use Rattle.std.specs.List.{cons_option}
use Rattle.std.specs.Prelude.{[], ◌++◌, ◌∷◌, ◌≡◌, ◌⊎◌, List, None, Option, Some, filter_map, reverse}
use Rattle.std.proofs.lemmas.List.{reverse-append}
use Rattle.mqb_exactly_once.specs.Runs.{IsRun, after}
use Rattle.mqb_exactly_once.specs.Steps.{May, StreamStep, happens}
use Rattle.mqb_exactly_once.specs.Words.{In}
use Rattle.mqb_exactly_once.specs.World.{Channel, StreamWorld}
use Rattle.mqb_exactly_once.proofs.Always.{StreamInvariant, always}
use Rattle.mqb_history.proofs.Committing.{in_append, in_split}

-- a stream world that some run reaches
pub record Reached (c : Channel) (w : StreamWorld) : Type 0 where
  pub steps : List StreamStep
  pub run : IsRun c steps
  pub end : after c steps ≡ w

-- one step more
pub more : (c : Channel) (w : StreamWorld) (x : StreamStep) → Reached c w → May w x → Reached c (happens w x)
more c w x r may = record {
  steps = x ∷ r.steps;
  run = (subst (λ v. May v x) (sym r.end) may, r.run);
  end = ap (λ v. happens v x) r.end;
}

pub kept_invariant : (c : Channel) (w : StreamWorld) → Reached c w → StreamInvariant w
kept_invariant c w r = subst StreamInvariant r.end (always c r.steps r.run)

-- Lists.

pub reverse_cons : {X : Type 0} (x : X) (xs : List X) → reverse (x ∷ xs) ≡ reverse xs ++ x ∷ []
reverse_cons x xs = reverse_onto xs x []

-- the last is first
pub reverse_last : {X : Type 0} (xs : List X) (x : X) → reverse (xs ++ x ∷ []) ≡ x ∷ reverse xs
reverse_last xs x = reverse-append xs (x ∷ [])

pub in_right : {X : Type 0} (xs ys : List X) (x : X) → In x ys → In x (xs ++ ys)
in_right [] ys x i = i
in_right (z ∷ zs) ys x i = inr (in_right zs ys x i)

pub in_reverse : {X : Type 0} (xs : List X) (x : X) → In x xs → In x (reverse xs)
in_reverse [] x i = absurd i
in_reverse (y ∷ ys) x (inl e) = subst (In x) (sym (reverse_cons y ys)) (in_right (reverse ys) (y ∷ []) x (inl e))
in_reverse (y ∷ ys) x (inr i) = subst (In x) (sym (reverse_cons y ys)) (in_append (reverse ys) (y ∷ []) x (in_reverse ys x i))

pub in_reversed : {X : Type 0} (xs : List X) (x : X) → In x (reverse xs) → In x xs
in_reversed [] x i = i
in_reversed {X = X} (y ∷ ys) x i = at (in_split (reverse ys) (y ∷ []) x (subst (In x) (reverse_cons y ys) i)) (in_reversed ys x)
  where
    at : In x (reverse ys) ⊎ In x (y ∷ []) → (In x (reverse ys) → In x ys) → In x (y ∷ ys)
    at (inl j) rest = inr (rest j)
    at (inr (inl e)) rest = inl e
    at (inr (inr none)) rest = absurd none

-- what is chosen of a list is chosen of its parts
pub chosen_append : {X Y : Type 0} (f : X → Option Y) (xs ys : List X) → filter_map f (xs ++ ys) ≡ filter_map f xs ++ filter_map f ys
chosen_append f [] ys = refl
chosen_append {Y = Y} f (x ∷ xs) ys = at (f x) (chosen_append f xs ys)
  where
    at : (o : Option Y) → filter_map f (xs ++ ys) ≡ filter_map f xs ++ filter_map f ys
        → cons_option o (filter_map f (xs ++ ys)) ≡ cons_option o (filter_map f xs) ++ filter_map f ys
    at None rest = rest
    at (Some y) rest = ap (λ zs. y ∷ zs) rest

-- what is chosen came from a member
pub chosen_from : {X Y : Type 0} (f : X → Option Y) (xs : List X) (y : Y) → In y (filter_map f xs) → (x : X) × In x xs × (f x ≡ Some y)
chosen_from f [] y i = absurd i
chosen_from {Y = Y} f (x ∷ xs) y i = at (f x) refl i (chosen_from f xs y)
  where
    at : (o : Option Y) → f x ≡ o → In y (cons_option o (filter_map f xs)) → (In y (filter_map f xs) → (z : _) × In z xs × (f z ≡ Some y)) → (z : _) × In z (x ∷ xs) × (f z ≡ Some y)
    at None e i rest = let r = rest i in (r.0, inr r.1, r.2)
    at (Some z) e (inl same) rest = (x, inl refl, e ∙ ap (λ v. Some v) same)
    at (Some z) e (inr i) rest = let r = rest i in (r.0, inr r.1, r.2)

-- and a member that is chosen is among them
pub chosen_in : {X Y : Type 0} (f : X → Option Y) (xs : List X) (x : X) (y : Y) → In x xs → f x ≡ Some y → In y (filter_map f xs)
chosen_in f [] x y i e = absurd i
chosen_in f (z ∷ zs) x y (inl same) e = subst (λ o. In y (cons_option o (filter_map f zs))) (sym (ap f same ∙ e)) (inl refl)
chosen_in {Y = Y} f (z ∷ zs) x y (inr i) e = at (f z) (chosen_in f zs x y i e)
  where
    at : (o : Option Y) → In y (filter_map f zs) → In y (cons_option o (filter_map f zs))
    at None j = j
    at (Some v) j = inr j
