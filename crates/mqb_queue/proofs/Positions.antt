-- Where the first member of a list stands that passes.
use Rattle.std.proofs.Common.{◌≡◌, ℕ, zero, suc, ◌+◌, ◌<◌, ◌≤◌, Bool, true, false, cond, ltb, List, [], ◌∷◌, ◌++◌, length, take, drop, map, Option, Some, None, refl, sym, ap, ◌∙◌, subst, arith}
use Rattle.std.specs.List.{All, remove, position, position_from, position_or_len, slice_get}
use Rattle.std.specs.Option.{IfSome, option_map}
use Rattle.std.proofs.lemmas.Bool.{ltb-true}
use Rattle.std.proofs.lemmas.Iterator.Adapters.{position_from-zero}
use Rattle.std.proofs.lemmas.List.{take_all, take_more}
use Rattle.std.proofs.lemmas.List.Elements.{All-nil, All-cons, All-head, All-push, All-tail, All-append, All-take, All-drop}
use Rattle.std.proofs.lemmas.Option.{get_or_from_slice_get, none-some, same_Some, slice_get_within}

shifted : {X : Type 0} (p : X → Bool) (i : ℕ) (xs : List X) → position_from p (i + 1) xs ≡ option_map suc (position_from p i xs)
shifted p i [] = refl
shifted p i (x ∷ xs) = at (p x) (shifted p (i + 1) xs)
  where
    at : (b : Bool) → position_from p (i + 1 + 1) xs ≡ option_map suc (position_from p (i + 1) xs)
        → cond b (Some (i + 1)) (position_from p (i + 1 + 1) xs) ≡ option_map suc (cond b (Some i) (position_from p (i + 1) xs))
    at true h = ap Some (omega arith)
    at false h = h

pub position_step : {X : Type 0} (p : X → Bool) (x : X) (xs : List X) → position p (x ∷ xs) ≡ cond (p x) (Some 0) (option_map suc (position p xs))
position_step p x xs =
    position_from-zero p (x ∷ xs)
    ∙ ap (λ o. cond (p x) (Some 0) o) (shifted p 0 xs ∙ ap (option_map suc) (sym (position_from-zero p xs)))

pub none_passes : {X : Type 0} (p : X → Bool) (xs : List X) → position p xs ≡ None → All (λ x. p x ≡ false) xs
none_passes p [] none = All-nil (λ x. p x ≡ false)
none_passes {X} p (x ∷ xs) none = at (p x) refl (sym (position_step p x xs) ∙ none) (none_passes p xs)
  where
    rest_none : (o : Option ℕ) → option_map suc o ≡ None → o ≡ None
    rest_none None h = refl
    rest_none (Some k) h = absurd (none-some (suc k) (sym h))

    at : (b : Bool) → p x ≡ b → cond b (Some 0) (option_map suc (position p xs)) ≡ None → (position p xs ≡ None → All (λ y. p y ≡ false) xs)
        → All (λ y. p y ≡ false) (x ∷ xs)
    at true is h rest = absurd (none-some 0 (sym h))
    at false is h rest = All-cons (λ y. p y ≡ false) x xs is (rest (rest_none (position p xs) h))

pub passes_none : {X : Type 0} (p : X → Bool) (xs : List X) → All (λ x. p x ≡ false) xs → position p xs ≡ None
passes_none p [] none = refl
passes_none p (x ∷ xs) none =
    position_step p x xs ∙ (ap (λ b. cond b (Some 0) (option_map suc (position p xs))) (All-head (λ y. p y ≡ false) x xs none)
    ∙ ap (option_map suc) (passes_none p xs (All-tail (λ y. p y ≡ false) x xs none)))

pub position_same : {X : Type 0} (p q : X → Bool) (xs : List X) → All (λ x. p x ≡ q x) xs → position p xs ≡ position q xs
position_same p q [] same = refl
position_same p q (x ∷ xs) same =
    position_step p x xs
    ∙ (ap (λ b. cond b (Some 0) (option_map suc (position p xs))) (All-head (λ y. p y ≡ q y) x xs same)
    ∙ (ap (λ o. cond (q x) (Some 0) (option_map suc o)) (position_same p q xs (All-tail (λ y. p y ≡ q y) x xs same))
    ∙ sym (position_step q x xs)))

pub position_joined : {X : Type 0} (p : X → Bool) (xs ys : List X) (k : ℕ) → position p xs ≡ Some k → position p (xs ++ ys) ≡ Some k
position_joined p [] ys k is = absurd (none-some k is)
position_joined {X} p (x ∷ xs) ys k is = position_step p x (xs ++ ys) ∙ at (p x) (sym (position_step p x xs) ∙ is) (position_joined p xs ys)
  where
    at : (b : Bool) → cond b (Some 0) (option_map suc (position p xs)) ≡ Some k → ((j : ℕ) → position p xs ≡ Some j → position p (xs ++ ys) ≡ Some j)
        → cond b (Some 0) (option_map suc (position p (xs ++ ys))) ≡ Some k
    at true h rest = h
    at false h rest = later (position p xs) refl h
      where
        later : (o : Option ℕ) → position p xs ≡ o → option_map suc o ≡ Some k → option_map suc (position p (xs ++ ys)) ≡ Some k
        later None e g = absurd (none-some k g)
        later (Some j) e g = ap (option_map suc) (rest j e) ∙ g

pub position_behind : {X : Type 0} (p : X → Bool) (xs ys : List X) → All (λ x. p x ≡ false) xs
    → position p (xs ++ ys) ≡ option_map (λ k. length xs + k) (position p ys)
position_behind p [] ys none = sym (same (position p ys))
  where
    same : (o : Option ℕ) → option_map (λ k. 0 + k) o ≡ o
    same None = refl
    same (Some k) = ap Some (omega arith)
position_behind p (x ∷ xs) ys none =
    position_step p x (xs ++ ys)
    ∙ (ap (λ b. cond b (Some 0) (option_map suc (position p (xs ++ ys)))) (All-head (λ y. p y ≡ false) x xs none)
    ∙ (ap (option_map suc) (position_behind p xs ys (All-tail (λ y. p y ≡ false) x xs none)) ∙ twice (position p ys)))
  where
    twice : (o : Option ℕ) → option_map suc (option_map (λ k. length xs + k) o) ≡ option_map (λ k. suc (length xs) + k) o
    twice None = refl
    twice (Some k) = ap Some (omega arith)

-- a search over what members are seen as
pub position_map : {X Y : Type 0} (f : X → Y) (p : Y → Bool) (xs : List X) → position p (map f xs) ≡ position (λ x. p (f x)) xs
position_map f p [] = refl
position_map f p (x ∷ xs) =
    position_step p (f x) (map f xs)
    ∙ (ap (λ o. cond (p (f x)) (Some 0) (option_map suc o)) (position_map f p xs) ∙ sym (position_step (λ y. p (f y)) x xs))

-- what stands before and behind the first member that passes
pub record Passing {X : Type 0} (p : X → Bool) (xs : List X) (k : ℕ) : Type 0 where
  pub before : List X
  pub at : X
  pub behind : List X
  pub whole : xs ≡ before ++ at ∷ behind
  pub place : length before ≡ k
  pub passes : p at ≡ true
  pub none_before : All (λ x. p x ≡ false) before

pub passing : {X : Type 0} (p : X → Bool) (xs : List X) (k : ℕ) → position p xs ≡ Some k → Passing p xs k
passing p [] k is = absurd (none-some k is)
passing {X} p (x ∷ xs) k is = at (p x) refl (sym (position_step p x xs) ∙ is) (passing p xs)
  where
    at : (b : Bool) → p x ≡ b → cond b (Some 0) (option_map suc (position p xs)) ≡ Some k → ((j : ℕ) → position p xs ≡ Some j → Passing p xs j)
        → Passing p (x ∷ xs) k
    at true so h rest = record {
      before = [];
      at = x;
      behind = xs;
      whole = refl;
      place = same_Some 0 k h;
      passes = so;
      none_before = All-nil (λ y. p y ≡ false);
    }
    at false so h rest = later (position p xs) refl h
      where
        later : (o : Option ℕ) → position p xs ≡ o → option_map suc o ≡ Some k → Passing p (x ∷ xs) k
        later None e g = absurd (none-some k g)
        later (Some j) e g =
            let r = rest j e in
            record {
              before = x ∷ r.before;
              at = r.at;
              behind = r.behind;
              whole = ap (λ ys. x ∷ ys) r.whole;
              place = ap suc r.place ∙ same_Some (suc j) k g;
              passes = r.passes;
              none_before = All-cons (λ y. p y ≡ false) x r.before so r.none_before;
            }

-- what holds of all holds of those that are left
pub all_left : {X : Type 0} (P : X → Type 0) (xs : List X) (k : ℕ) → All P xs → All P (remove xs k)
all_left P xs k all = All-append P (take k xs) (drop (suc k) xs) (All-take P k xs all) (All-drop P (suc k) xs all)

-- the first one that passes is at k
pub found_here : {X : Type 0} (p : X → Bool) (xs : List X) (k : ℕ) (x : X) → All (λ y. p y ≡ false) (take k xs) → slice_get xs k ≡ Some x → p x ≡ true
    → position p xs ≡ Some k
found_here p [] k x none is passes = absurd (none-some x is)
found_here {X} p (y ∷ xs) zero x none is passes = position_step p y xs
    ∙ ap (λ b. cond b (Some 0) (option_map suc (position p xs))) (ap p (same_Some y x is) ∙ passes)
found_here p (y ∷ xs) (suc k) x none is passes = position_step p y xs
    ∙ (ap (λ b. cond b (Some 0) (option_map suc (position p xs))) (All-head (λ z. p z ≡ false) y (take k xs) none)
    ∙ ap (option_map suc) (found_here p xs k x (All-tail (λ z. p z ≡ false) y (take k xs) none) is passes))

-- the one at k does not pass either
pub none_more : {X : Type 0} (p : X → Bool) (xs : List X) (k : ℕ) (x : X) → All (λ y. p y ≡ false) (take k xs) → slice_get xs k ≡ Some x → p x ≡ false
    → All (λ y. p y ≡ false) (take (k + 1) xs)
none_more {X} p xs k x none is fails =
    let more : take (k + 1) xs ≡ take k xs ++ x ∷ [] = take_more xs k x (slice_get_within xs k x is) ∙ ap (λ y. take k xs ++ y ∷ []) (get_or_from_slice_get xs k x x is) in
    subst (λ (ys : List X). All (λ y. p y ≡ false) ys) (sym more) (All-push (λ y. p y ≡ false) (take k xs) x none fails)

-- no one passes
pub none_found : {X : Type 0} (p : X → Bool) (xs : List X) (k : ℕ) → All (λ y. p y ≡ false) (take k xs) → length xs ≤ k → position p xs ≡ None
none_found {X} p xs k none past = passes_none p xs (subst (λ (ys : List X). All (λ y. p y ≡ false) ys) (take_all k xs past) none)

-- where one is found, it is within the list
pub position_within : {X : Type 0} (p : X → Bool) (xs : List X) → IfSome (position p xs) (λ k. k < length xs)
position_within p xs = at (ltb (position_or_len p xs) (length xs)) (λ t. ltb-true (position_or_len p xs) (length xs) t)
  where
    at : (b : Bool) → (b ≡ true → position_or_len p xs < length xs) → IfSome (cond b (Some (position_or_len p xs)) None) (λ k. k < length xs)
    at true inside = inside refl
    at false inside = tt
