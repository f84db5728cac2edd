-- Where a member stands in a list.
use Rattle.std.proofs.Common.{◌≡◌, ℕ, ◌+◌, Bool, true, false, not, List, [], ◌∷◌, map, refl, ap}
use Rattle.std.proofs.lemmas.List.{length-map}
use Rattle.std.specs.List.{prefix_len, position}
use Rattle.std.specs.Prelude.{if◌then◌else◌}

step : (pass : Bool) (m n : ℕ) → m ≡ n → (if pass then 1 + m else 0) ≡ (if pass then 1 + n else 0)
step true m n same = ap (λ k. 1 + k) same
step false m n same = refl

prefix_len-map : {X Y : Type 0} (p : X → Bool) (f : Y → X) (ys : List Y) → prefix_len p (map f ys) ≡ prefix_len (λ y. p (f y)) ys
prefix_len-map p f [] = refl
prefix_len-map p f (y ∷ ys) = step (p (f y)) _ _ (prefix_len-map p f ys)

pub position-map : {X Y : Type 0} (p : X → Bool) (f : Y → X) (ys : List Y) → position p (map f ys) ≡ position (λ y. p (f y)) ys
position-map p f ys = rw (prefix_len-map (λ x. not (p x)) f ys, length-map) refl
