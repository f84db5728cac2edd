-- A member joins a list at the end.
use Rattle.std.proofs.Common.{◌≡◌, List, [], ◌∷◌, ◌++◌, length, set, Some, refl, ap}
use Rattle.std.specs.List.{insert}
use Rattle.std.specs.Prelude.{slice_get}

pub insert_end : {X : Type 0} (xs : List X) (x : X) → insert xs (length xs) x ≡ xs ++ x ∷ []
insert_end [] x = refl
insert_end (y ∷ ys) x = ap (λ l. y ∷ l) (insert_end ys x)

pub get_end : {X : Type 0} (xs : List X) (x : X) → slice_get (xs ++ x ∷ []) (length xs) ≡ Some x
get_end [] x = refl
get_end (y ∷ ys) x = get_end ys x

pub set_end : {X : Type 0} (xs : List X) (x z : X) → set (xs ++ x ∷ []) (length xs) z ≡ xs ++ z ∷ []
set_end [] x z = refl
set_end (y ∷ ys) x z = ap (λ l. y ∷ l) (set_end ys x z)
