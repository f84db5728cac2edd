use Rattle.std.proofs.Common.{◌≡◌, ℕ, ◌+◌, List, ◌++◌, take, drop, sym, ◌∙◌, ap}
use Rattle.std.proofs.lemmas.List.{take-append-drop, drop-drop}

-- what is left at a place is its first part and what is left behind that
pub drop_is_take_drop : (at n : ℕ) (xs : List ℕ) → drop at xs ≡ take n (drop at xs) ++ drop (at + n) xs
drop_is_take_drop at n xs = sym (ap (λ (rest : List ℕ). take n (drop at xs) ++ rest) (sym (drop-drop n at xs)) ∙ take-append-drop n (drop at xs))
