-- Numbers in a row.
use Rattle.std.proofs.Common.{◌≡◌, ℕ, zero, suc, ◌+◌, List, [], ◌∷◌, ◌++◌, ap, ◌∙◌, arith}
use Rattle.std.specs.List.{range_with_len}

-- one more
one_more : (a n : ℕ) → range_with_len a (suc n) ≡ range_with_len a n ++ (a + n) ∷ []
one_more a zero = ap (λ (k : ℕ). k ∷ []) (omega arith)
one_more a (suc n) = ap (λ (ks : List ℕ). a ∷ ks) (one_more (a + 1) n) ∙ ap (λ (k : ℕ). a ∷ (range_with_len (a + 1) n ++ k ∷ [])) (omega arith)

pub numbers_more : (a n : ℕ) → range_with_len a (n + 1) ≡ range_with_len a n ++ (a + n) ∷ []
numbers_more a n = let next : n + 1 ≡ suc n = omega arith in ap (range_with_len a) next ∙ one_more a n
