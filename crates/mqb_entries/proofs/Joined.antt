-- Lists that were joined one after the other.
use Rattle.std.proofs.Common.{◌≡◌, ℕ, List, ◌++◌, ap, ◌∙◌, append_assoc}

-- two parts that were added in turn
pub two_added : (out first second a b : List ℕ) → a ≡ out ++ first → b ≡ a ++ second → b ≡ out ++ (first ++ second)
two_added out first second a b one two = two ∙ ap (λ (x : List ℕ). x ++ second) one ∙ append_assoc out first second

-- three parts that were added in turn
pub three_added : (out first second third a b c : List ℕ) → a ≡ out ++ first → b ≡ a ++ second → c ≡ b ++ third → c ≡ out ++ (first ++ (second ++ third))
three_added out first second third a b c one two three =
    two_added a second third b c two three ∙ ap (λ (x : List ℕ). x ++ (second ++ third)) one ∙ append_assoc out first (second ++ third)
