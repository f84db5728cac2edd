use Rattle.std.proofs.Common.{◌≡◌, ℕ, ◌<◌, ◌≤◌, ◌⊎◌, inl, inr, List, ◌∙◌, sym, subst, arith}
use Rattle.std.specs.List.{All, Contains}
use Rattle.std.proofs.lemmas.Bool.{cases_lt}
use Rattle.std.proofs.lemmas.List.Elements.{All-weaker, All-contains}
use Rattle.mqb_orders.specs.KeptLists.{numbers}
use Rattle.mqb_orders.specs.Rows.{link_before, greatest_below, IsGreatestBelow}
use Rattle.mqb_orders.specs.Streams.{kept_of}
use Rattle.mqb_orders.proofs.Greatest.{floor, below, greatest, member, same_greatest}
use Rattle.mqb_orders.proofs.laws.link_is_before.Goals as goal

-- over the members that the row keeps, xs, and those of the stream, ks
over : (acked n : ℕ) (xs ks : List ℕ) → All (λ k. acked < k → Contains xs k) ks → All (λ k. acked < k → Contains ks k) xs
    → (acked ≡ 0) ⊎ Contains ks acked → acked < n → IsGreatestBelow 0 n ks (greatest_below acked n xs)
over acked n xs ks all only acked_kept h = record {
  below = below acked n xs h;
  floor = omega arith;
  member = joined (member acked n xs);
  greatest = All-weaker (λ k. acked < k → Contains xs k) (λ k. k < n → k ≤ greatest_below acked n xs) at_most ks all;
}
  where
    is_acked : greatest_below acked n xs ≡ acked → (greatest_below acked n xs ≡ 0) ⊎ Contains ks (greatest_below acked n xs)
    is_acked is = elim acked_kept [ inl none ↦ inl (is ∙ none) | inr kept ↦ inr (subst (λ m. Contains ks m) (sym is) kept) ]

    joined : (greatest_below acked n xs ≡ acked) ⊎ Contains xs (greatest_below acked n xs)
        → (greatest_below acked n xs ≡ 0) ⊎ Contains ks (greatest_below acked n xs)
    joined (inl is) = is_acked is
    joined (inr inside) = elim (cases_lt acked (greatest_below acked n xs)) [
      | inl above ↦ inr (All-contains (λ k. acked < k → Contains ks k) xs (greatest_below acked n xs) only inside above)
      | inr within ↦ is_acked (omega (arith, floor acked n xs))
    ]

    at_most : (k : ℕ) → (acked < k → Contains xs k) → k < n → k ≤ greatest_below acked n xs
    at_most k inside lower = elim (cases_lt acked k) [
      | inl above ↦ All-contains (λ x. x < n → x ≤ greatest_below acked n xs) xs k (greatest acked n xs) (inside above) lower
      | inr within ↦ omega (arith, floor acked n xs)
    ]

pub returns : goal.returns
returns c = λ s lines acked kept n keeps h.
    same_greatest 0 n (kept_of s lines) (link_before acked kept n)
    (over acked n (numbers kept) (kept_of s lines) keeps.all keeps.only keeps.acked_kept h)
