-- The first kept number links to no more than what is acknowledged.
use Rattle.std.proofs.Common.{◌≡◌, ℕ, ◌<◌, ◌≤◌, ◌⊎◌, inl, inr, max, Bool, true, false, cond, nat_le, nat_lt, List, [], ◌∷◌, Option, Some, None, refl, le_trans, arith}
use Rattle.std.specs.Prelude.{All, filter, fold, get_or}
use Rattle.std.proofs.lemmas.Bool.{cases_lt, ltb-true, true≢false}
use Rattle.std.proofs.lemmas.List.Elements.{All-head, All-tail}
use Rattle.mqb_base.specs.Sequences.{earlier}
use Rattle.mqb_base.specs.declared.heads.TxHead.{TxHead}
use Rattle.mqb_orders.specs.Judging.{decided_of, verdict_after, verdict_of}
use Rattle.mqb_orders.specs.KeptLists.{numbers}
use Rattle.mqb_orders.specs.Rows.{Row, greatest_below, link_before}
use Rattle.mqb_orders.specs.declared.judging.Verdict.TheVariants.{Duplicate, Gap, Next, Stale}
use Rattle.mqb_orders.specs.declared.kept.Kept.{Kept}
use Rattle.mqb_orders.specs.declared.rows.InRow.{InRow}
use Rattle.mqb_model.specs.calls.pump.Candidates.{tx_of}
use Rattle.mqb_law_progress.specs.Progress.{HasDecided, IsFirst}

-- what stands before a number is within a bound, where each lower one is
greatest_within : (kept : List Kept) (low n bound : ℕ) → low ≤ bound → All (λ k. k.number < n → k.number ≤ bound) kept
    → greatest_below low n (numbers kept) ≤ bound
greatest_within [] low n bound within all = within
greatest_within (k ∷ kept) low n bound within all = at (nat_lt k.number n) refl
    (All-head (λ (x : Kept). x.number < n → x.number ≤ bound) k kept all)
    (λ more less. greatest_within kept more n bound less (All-tail (λ (x : Kept). x.number < n → x.number ≤ bound) k kept all))
  where
    at : (b : Bool) → nat_lt k.number n ≡ b → (k.number < n → k.number ≤ bound)
        → ((more : ℕ) → more ≤ bound → greatest_below more n (numbers kept) ≤ bound)
        → fold max low (cond b (k.number ∷ filter (λ x. nat_lt x n) (numbers kept)) (filter (λ x. nat_lt x n) (numbers kept))) ≤ bound
    at true is head rest =
        let lower : k.number ≤ bound = head (ltb-true _ _ is) in
        rest (max low k.number) (omega (arith, lower, within))
    at false is head rest = rest low within

links_to_acked : (row : Row) (k : Kept) → IsFirst row k → link_before row.acked row.kept k.number ≤ row.acked
links_to_acked row k f = greatest_within row.kept row.acked k.number row.acked (omega arith) lower
  where
    lower : All (λ x. x.number < k.number → x.number ≤ row.acked) row.kept
    lower = λ i d inside below. elim (cases_lt row.acked (get_or row.kept i d).number) [
      | inl over ↦ let not = f.first i d inside over in absurd (omega (arith, not, below))
      | inr within ↦ within
    ]

no_gap : (d : ℕ) (tx : TxHead) → tx.previous ≤ d → (verdict_after d tx ≡ Next) ⊎ (verdict_after d tx ≡ Duplicate)
no_gap d tx linked = at (nat_le tx.number d) (cases_lt d tx.previous)
  where
    at : (b : Bool) → (d < tx.previous) ⊎ (tx.previous ≤ d) → (cond b Duplicate (cond (nat_lt d tx.previous) Gap Next) ≡ Next)
        ⊎ (cond b Duplicate (cond (nat_lt d tx.previous) Gap Next) ≡ Duplicate)
    at true _ = inr refl
    at false (inl over) = absurd (omega (arith, over, linked))
    at false (inr within) = inl (gap (nat_lt d tx.previous) refl)
      where
        gap : (b : Bool) → nat_lt d tx.previous ≡ b → cond b Gap Next ≡ Next
        gap true is = let over : d < tx.previous = ltb-true _ _ is in absurd (omega (arith, over, within))
        gap false is = refl

pub first_is_no_gap : (row : Row) (k : Kept) (there : Option InRow) → IsFirst row k → HasDecided row there
    → (verdict_of there (tx_of row k) ≡ Next) ⊎ (verdict_of there (tx_of row k) ≡ Duplicate)
first_is_no_gap row k None f h = no_gap 0 (tx_of row k) (le_trans (links_to_acked row k f) h.acknowledged)
first_is_no_gap row k (Some r) f h = at (earlier row.sequence r.sequence) h.none_later
  where
    at : (b : Bool) → b ≡ false → (cond b Stale (verdict_after (decided_of r row.sequence) (tx_of row k)) ≡ Next)
        ⊎ (cond b Stale (verdict_after (decided_of r row.sequence) (tx_of row k)) ≡ Duplicate)
    at true is = absurd (true≢false is)
    at false is = no_gap (decided_of r row.sequence) (tx_of row k) (le_trans (links_to_acked row k f) h.acknowledged)
