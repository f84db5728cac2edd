-- An acknowledgement leaves fewer numbers that are not acknowledged.
use Rattle.std.proofs.Common.{◌≡◌, ℕ, ◌<◌, ◌≤◌, inl, inr, max, Bool, true, false, cond, nat_lt, List, [], ◌∷◌, refl, lt_of_le_of_lt, arith}
use Rattle.std.specs.Prelude.{filter, length}
use Rattle.std.proofs.lemmas.Bool.{cases_Bool, lt-ltb, ltb-true}
use Rattle.mqb_exactly_once.specs.Words.{In}
use Rattle.mqb_orders.specs.KeptLists.{released}
use Rattle.mqb_orders.specs.Rows.{Row, acknowledged}
use Rattle.mqb_orders.specs.declared.kept.Kept.{Kept}
use Rattle.mqb_law_recovery.proofs.Counting.{one_less}
use Rattle.mqb_law_progress.specs.Progress.{unacknowledged}

-- what is left of a list has no more members that pass
left_of : {A : Type 0} (f g : A → Bool) (xs : List A) → length (filter f (filter g xs)) ≤ length (filter f xs)
left_of f g [] = omega arith
left_of f g (x ∷ xs) = at (g x) (f x) refl (left_of f g xs)
  where
    both : (c : Bool) → f x ≡ c → length (filter f (filter g xs)) ≤ length (filter f xs)
        → length (cond c (x ∷ filter f (filter g xs)) (filter f (filter g xs))) ≤ length (cond c (x ∷ filter f xs) (filter f xs))
    both true is rest = omega (arith, rest)
    both false is rest = rest

    one : (c : Bool) → length (filter f (filter g xs)) ≤ length (filter f xs)
        → length (filter f (filter g xs)) ≤ length (cond c (x ∷ filter f xs) (filter f xs))
    one true rest = omega (arith, rest)
    one false rest = rest

    at : (b c : Bool) → f x ≡ c → length (filter f (filter g xs)) ≤ length (filter f xs)
        → length (filter f (cond b (x ∷ filter g xs) (filter g xs))) ≤ length (cond c (x ∷ filter f xs) (filter f xs))
    at true c is rest = rw is (both c is rest)
    at false c is rest = one c rest

pub acknowledging_falls : (row : Row) (k : Kept) (number : ℕ) → In k row.kept → row.acked < k.number → k.number ≤ number
    → unacknowledged (acknowledged number row) < unacknowledged row
acknowledging_falls row k number inside over within = lt_of_le_of_lt
    (left row.kept)
    (one_less (λ (x : Kept). nat_lt row.acked x.number) (λ (x : Kept). nat_lt (max row.acked number) x.number) row.kept still k inside
    (lt-ltb row.acked k.number over) no_more)
  where
    left : (xs : List Kept) → length (filter (λ (x : Kept). nat_lt (max row.acked number) x.number) (released (max row.acked number) xs))
        ≤ length (filter (λ (x : Kept). nat_lt (max row.acked number) x.number) xs)
    left xs = left_of _ _ xs

    still : (x : Kept) → In x row.kept → nat_lt (max row.acked number) x.number ≡ true → nat_lt row.acked x.number ≡ true
    still x there h = let more : max row.acked number < x.number = ltb-true _ _ h in lt-ltb row.acked x.number (omega (arith, more))

    no_more : nat_lt (max row.acked number) k.number ≡ false
    no_more = elim (cases_Bool (nat_lt (max row.acked number) k.number)) [
      | inl is ↦ let more : max row.acked number < k.number = ltb-true _ _ is in absurd (omega (arith, more, within))
      | inr not ↦ not
    ]
