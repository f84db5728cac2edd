-- Messages leave an outgoing row where it is acknowledged.
use Rattle.std.proofs.Common.{◌≡◌, ℕ, zero, suc, ◌+◌, ◌-◌, ◌<◌, ◌≤◌, Bool, true, false, cond, ltb, ◌||◌, max, List, [], ◌∷◌, ◌++◌, length, get_or, take, drop, Option, Some, None, refl, sym, ap, ◌∙◌, subst, arith}
use Rattle.std.specs.List.{All, remove}
use Rattle.std.specs.Option.{IsSomeAnd, option_map_or}
use Rattle.std.specs.Prelude.{slice_get}
use Rattle.std.proofs.lemmas.Bool.{le-ltb, lt-ltb}
use Rattle.std.proofs.lemmas.List.{take_more}
use Rattle.std.proofs.lemmas.List.Edits.{length-remove}
use Rattle.std.proofs.lemmas.List.Elements.{All-append, All-cons, All-head, All-nil, All-tail}
use Rattle.std.proofs.lemmas.Option.{get_or_from_slice_get, none-some, same_Some, slice_get_within}
use Rattle.mqb_base.specs.Bits.{keeps_dead}
use Rattle.mqb_contents.specs.Rows.{keeping, kept_count, with_out}
use Rattle.mqb_contents.proofs.mqb_tables.Members.{at_some, changed_is, changed_there, length-removed, set_same, there}
use Rattle.mqb_contents.specs.mqb_model.Lists.{with_changed}
use Rattle.mqb_contents.specs.mqb_model.state.State.{State}
use Rattle.mqb_orders.specs.KeptLists.{Rises, released}
use Rattle.mqb_orders.specs.Rows.{Row, acknowledged}
use Rattle.mqb_orders.specs.declared.kept.Kept.{Kept}
use Rattle.mqb_drafts.specs.Rows.{StaysBefore, releasing, with_acked}
use Rattle.mqb_drafts.proofs.Outs.{changed_twice, same_change}

or_true : (b : Bool) → (b || true) ≡ true
or_true true = refl
or_true false = refl

-- ---- kept messages

-- one that leaves is not among those that stay
pub released_without : (number : ℕ) (kept : List Kept) (i : ℕ) (k : Kept) → slice_get kept i ≡ Some k → k.number ≤ number → keeps_dead k.message ≡ false
    → released number (remove kept i) ≡ released number kept
released_without number [] i k is low dead = absurd (none-some k is)
released_without number (x ∷ xs) zero k is low dead =
    sym (ap (λ (b : Bool). cond b (x ∷ released number xs) (released number xs)) goes)
  where
    same : x ≡ k
    same = same_Some x k is

    goes : (ltb number x.number || keeps_dead x.message) ≡ false
    goes =
        subst (λ (y : Kept). (ltb number y.number || keeps_dead y.message) ≡ false) (sym same)
        (ap (λ (b : Bool). b || keeps_dead k.message) (le-ltb number k.number low) ∙ dead)
released_without number (x ∷ xs) (suc i) k is low dead =
    ap (λ (l : List Kept). cond (ltb number x.number || keeps_dead x.message) (x ∷ l) l) (released_without number xs i k is low dead)

-- all stay where the first ones have the dead-letter bit, and the rest are above the number
pub all_stay : (number : ℕ) (kept : List Kept) (i : ℕ) → All (λ k. keeps_dead k.message ≡ true) (take i kept) → All (λ k. number < k.number) (drop i kept)
    → released number kept ≡ kept
all_stay number [] i dead high = refl
all_stay number (k ∷ kept) zero dead high =
    ap (λ (b : Bool). cond (b || keeps_dead k.message) (k ∷ released number kept) (released number kept))
    (lt-ltb number k.number (All-head (λ k. number < k.number) k kept high))
    ∙ ap (λ (l : List Kept). k ∷ l)
    (all_stay number kept zero (All-nil (λ k. keeps_dead k.message ≡ true)) (All-tail (λ k. number < k.number) k kept high))
all_stay number (k ∷ kept) (suc i) dead high =
    ap (λ (b : Bool). cond (ltb number k.number || b) (k ∷ released number kept) (released number kept))
    (All-head (λ k. keeps_dead k.message ≡ true) k (take i kept) dead)
    ∙ (ap (λ (b : Bool). cond b (k ∷ released number kept) (released number kept)) (or_true (ltb number k.number))
    ∙ ap (λ (l : List Kept). k ∷ l) (all_stay number kept i (All-tail (λ k. keeps_dead k.message ≡ true) k (take i kept) dead) high))

-- what is behind one that is above a number is above it too
pub all_above : (number : ℕ) (kept : List Kept) (i : ℕ) (k : Kept) → Rises kept → slice_get kept i ≡ Some k → number < k.number
    → All (λ j. number < j.number) (drop i kept)
all_above number [] i k rises is high = absurd (none-some k is)
all_above number (x ∷ xs) zero k rises is high = from
  where
    first : number < x.number
    first = subst (λ (y : Kept). number < y.number) (sym (same_Some x k is)) high

    from : (j : ℕ) (d : Kept) → j < length (x ∷ xs) → number < (get_or (x ∷ xs) j d).number
    from zero d within = first
    from (suc j) d within = let more = rises zero (suc j) d (omega arith) within in omega (arith, more, first)
all_above number (x ∷ xs) (suc i) k rises is high = all_above number xs i k (λ a b d before within. rises (suc a) (suc b) d (omega arith) (omega (arith, within))) is high

take_removed : (kept : List Kept) (i : ℕ) → take i (remove kept i) ≡ take i kept
take_removed [] zero = refl
take_removed [] (suc i) = refl
take_removed (k ∷ kept) zero = refl
take_removed (k ∷ kept) (suc i) = ap (λ (l : List Kept). k ∷ l) (take_removed kept i)

-- ---- rows

-- the message at an index of a row, and that it may leave
pub record IsAt (s : State) (row index : ℕ) (r : Row) (k : Kept) : Type 0 where
  pub row_is : slice_get s.outs row ≡ Some r
  pub kept_is : slice_get r.kept index ≡ Some k

pub low_at : (number : ℕ) (s : State) (row index : ℕ) (r : Row) (k : Kept) → IsAt s row index r k
    → IsSomeAnd (slice_get s.outs row) (λ r. IsSomeAnd (slice_get r.kept index) (λ k. k.number ≤ number)) → k.number ≤ number
low_at number s row index r k at h =
    subst (λ (o : Option Kept). IsSomeAnd o (λ k. k.number ≤ number)) at.kept_is
    (subst (λ (o : Option Row). IsSomeAnd o (λ r. IsSomeAnd (slice_get r.kept index) (λ k. k.number ≤ number))) at.row_is h)

pub stays_none : (s : State) (row : ℕ) → row < length s.outs → StaysBefore s row 0
stays_none s row within =
    let t = there s.outs row within in
    subst (λ (o : Option Row). IsSomeAnd o (λ r. (0 ≤ length r.kept) × All (λ kept. keeps_dead kept.message ≡ true) (take 0 r.kept))) (sym t.1)
    (omega arith, All-nil (λ kept. keeps_dead kept.message ≡ true))

pub within_stays : (s : State) (row index : ℕ) → StaysBefore s row index → row < length s.outs
within_stays s row index h =
    let a = at_some (λ r. (index ≤ length r.kept) × All (λ kept. keeps_dead kept.message ≡ true) (take index r.kept)) (slice_get s.outs row) h in
    slice_get_within s.outs row a.0 a.1

-- it has the dead-letter bit
pub stays_on : (s : State) (row index : ℕ) (r : Row) (k : Kept) → IsAt s row index r k → keeps_dead k.message ≡ true → StaysBefore s row index
    → StaysBefore s row (index + 1)
stays_on s row index r k at dead h =
    let within : index < length r.kept = slice_get_within r.kept index k at.kept_is in
    let first = (subst (λ (o : Option Row). IsSomeAnd o (λ r. (index ≤ length r.kept) × All (λ kept. keeps_dead kept.message ≡ true) (take index r.kept))) at.row_is h).1 in
    let more : take (index + 1) r.kept ≡ take index r.kept ++ k ∷ [] =
    take_more r.kept index k within ∙ ap (λ (x : Kept). take index r.kept ++ x ∷ []) (get_or_from_slice_get r.kept index k k at.kept_is) in
    subst (λ (o : Option Row). IsSomeAnd o (λ r. (index + 1 ≤ length r.kept) × All (λ kept. keeps_dead kept.message ≡ true) (take (index + 1) r.kept))) (sym at.row_is) (
      omega (arith, within),
      subst (All (λ kept. keeps_dead kept.message ≡ true)) (sym more) (All-append (λ kept. keeps_dead kept.message ≡ true) (take index r.kept) (k ∷ [])
          first
          (All-cons (λ kept. keeps_dead kept.message ≡ true) k [] dead (All-nil (λ kept. keeps_dead kept.message ≡ true)))),
    )

pub passed : (s : State) (row index : ℕ) (r : Row) (k : Kept) → IsAt s row index r k → kept_count s.outs row - (index + 1) < kept_count s.outs row - index
passed s row index r k at =
    let within : index < length r.kept = slice_get_within r.kept index k at.kept_is in
    let count : kept_count s.outs row ≡ length r.kept = ap (λ (o : Option Row). option_map_or (λ r. length r.kept) o 0) at.row_is in
    omega (arith, within, count)

-- it leaves
abbrev pub taken_out : State → ℕ → ℕ → State
taken_out s row index = with_out (λ r. keeping (remove r.kept index) r) s row

pub released_same : (number : ℕ) (s : State) (row index : ℕ) (r : Row) (k : Kept) → IsAt s row index r k → k.number ≤ number → keeps_dead k.message ≡ false
    → with_out (releasing number) (taken_out s row index) row ≡ with_out (releasing number) s row
released_same number s row index r k at low dead =
    changed_twice (λ r. keeping (remove r.kept index) r) (releasing number) s row
    ∙ same_change (λ r. releasing number (keeping (remove r.kept index) r)) (releasing number) s row r at.row_is
    (ap (λ (l : List Kept). keeping l r) (released_without number r.kept index k at.kept_is low dead))

taken_is : (s : State) (row index : ℕ) (r : Row) → slice_get s.outs row ≡ Some r
    → slice_get (with_changed (λ r. keeping (remove r.kept index) r) s.outs row) row ≡ Some (keeping (remove r.kept index) r)
taken_is s row index r is = changed_there (λ r. keeping (remove r.kept index) r) s.outs row r is

pub stays_left : (s : State) (row index : ℕ) (r : Row) (k : Kept) → IsAt s row index r k → StaysBefore s row index → StaysBefore (taken_out s row index) row index
stays_left s row index r k at h =
    let within : index < length r.kept = slice_get_within r.kept index k at.kept_is in
    let first = (subst (λ (o : Option Row). IsSomeAnd o (λ r. (index ≤ length r.kept) × All (λ kept. keeps_dead kept.message ≡ true) (take index r.kept))) at.row_is h).1 in
    subst (λ (o : Option Row). IsSomeAnd o (λ r. (index ≤ length r.kept) × All (λ kept. keeps_dead kept.message ≡ true) (take index r.kept)))
    (sym (taken_is s row index r at.row_is)) (
      length-removed r.kept index within,
      subst (All (λ kept. keeps_dead kept.message ≡ true)) (sym (take_removed r.kept index)) first,
    )

pub fewer : (s : State) (row index : ℕ) (r : Row) (k : Kept) → IsAt s row index r k
    → kept_count (taken_out s row index).outs row - index < kept_count s.outs row - index
fewer s row index r k at =
    let within : index < length r.kept = slice_get_within r.kept index k at.kept_is in
    let count : kept_count s.outs row ≡ length r.kept = ap (λ (o : Option Row). option_map_or (λ r. length r.kept) o 0) at.row_is in
    let left : kept_count (taken_out s row index).outs row ≡ length (remove r.kept index) =
    ap (λ (o : Option Row). option_map_or (λ r. length r.kept) o 0) (taken_is s row index r at.row_is) in
    let less : length (remove r.kept index) + 1 ≡ length r.kept = length-remove r.kept index within in
    omega (arith, within, count, left, less)

-- nothing more leaves
pub none_leaves : (number : ℕ) (s : State) (row index : ℕ) → StaysBefore s row index
    → IsSomeAnd (slice_get s.outs row) (λ r. All (λ k. number < k.number) (drop index r.kept)) → with_out (releasing number) s row ≡ s
none_leaves number s row index stays high = at (slice_get s.outs row) refl stays high
  where
    at : (o : Option Row) → slice_get s.outs row ≡ o
        → IsSomeAnd o (λ r. (index ≤ length r.kept) × All (λ kept. keeps_dead kept.message ≡ true) (take index r.kept))
        → IsSomeAnd o (λ r. All (λ k. number < k.number) (drop index r.kept)) → with_out (releasing number) s row ≡ s
    at None is stays high = absurd stays
    at (Some r) is stays high =
        same_change (releasing number) (λ r. r) s row r is (ap (λ (l : List Kept). keeping l r) (all_stay number r.kept index stays.1 high))
        ∙ ap (λ (l : List Row). record s { outs = l }) (changed_is (λ r. r) s.outs row r is ∙ set_same s.outs row r is)

-- what is left, and then the mark
pub acknowledged_is : (number acked : ℕ) (s : State) (row : ℕ) (r : Row) → slice_get s.outs row ≡ Some r → acked ≡ max r.acked number
    → with_out (with_acked acked) (with_out (releasing acked) s row) row ≡ with_out (acknowledged number) s row
acknowledged_is number acked s row r is same =
    changed_twice (releasing acked) (with_acked acked) s row
    ∙ same_change (λ r. with_acked acked (releasing acked r)) (acknowledged number) s row r is
    (ap (λ n. record r { acked = n; kept = released n r.kept }) same)
