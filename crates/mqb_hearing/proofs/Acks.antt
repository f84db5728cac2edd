-- The row whose mark an order acknowledgement raises: no other has its ordinal.
use Rattle.std.proofs.Common.{◌≡◌, ◌+◌, ◌<◌, ℕ, suc, length, one-add, Bool, true, false, cond, List, [], ◌∷◌, Option, None, Some, refl, sym, ap, ◌∙◌, arith}
use Rattle.std.proofs.lemmas.Bool.Decides.{nat_tests}
use Rattle.std.proofs.lemmas.List.Elements.{recursion_from_All}
use Rattle.std.specs.List.{AllByRecursion, list_any, prefix_len}
use Rattle.std.specs.Option.{option_map_or}
use Rattle.std.specs.Prelude.{AllPairs, ◌&&◌, ◌==◌, ◌||◌, nat_lt, not, option_and_then, option_map, position, slice_get}
use Rattle.mqb_fate.specs.declared.orders.OrderAck.{OrderAck}
use Rattle.mqb_orders.specs.Rows.{Row}
use Rattle.mqb_model.specs.Lists.{first_where}
use Rattle.mqb_model.specs.calls.hear.Streams.{raises}
use Rattle.mqb_model.specs.records.Arrived.{raises_ack}
use Rattle.mqb_model.specs.state.Rows.{has_ordinal}
use Rattle.mqb_model.specs.state.State.{State}
use Rattle.mqb_model.specs.state.Valid.{IsValidState}

-- the first member that passes, by the members one after another

first : (n : ℕ) → nat_lt 0 (suc n) ≡ true
first n = grind (arith, nat_tests)

more : (k n : ℕ) → nat_lt (1 + k) (suc n) ≡ nat_lt k n
more k n = grind (arith, nat_tests)

-- the index of the first member that passes: the first one's, or one more than that among the others
position_cons : {X : Type 0} (p : X → Bool) (x : X) (xs : List X) → position p (x ∷ xs) ≡ cond (p x) (Some 0) (option_map (λ k. suc k) (position p xs))
position_cons p x xs = at (p x)
  where
    n : ℕ
    n = prefix_len (λ x. not (p x)) xs

    rest : (b : Bool) → cond b (Some (1 + n)) None ≡ option_map (λ k. suc k) (cond b (Some n) None)
    rest true = ap (λ k. Some k) (one-add n)
    rest false = refl

    at : (b : Bool) → cond (nat_lt (cond (not b) (1 + n) 0) (suc (length xs))) (Some (cond (not b) (1 + n) 0)) None
        ≡ cond b (Some 0) (option_map (λ k. suc k) (cond (nat_lt n (length xs)) (Some n) None))
    at true = ap (λ c. cond c (Some 0) None) (first (length xs))
    at false = ap (λ c. cond c (Some (1 + n)) None) (more n (length xs)) ∙ rest (nat_lt n (length xs))

first_cons : {X : Type 0} (p : X → Bool) (x : X) (xs : List X) → first_where p (x ∷ xs) ≡ cond (p x) (Some x) (first_where p xs)
first_cons p x xs = ap (λ o. option_and_then (slice_get (x ∷ xs)) o) (position_cons p x xs) ∙ at (p x)
  where
    shifted : (o : Option ℕ) → option_and_then (slice_get (x ∷ xs)) (option_map (λ k. suc k) o) ≡ option_and_then (slice_get xs) o
    shifted None = refl
    shifted (Some k) = refl

    at : (b : Bool) → option_and_then (slice_get (x ∷ xs)) (cond b (Some 0) (option_map (λ k. suc k) (position p xs))) ≡ cond b (Some x) (first_where p xs)
    at true = refl
    at false = shifted (position p xs)

-- each two members, the earlier one first
abbrev PairsByRecursion : {X : Type 0} → (X → X → Type 0) → List X → Type 0
PairsByRecursion R [] = Unit {0}
PairsByRecursion R (x ∷ xs) = AllByRecursion (R x) xs × PairsByRecursion R xs

pairs_of : {X : Type 0} (R : X → X → Type 0) (xs : List X) → AllPairs R xs → PairsByRecursion R xs
pairs_of R [] h = tt
pairs_of R (x ∷ xs) h = (
  recursion_from_All (R x) xs (λ k d lt. let first : 0 < suc k = omega arith in let within : suc k < length (x ∷ xs) = omega arith in h 0 (suc k) d first within),
  pairs_of R xs (λ i j d less lt. let rises : suc i < suc j = omega arith in let within : suc j < length (x ∷ xs) = omega arith in h (suc i) (suc j) d rises within),
)

abbrev Precedes : Row → Row → Type 0
Precedes a b = a.sequence.ordinal < b.sequence.ordinal

-- The row of an ordinal.

below_not : (a b c : ℕ) → (a == c) ≡ true → a < b → (b == c) ≡ false
below_not a b c e lt = grind (arith, nat_tests)

middle : (a b c d : Bool) → b ≡ false → ((a && (b && c)) && d) ≡ false
middle true b c d e = ap (λ b. (b && c) && d) e
middle false b c d e = refl

or_false : (a : Bool) → (a || false) ≡ a
or_false true = refl
or_false false = refl

none_raised : (peer : ℕ) (ack : OrderAck) (row : Row) (rows : List Row) → (row.sequence.ordinal == ack.sequence.ordinal) ≡ true → AllByRecursion (Precedes row) rows
    → list_any (raises peer ack) rows ≡ false
none_raised peer ack row [] e h = refl
none_raised peer ack row (z ∷ rows) e h = ap (λ b. b || list_any (raises peer ack) rows)
    (middle (z.peer == peer) (z.sequence.ordinal == ack.sequence.ordinal) (z.sequence.stamp == ack.sequence.stamp) (raises_ack ack.number z)
    (below_not row.sequence.ordinal z.sequence.ordinal ack.sequence.ordinal e h.0)) ∙ none_raised peer ack row rows e h.1

first_raised : (peer : ℕ) (ack : OrderAck) (rows : List Row) → PairsByRecursion Precedes rows
    → list_any (raises peer ack) rows ≡ option_map_or (raises peer ack) (first_where (has_ordinal ack.sequence.ordinal) rows) false
first_raised peer ack [] rise = refl
first_raised peer ack (row ∷ rows) rise = at (first_raised peer ack rows rise.1) (row.sequence.ordinal == ack.sequence.ordinal) refl
    ∙ sym (ap (λ (o : Option Row). option_map_or (raises peer ack) o false) (first_cons (has_ordinal ack.sequence.ordinal) row rows))
  where
    at : list_any (raises peer ack) rows ≡ option_map_or (raises peer ack) (first_where (has_ordinal ack.sequence.ordinal) rows) false
        → (b : Bool) → (row.sequence.ordinal == ack.sequence.ordinal) ≡ b
        → (raises peer ack row || list_any (raises peer ack) rows)
        ≡ option_map_or (raises peer ack) (cond b (Some row) (first_where (has_ordinal ack.sequence.ordinal) rows)) false
    at more true same = ap (λ (b : Bool). raises peer ack row || b) (none_raised peer ack row rows same rise.0) ∙ or_false (raises peer ack row)
    at more false other = ap (λ (b : Bool). b || list_any (raises peer ack) rows)
        (middle (row.peer == peer) (row.sequence.ordinal == ack.sequence.ordinal) (row.sequence.stamp == ack.sequence.stamp) (raises_ack ack.number row) other) ∙ more

-- where the row of its ordinal is, and where there is none
pub raised_at : (peer : ℕ) (ack : OrderAck) (s : State) (o : Option ℕ) → IsValidState s → position (has_ordinal ack.sequence.ordinal) s.outs ≡ o
    → list_any (raises peer ack) s.outs ≡ option_map_or (raises peer ack) (option_and_then (slice_get s.outs) o) false
raised_at peer ack s o v at = first_raised peer ack s.outs (pairs_of Precedes s.outs v.ordinals_rise)
    ∙ ap (λ (o : Option ℕ). option_map_or (raises peer ack) (option_and_then (slice_get s.outs) o) false) at
