-- Loops over messages and over ops.
use Rattle.std.proofs.Common.{refl, ap, sym, ◌∙◌, arith, drop, drop-cons, get_or, length}
use Rattle.std.proofs.lemmas.Bool.{leb-true}
use Rattle.std.proofs.lemmas.Bool.Decides.{nat_tests}
use Rattle.std.proofs.lemmas.List.{drop_all}
use Rattle.std.proofs.lemmas.List.Sums.{sum_by-cons}
use Rattle.std.proofs.lemmas.Option.{none-some}
use Rattle.std.specs.List.{list_any}
use Rattle.std.specs.Prelude.{[], ◌&&◌, ◌+◌, ◌<◌, ◌||◌, ◌∷◌, ◌≡◌, ◌≤◌, Bool, IfSome, List, None, Option, Some, cond, false, map, max, nat_le, not, suc, sum_by, true, zero, ℕ}
use Rattle.mqb_base.specs.Times.{is_due}
use Rattle.mqb_base.specs.declared.message.Message.{Message}
use Rattle.mqb_model.specs.records.Counting.{commit_size, op_size}
use Rattle.mqb_trying.specs.declared.notes.PlannedOp.{PlannedOp}
use Rattle.mqb_trying.specs.declared.takes.Mark.{Mark}
use Rattle.mqb_trying.specs.Notes.{record_op}
use Rattle.mqb_trying.specs.Takes.{comes_after, index_from, may_take, next_index, next_of, top_from}
use Rattle.mqb_trying.specs.Trying.{is_large}

pub front_read : {X : Type 0} (xs : List X) (i : ℕ) (x : X) → i < length xs → x ≡ get_or xs i x → drop i xs ≡ x ∷ drop (i + 1) xs
front_read {X} xs i x within is =
    let next : suc i ≡ i + 1 = omega arith in
    drop-cons xs i x within ∙ ap (λ (y : X). y ∷ drop (suc i) xs) (sym is) ∙ ap (λ (n : ℕ). x ∷ drop n xs) next

-- The greatest priority.

pub top_more : (may : ℕ → Message → Bool) (i top next total : ℕ) (ms : List Message) (m : Message) → drop i ms ≡ m ∷ drop (i + 1) ms
    → next ≡ cond (may i m) (max top m.priority) top → top_from may i top (drop i ms) ≡ total → top_from may (i + 1) next (drop (i + 1) ms) ≡ total
top_more may i top next total ms m front step left =
    ap (λ n. top_from may (i + 1) n (drop (i + 1) ms)) step ∙ sym (ap (top_from may i top) front) ∙ left

pub top_end : (may : ℕ → Message → Bool) (i top total : ℕ) (ms : List Message) → length ms ≤ i → top_from may i top (drop i ms) ≡ total → top ≡ total
top_end may i top total ms past left = sym (ap (top_from may i top) (drop_all i ms past)) ∙ left

-- The first one of a priority.

pub index_more : (may : ℕ → Message → Bool) (least i : ℕ) (total : Option ℕ) (ms : List Message) (m : Message) → drop i ms ≡ m ∷ drop (i + 1) ms
    → (may i m && nat_le least m.priority) ≡ false → index_from may least i (drop i ms) ≡ total → index_from may least (i + 1) (drop (i + 1) ms) ≡ total
index_more may least i total ms m front fails left =
    sym (ap (λ b. cond b (Some i) (index_from may least (i + 1) (drop (i + 1) ms))) fails) ∙ sym (ap (index_from may least i) front) ∙ left

pub index_here : (may : ℕ → Message → Bool) (least i : ℕ) (total : Option ℕ) (ms : List Message) (m : Message) → drop i ms ≡ m ∷ drop (i + 1) ms
    → (may i m && nat_le least m.priority) ≡ true → index_from may least i (drop i ms) ≡ total → Some i ≡ total
index_here may least i total ms m front passes left =
    sym (ap (λ b. cond b (Some i) (index_from may least (i + 1) (drop (i + 1) ms))) passes) ∙ sym (ap (index_from may least i) front) ∙ left

-- How many bytes ops have.

pub size_more : (i size one next total : ℕ) (ops : List PlannedOp) (op : PlannedOp) → drop i ops ≡ op ∷ drop (i + 1) ops → one ≡ op_size (record_op op) → next ≡ size + one
    → size + sum_by op_size (map record_op (drop i ops)) ≡ total → next + sum_by op_size (map record_op (drop (i + 1) ops)) ≡ total
size_more i size one next total ops op front is step left =
    let split = ap (λ (os : List PlannedOp). sum_by op_size (map record_op os)) front in
    omega (arith, split, is, step, left, sum_by-cons op_size (record_op op) (map record_op (drop (i + 1) ops)))

pub large_more : (i : ℕ) (total : Bool) (ops : List PlannedOp) (op : PlannedOp) → drop i ops ≡ op ∷ drop (i + 1) ops → is_large op ≡ false
    → list_any is_large (drop i ops) ≡ total → list_any is_large (drop (i + 1) ops) ≡ total
large_more i total ops op front small left = sym (ap (λ b. b || list_any is_large (drop (i + 1) ops)) small) ∙ sym (ap (list_any is_large) front) ∙ left

pub both_fail : (a : Bool) (least priority : ℕ) → priority < least → (a && nat_le least priority) ≡ false
both_fail true least priority lt = grind (arith, nat_tests)
both_fail false least priority lt = refl

pub first_fails : (a b : Bool) → a ≡ false → (a && b) ≡ false
first_fails a b e = ap (λ a. a && b) e

-- What holds of each message, of which the first one stands at an index.

abbrev pub Each : (ℕ → Message → Type 0) → ℕ → List Message → Type 0
Each P i [] = Unit {0}
Each P i (m ∷ ms) = P i m × Each P (i + 1) ms

pub each : (P : ℕ → Message → Type 0) → ((j : ℕ) (m : Message) → P j m) → (i : ℕ) (ms : List Message) → Each P i ms
each P always i [] = tt
each P always i (m ∷ ms) = (always i m, each P always (i + 1) ms)

-- Where none that may be taken has a priority above a bound, one that has it ends the search.

top_within : (may : ℕ → Message → Bool) (i top bound : ℕ) (ms : List Message) → top ≤ bound → Each (λ j m. may j m ≡ true → m.priority ≤ bound) i ms → top_from may i top ms ≤ bound
top_within may i top bound [] low all = low
top_within may i top bound (m ∷ ms) low all =
    at (may i m) refl (λ (le : m.priority ≤ bound). top_within may (i + 1) (max top m.priority) bound ms (omega (arith, low, le)) all.1) (top_within may (i + 1) top bound ms low all.1)
  where
    at : (b : Bool) → may i m ≡ b → (m.priority ≤ bound → top_from may (i + 1) (max top m.priority) ms ≤ bound) → top_from may (i + 1) top ms ≤ bound
        → top_from may (i + 1) (cond b (max top m.priority) top) ms ≤ bound
    at true e h g = h (all.0 e)
    at false e h g = g

pub top_floor : (may : ℕ → Message → Bool) (i top : ℕ) (ms : List Message) → top ≤ top_from may i top ms
top_floor may i top [] = omega arith
top_floor may i top (m ∷ ms) = at (may i m) (top_floor may (i + 1) (max top m.priority) ms) (top_floor may (i + 1) top ms)
  where
    at : (b : Bool) → max top m.priority ≤ top_from may (i + 1) (max top m.priority) ms → top ≤ top_from may (i + 1) top ms
        → top ≤ top_from may (i + 1) (cond b (max top m.priority) top) ms
    at true h g = omega (arith, h)
    at false h g = g

top_reached : (may : ℕ → Message → Bool) (i top bound k : ℕ) (ms : List Message) → index_from may bound i ms ≡ Some k → bound ≤ top_from may i top ms
top_reached may i top bound k [] found = absurd (none-some k found)
top_reached may i top bound k (m ∷ ms) found =
    at (may i m) (nat_le bound m.priority) refl found
    (top_reached may (i + 1) (max top m.priority) bound k ms) (top_reached may (i + 1) top bound k ms)
  where
    at : (b here : Bool) → nat_le bound m.priority ≡ here → cond (b && here) (Some i) (index_from may bound (i + 1) ms) ≡ Some k
        → (index_from may bound (i + 1) ms ≡ Some k → bound ≤ top_from may (i + 1) (max top m.priority) ms)
        → (index_from may bound (i + 1) ms ≡ Some k → bound ≤ top_from may (i + 1) top ms)
        → bound ≤ top_from may (i + 1) (cond b (max top m.priority) top) ms
    at true true is found h g = omega (arith, leb-true bound m.priority is, top_floor may (i + 1) (max top m.priority) ms)
    at true false is found h g = h found
    at false here is found h g = g found

found_early : (may : ℕ → Message → Bool) (bound k : ℕ) (ms : List Message) → Each (λ j m. may j m ≡ true → m.priority ≤ bound) 0 ms → index_from may bound 0 ms ≡ Some k
    → next_of may ms ≡ Some k
found_early may bound k ms all found =
    let top : top_from may 0 0 ms ≡ bound = omega (arith, top_within may 0 0 bound ms (omega arith) all, top_reached may 0 0 bound k ms found) in
    ap (λ (least : ℕ). index_from may least 0 ms) top ∙ found

-- Where each of the first ones fails, they need not be looked at.

skipped : (may : ℕ → Message → Bool) (least n i : ℕ) (ms : List Message) → ((j : ℕ) (m : Message) → j < i + n → (may j m && nat_le least m.priority) ≡ false)
    → index_from may least i ms ≡ index_from may least (i + n) (drop n ms)
skipped may least zero i ms fail = let same : i ≡ i + 0 = omega arith in ap (λ (j : ℕ). index_from may least j ms) same
skipped may least (suc n) i [] fail = refl
skipped may least (suc n) i (m ∷ ms) fail =
    let same : i + 1 + n ≡ i + suc n = omega arith in
    ap (λ b. cond b (Some i) (index_from may least (i + 1) ms)) (fail i m (omega arith))
    ∙ skipped may least n (i + 1) ms (λ j m lt. fail j m (omega (arith, lt)))
    ∙ ap (λ (j : ℕ). index_from may least j (drop n ms)) same

-- What comes after a mark has its priority at most, and stands behind it where it has that.

no_greater : (mark : Mark) (now j : ℕ) (m : Message) → may_take (Some mark) now j m ≡ true → m.priority ≤ mark.priority
no_greater mark now j m e = at (is_due m.sent m.life now) e
  where
    at : (b : Bool) → (comes_after mark j m && not b) ≡ true → m.priority ≤ mark.priority
    at b e = grind (arith, nat_tests)

none_before : (mark : Mark) (now j : ℕ) (m : Message) → j < 0 + (mark.index + 1) → (may_take (Some mark) now j m && nat_le mark.priority m.priority) ≡ false
none_before mark now j m lt = at (not (is_due m.sent m.life now))
  where
    at : (b : Bool) → ((comes_after mark j m && b) && nat_le mark.priority m.priority) ≡ false
    at b = grind (arith, nat_tests)

pub found_behind : (mark : Mark) (now : ℕ) (ms : List Message) (o : Option ℕ) → o ≡ index_from (may_take (Some mark) now) mark.priority (mark.index + 1) (drop (mark.index + 1) ms)
    → IfSome o (λ k. next_index (Some mark) now ms ≡ Some k)
found_behind mark now ms None is = tt
found_behind mark now ms (Some k) is =
    let may : ℕ → Message → Bool = may_take (Some mark) now in
    let same : 0 + (mark.index + 1) ≡ mark.index + 1 = omega arith in
    found_early may mark.priority k ms (each (λ j m. may j m ≡ true → m.priority ≤ mark.priority) (no_greater mark now) 0 ms)
    (skipped may mark.priority (mark.index + 1) 0 ms (none_before mark now)
    ∙ ap (λ (j : ℕ). index_from may mark.priority j (drop (mark.index + 1) ms)) same ∙ sym is)
