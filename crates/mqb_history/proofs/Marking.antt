-- The marks of a pump rise: each stands above what was offered of its row, and no two are of one row.
use Rattle.std.proofs.Common.{refl, arith}
use Rattle.std.proofs.lemmas.Bool.Decides.{nat_tests}
use Rattle.std.specs.List.{AllByRecursion, cons_option, enumerate_from}
use Rattle.std.specs.Prelude.{[], ◌+◌, ◌<◌, ◌∷◌, ◌≡◌, ◌≤◌, Bool, List, None, Some, cond, false, filter_map, nat_lt, true, ℕ}
use Rattle.mqb_entries.specs.declared.members.Mark.{Mark}
use Rattle.mqb_model.specs.calls.pump.Candidates.{Candidate}
use Rattle.mqb_model.specs.calls.pump.Pump.{greatest_sent, mark_for}
use Rattle.mqb_model.specs.records.Offered.{with_offered}
use Rattle.mqb_model.specs.state.Rows.{has_ordinal}
use Rattle.mqb_orders.specs.Rows.{Row}
use Rattle.mqb_history.proofs.Committing.{OrdinalsRise, first_changed}
use Rattle.mqb_history.proofs.Lists.{all_weaker, equal_numbers}

-- the rows of its ordinal were offered no more than a mark
abbrev pub IsAbove : Mark → List Row → Type 0
IsAbove mark rows = AllByRecursion (λ row. row.sequence.ordinal ≡ mark.ordinal → row.offered ≤ mark.number) rows

-- ordinals rise from mark to mark
abbrev pub MarksRise : List Mark → Type 0
MarksRise [] = Unit {0}
MarksRise (a ∷ marks) = AllByRecursion (λ b. a.ordinal < b.ordinal) marks × MarksRise marks

-- marks raise rows
abbrev pub Raise : List Row → List Mark → Type 0
Raise rows marks = AllByRecursion (λ mark. IsAbove mark rows) marks × MarksRise marks

-- a mark of another row is above as before
above_then : (a b : Mark) (rows : List Row) → a.ordinal < b.ordinal → IsAbove b rows → IsAbove b (first_changed (with_offered a.number) (has_ordinal a.ordinal) rows)
above_then a b [] less h = tt
above_then a b (row ∷ rows) less h = at (has_ordinal a.ordinal row) refl (above_then a b rows less h.1)
  where
    at : (t : Bool) → has_ordinal a.ordinal row ≡ t → IsAbove b (first_changed (with_offered a.number) (has_ordinal a.ordinal) rows)
        → IsAbove b (cond t (with_offered a.number row ∷ rows) (row ∷ first_changed (with_offered a.number) (has_ordinal a.ordinal) rows))
    at true e rest = (λ same. let own = equal_numbers row.sequence.ordinal a.ordinal e in absurd (omega (arith, less, same, own)), h.1)
    at false e rest = (h.0, rest)

pub raise_then : (a : Mark) (marks : List Mark) (rows : List Row) → AllByRecursion (λ b. a.ordinal < b.ordinal) marks → Raise rows marks
    → Raise (first_changed (with_offered a.number) (has_ordinal a.ordinal) rows) marks
raise_then a marks rows less h = (all marks less h.0, h.1)
  where
    all : (bs : List Mark) → AllByRecursion (λ b. a.ordinal < b.ordinal) bs → AllByRecursion (λ mark. IsAbove mark rows) bs
        → AllByRecursion (λ mark. IsAbove mark (first_changed (with_offered a.number) (has_ordinal a.ordinal) rows)) bs
    all [] less h = tt
    all (b ∷ bs) less h = (above_then a b rows less.0 h.0, all bs less.1 h.1)

-- The marks of a pump.

-- they are of rows
beyond : (low : ℕ) (cs : List Candidate) (n : ℕ) (rows : List Row) → AllByRecursion (λ row. low < row.sequence.ordinal) rows
    → AllByRecursion (λ mark. low < mark.ordinal) (filter_map (mark_for cs) (enumerate_from n rows))
beyond low cs n [] h = tt
beyond low cs n (row ∷ rows) h = at (nat_lt row.offered (greatest_sent cs n)) (beyond low cs (n + 1) rows h.1)
  where
    at : (b : Bool) → AllByRecursion (λ (mark : Mark). low < mark.ordinal) (filter_map (mark_for cs) (enumerate_from (n + 1) rows))
        → AllByRecursion (λ (mark : Mark). low < mark.ordinal) (cons_option (cond b (Some (record { ordinal = row.sequence.ordinal; number = greatest_sent cs n })) None)
        (filter_map (mark_for cs) (enumerate_from (n + 1) rows)))
    at true rest = (h.0, rest)
    at false rest = rest

pub marks_raise : (cs : List Candidate) (n : ℕ) (rows : List Row) → OrdinalsRise rows → Raise rows (filter_map (mark_for cs) (enumerate_from n rows))
marks_raise cs n [] h = (tt, tt)
marks_raise cs n (row ∷ rows) h = at (marks_raise cs (n + 1) rows h.1) (nat_lt row.offered (greatest_sent cs n)) refl
  where
    marks : List Mark
    marks = filter_map (mark_for cs) (enumerate_from (n + 1) rows)

    apart : AllByRecursion (λ mark. row.sequence.ordinal < mark.ordinal) marks
    apart = beyond row.sequence.ordinal cs (n + 1) rows h.0

    wider : (bs : List Mark) → AllByRecursion (λ mark. row.sequence.ordinal < mark.ordinal) bs → AllByRecursion (λ mark. IsAbove mark rows) bs
        → AllByRecursion (λ mark. IsAbove mark (row ∷ rows)) bs
    wider [] less h = tt
    wider (b ∷ bs) less h = ((λ same. let low = less.0 in absurd (omega (arith, low, same)), h.0), wider bs less.1 h.1)

    own : nat_lt row.offered (greatest_sent cs n) ≡ true → row.offered ≤ greatest_sent cs n
    own e = grind (arith, nat_tests)

    at : Raise rows marks → (b : Bool) → nat_lt row.offered (greatest_sent cs n) ≡ b
        → Raise (row ∷ rows) (cons_option (cond b (Some (record { ordinal = row.sequence.ordinal; number = greatest_sent cs n })) None) marks)
    at behind true e = (
      (
        (
          λ same. own e,
          all_weaker (λ (x : Row). row.sequence.ordinal < x.sequence.ordinal) (λ x. x.sequence.ordinal ≡ row.sequence.ordinal → x.offered ≤ greatest_sent cs n)
              (λ x less same. absurd (omega (arith, less, same))) rows h.0,
        ),
        wider marks apart behind.0,
      ),
      (apart, behind.1),
    )
    at behind false e = (wider marks apart behind.0, behind.1)
