-- A row joins the others, and a message those that a row keeps.
use Rattle.std.proofs.Common.{◌≡◌, ◌<◌, ◌≤◌, ◌-◌, ℕ, Bool, true, false, List, [], ◌∷◌, ◌++◌, length, get_or, set, Option, Some, None, refl, sym, ap, subst, ◌∙◌, arith}
use Rattle.std.specs.List.{insert}
use Rattle.std.specs.Option.{option_map_or}
use Rattle.std.specs.Prelude.{◌&&◌, nat_le, nat_lt, slice_get}
use Rattle.std.proofs.lemmas.Bool.{true≢false}
use Rattle.std.proofs.lemmas.Bool.Decides.{nat_tests}
use Rattle.std.proofs.lemmas.List.Quantifiers.{all_pairs_push}
use Rattle.std.proofs.lemmas.Option.{slice_get-get_or}
use Rattle.mqb_contents.specs.Rows.{CanKeep, with_marks, with_out}
use Rattle.mqb_contents.specs.declared.marks.RowMarks.{RowMarks}
use Rattle.mqb_contents.proofs.mqb_tables.Members.{changed_is}
use Rattle.mqb_model.specs.state.State.{State}
use Rattle.mqb_orders.specs.KeptLists.{Rises}
use Rattle.mqb_orders.specs.Rows.{Row}
use Rattle.mqb_orders.specs.declared.kept.Kept.{Kept}
use Rattle.mqb_snapshot.specs.Reading.{last_number, may_keep, with_row}

-- ---- at the end of a list

pub insert_end : {X : Type 0} (xs : List X) (x : X) → insert xs (length xs) x ≡ xs ++ x ∷ []
insert_end [] x = refl
insert_end (y ∷ ys) x = ap (λ l. y ∷ l) (insert_end ys x)

get_end : {X : Type 0} (xs : List X) (x : X) → slice_get (xs ++ x ∷ []) (length xs) ≡ Some x
get_end [] x = refl
get_end (y ∷ ys) x = get_end ys x

set_end : {X : Type 0} (xs : List X) (x z : X) → set (xs ++ x ∷ []) (length xs) z ≡ xs ++ z ∷ []
set_end [] x z = refl
set_end (y ∷ ys) x z = ap (λ l. y ∷ l) (set_end ys x z)

-- ---- a row

-- it joins with nothing committed, and then gets its marks
pub row_added : (s : State) (marks : RowMarks) (row : Row) → with_out (with_marks marks) (with_row s row) (length s.outs) ≡ with_row s (with_marks marks row)
row_added s marks row = ap (λ (l : List Row). record s { outs = l })
    (changed_is (with_marks marks) (s.outs ++ row ∷ []) (length s.outs) row (get_end s.outs row) ∙ set_end s.outs row (with_marks marks row))

-- ---- a kept message

-- the numbers that a row keeps are at most the last one
up_to_last : (kept : List Kept) → Rises kept → (i : ℕ) (d : Kept) → i < length kept → (get_or kept i d).number ≤ last_number kept
up_to_last kept rises i d within =
    let inside : length kept - 1 < length kept = omega (arith, within) in
    let last : last_number kept ≡ (get_or kept (length kept - 1) d).number = ap (λ (o : Option Kept). option_map_or (λ k. k.number) o 0) (slice_get-get_or kept (length kept - 1) d inside) in
    at (nat_lt i (length kept - 1)) refl last
  where
    at : (b : Bool) → nat_lt i (length kept - 1) ≡ b → last_number kept ≡ (get_or kept (length kept - 1) d).number → (get_or kept i d).number ≤ last_number kept
    at true is last =
        let before : i < length kept - 1 = grind (arith, nat_tests) in
        let inside : length kept - 1 < length kept = omega (arith, within) in
        omega (arith, last, rises i (length kept - 1) d before inside)
    at false is last =
        let past : length kept - 1 ≤ i = grind (arith, nat_tests) in
        let same : i ≡ length kept - 1 = omega (arith, past, within) in
        omega (arith, last, ap (λ n. (get_or kept n d).number) same)

-- a number above the last one can be kept next
pub can_keep : (row : Row) (k : Kept) → Rises row.kept → last_number row.kept < k.number → k.number ≤ row.committed → CanKeep (length row.kept) k row
can_keep row k rises above committed = (
  omega arith,
  subst Rises (sym (insert_end row.kept k)) (all_pairs_push (λ (a b : Kept). a.number < b.number) row.kept k rises
      (λ i d within. let at_most = up_to_last row.kept rises i d within in omega (arith, at_most, above))),
  committed,
)

both : (a b : Bool) → (a && b) ≡ true → (a ≡ true) × (b ≡ true)
both true b h = (refl, h)
both false b h = absurd (true≢false (sym h))

lt_of : (a b : ℕ) → nat_lt a b ≡ true → a < b
lt_of a b h = grind (arith, nat_tests)

le_of : (a b : ℕ) → nat_le a b ≡ true → a ≤ b
le_of a b h = grind (arith, nat_tests)

-- the row that may keep a number
pub record IsKeeper (s : State) (k number : ℕ) : Type 0 where
  pub row : Row
  pub is : slice_get s.outs k ≡ Some row
  pub above : last_number row.kept < number
  pub committed : number ≤ row.committed

pub keeper_of : (s : State) (k number : ℕ) → may_keep s k number ≡ true → IsKeeper s k number
keeper_of s k number h = at (slice_get s.outs k) refl h
  where
    at : (o : Option Row) → slice_get s.outs k ≡ o → option_map_or (λ row. nat_lt (last_number row.kept) number && nat_le number row.committed) o false ≡ true → IsKeeper s k number
    at None is h = absurd (true≢false (sym h))
    at (Some row) is h =
        let parts = both (nat_lt (last_number row.kept) number) (nat_le number row.committed) h in
        record { row = row; is = is; above = lt_of (last_number row.kept) number parts.0; committed = le_of number row.committed parts.1 }
