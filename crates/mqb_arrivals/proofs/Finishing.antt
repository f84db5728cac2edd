-- A message of a row is finished.
use Rattle.std.proofs.Common.{refl, ap, sym, subst, ◌∙◌, set, arith}
use Rattle.std.specs.Option.{IsSomeAnd, option_map_or}
use Rattle.std.specs.Prelude.{◌*◌, ◌+◌, ◌∷◌, ◌≡◌, ◌≤◌, [], Bool, List, Option, Some, cond, false, map, position, remove, slice_get, suc, true, zero, ℕ}
use Rattle.mqb_base.specs.declared.ids.MessageId.{MessageId}
use Rattle.mqb_orders.specs.Rows.{Row, acknowledged, row_of}
use Rattle.mqb_orders.specs.declared.kept.Kept.{Kept}
use Rattle.mqb_orders.specs.declared.rows.OutRow.{OutRow}
use Rattle.mqb_queue.proofs.Positions.{position_map}
use Rattle.mqb_contents.proofs.mqb_tables.Members.{changed_is, get-set}
use Rattle.mqb_contents.specs.Rows.{keeping, with_out}
use Rattle.mqb_model.specs.Lists.{with_changed}
use Rattle.mqb_model.specs.records.Finals.{finished_row, has_named, is_offered_as, with_finished}
use Rattle.mqb_model.specs.state.State.{State}

pub row_found : (peer : ℕ) (id : MessageId) (rows : List OutRow) (seen : List Row) (k : Option ℕ) → map row_of rows ≡ seen
    → k ≡ position (λ r. has_named peer id (row_of r)) rows → k ≡ position (has_named peer id) seen
row_found peer id rows seen k are is = is ∙ (sym (position_map row_of (has_named peer id) rows) ∙ ap (λ (l : List Row). position (has_named peer id) l) are)

set_twice : {X : Type 0} (xs : List X) (k : ℕ) (x y : X) → set (set xs k x) k y ≡ set xs k y
set_twice [] zero x y = refl
set_twice [] (suc k) x y = refl
set_twice (z ∷ zs) zero x y = refl
set_twice (z ∷ zs) (suc k) x y = ap (λ l. z ∷ l) (set_twice zs k x y)

-- a member is changed, and then again
changed_twice : {X : Type 0} (f g : X → X) (xs : List X) (k : ℕ) (x : X) → slice_get xs k ≡ Some x
    → with_changed g (with_changed f xs k) k ≡ set xs k (g (f x))
changed_twice f g xs k x is = ap (λ l. with_changed g l k) (changed_is f xs k x is)
    ∙ (changed_is g (set xs k (f x)) k (f x) (get-set xs k x (f x) is) ∙ set_twice xs k (f x) (g (f x)))

finished_is : (id : MessageId) (number index : ℕ) (r : Row) → position (is_offered_as id r) r.kept ≡ Some index
    → acknowledged number (keeping (remove r.kept index) r) ≡ finished_row id number r
finished_is id number index r h = sym (ap (λ (o : Option ℕ). acknowledged number (record r { kept = option_map_or (remove r.kept) o r.kept })) h)

pub finished : (s : State) (id : MessageId) (row index number : ℕ) (r : Row) (k : Kept) → slice_get s.outs row ≡ Some r → slice_get r.kept index ≡ Some k → number ≡ k.number
    → IsSomeAnd (slice_get s.outs row) (λ r. position (is_offered_as id r) r.kept ≡ Some index)
    → with_out (acknowledged number) (with_out (λ r. keeping (remove r.kept index) r) s row) row
    ≡ option_map_or (λ r. option_map_or (λ k. with_finished id s row k) (slice_get r.kept index) s) (slice_get s.outs row) s
finished s id row index number r k there kept same named =
    let at : position (is_offered_as id r) r.kept ≡ Some index = subst (λ (o : Option Row). IsSomeAnd o (λ r. position (is_offered_as id r) r.kept ≡ Some index)) there named in
    let outs : with_changed (acknowledged number) (with_changed (λ r. keeping (remove r.kept index) r) s.outs row) row ≡ with_changed (finished_row id number) s.outs row =
    changed_twice (λ r. keeping (remove r.kept index) r) (acknowledged number) s.outs row r there
    ∙ (ap (set s.outs row) (finished_is id number index r at) ∙ sym (changed_is (finished_row id number) s.outs row r there)) in
    ap (λ (rows : List Row). record s { outs = rows }) outs
    ∙ (ap (λ (n : ℕ). record s { outs = with_changed (finished_row id n) s.outs row }) same
    ∙ sym (ap (λ (o : Option Row). option_map_or (λ r. option_map_or (λ k. with_finished id s row k) (slice_get r.kept index) s) o s) there
    ∙ ap (λ (o : Option Kept). option_map_or (λ k. with_finished id s row k) o s) kept))

-- one message comes in at most, and the acknowledgement names it or itself alone
pub few_final : (named : Bool) (before after : ℕ) → after ≤ before + 1 → after ≤ before + 3 * cond named 2 1
few_final true before after h = omega (arith, h)
few_final false before after h = omega (arith, h)
