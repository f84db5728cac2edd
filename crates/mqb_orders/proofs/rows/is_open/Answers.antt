use Rattle.std.proofs.Common.{◌≡◌, ℕ, List, [], ◌∷◌, Bool, Option, Some, false, not, map, take, ◌&&◌, ◌||◌, length, refl, sym, ap, ◌∙◌}
use Rattle.std.specs.List.{list_any, slice_get}
use Rattle.std.specs.Option.{option_map, option_map_or}
use Rattle.std.proofs.lemmas.List.{take-map}
use Rattle.std.proofs.lemmas.Option.{slice_get-map, slice_get_read}
use Rattle.mqb_orders.specs.declared.rows.OutRow.{OutRow}
use Rattle.mqb_orders.specs.Rows.{Row, row_of, leads_to, has_unacknowledged, is_open}
use Rattle.mqb_orders.proofs.rows.is_open.Goals as goal

-- whether one of the rows passes, and whether one of what they are does
any_of : (p : Row → Bool) (rows : List OutRow) → list_any p (map row_of rows) ≡ list_any (λ r. p (row_of r)) rows
any_of p [] = refl
any_of p (r ∷ rows) = ap (λ b. p (row_of r) || b) (any_of p rows)

abbrev waits_behind : Row → Row → Bool
waits_behind row r = leads_to row.peer row.destination r && has_unacknowledged r

open_is : (rows : List OutRow) (k : ℕ) (row : OutRow) → slice_get rows k ≡ Some row
    → not (list_any (λ r. waits_behind (row_of row) (row_of r)) (take k rows)) ≡ is_open (map row_of rows) k
open_is rows k row got =
    ap not (sym (any_of (waits_behind (row_of row)) (take k rows)) ∙ ap (list_any (waits_behind (row_of row))) (sym (take-map row_of k rows)))
    ∙ sym (ap (λ (o : Option Row). option_map_or (λ (r : Row). not (list_any (waits_behind r) (take k (map row_of rows)))) o false)
    (slice_get-map row_of rows k ∙ ap (option_map row_of) got))

pub returns : goal.returns
returns c =
    let rows : List OutRow = c.args.rows.now in
    ap not c.has_unacknowledged_to.ensures
    ∙ open_is rows c.args.k c.index-rows-k.result (slice_get_read rows (length rows) c.args.k c.index-rows-k.result refl c.requires c.index-rows-k.is)
