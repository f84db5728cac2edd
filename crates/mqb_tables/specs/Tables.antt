-- The tables that lead to rows.
use Rattle.std.specs.List.{last_or}
use Rattle.std.specs.Prelude.{◌+◌, ◌≡◌, ◌≤◌, IfSome, List, None, Some, filter, length, nat_eq}
use Rattle.std.specs.Prelude.{position, slice_get, ℕ}
use Rattle.indexmap.specs.IndexMap.{IndexMap, get, index_map_len, spare}
use Rattle.mqb_model.specs.state.Rows.{has_ordinal, is_row_of}
use Rattle.mqb_orders.specs.Rows.{Row, leads_to}
use Rattle.mqb_orders.specs.declared.keys.InKey.{InKey}
use Rattle.mqb_orders.specs.declared.keys.OutKey.{OutKey}
use Rattle.mqb_orders.specs.declared.rows.InRow.{InRow}
use Rattle.mqb_tables.specs.Keys.{same_in_key, same_out_key}

-- A table leads from each ordinal to the first row that has it, and from no other number.
abbrev pub LeadsTo : {S : Type 0} → List Row → IndexMap ℕ ℕ S → Type 0
LeadsTo rows ordinals = (o : ℕ) → get nat_eq ordinals o ≡ position (has_ordinal o) rows

-- Each row has an ordinal of its own.
abbrev pub HaveOwnOrdinals : List Row → Type 0
HaveOwnOrdinals rows = (k : ℕ)
    → IfSome (slice_get rows k) (λ row. position (has_ordinal row.sequence.ordinal) rows ≡ Some k)

-- And it can have as many ordinals without memory as there can be rows.
pub record AreNumbered {S : Type 0} (rows : List Row) (most : ℕ)
    (ordinals : IndexMap ℕ ℕ S) : Type 0 where
  pub leads : LeadsTo rows ordinals
  pub few : index_map_len ordinals ≤ length rows
  pub own : length rows ≤ index_map_len ordinals → HaveOwnOrdinals rows
  pub room : most ≤ index_map_len ordinals + spare ordinals

-- A table leads from the source and the destination of each incoming row to the place of the first
-- row that has them. Other keys mean nothing.
abbrev pub LeadsToSource : {S : Type 0} → List InRow → IndexMap InKey ℕ S → Type 0
LeadsToSource rows sources =
    (key : InKey) → IfSome (position (is_row_of key.source key.destination) rows)
    (λ k. get same_in_key sources key ≡ Some k)

-- A table leads from the peer and the destination of each outgoing row to the ordinal of the last
-- row that has them. Other keys mean nothing.
abbrev pub LeadsToLast : {S : Type 0} → List Row → IndexMap OutKey ℕ S → Type 0
LeadsToLast rows in_use =
    (key : OutKey) → IfSome (last_or None (filter (leads_to key.peer key.destination) rows))
    (λ row. get same_out_key in_use key ≡ Some row.sequence.ordinal)
