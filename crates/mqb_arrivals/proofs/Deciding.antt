-- The incoming row of a message is decided up to it.
use Rattle.std.proofs.Common.{ap, ap₂, sym, ◌∙◌, set}
use Rattle.std.proofs.lemmas.Bool.{and_parts}
use Rattle.std.specs.Option.{option_map_or}
use Rattle.std.specs.Prelude.{◌++◌, ◌∷◌, ◌≡◌, [], List, Option, Some, slice_get, true, ℕ}
use Rattle.mqb_base.specs.declared.heads.TxHead.{TxHead}
use Rattle.mqb_base.specs.declared.message.Message.{Message}
use Rattle.mqb_orders.specs.declared.rows.InRow.{InRow}
use Rattle.mqb_queue.proofs.Positions.{passing}
use Rattle.mqb_queue.proofs.Tops.{middle}
use Rattle.mqb_contents.proofs.mqb_tables.Members.{changed_is}
use Rattle.mqb_contents.specs.Rows.{deciding, with_in}
use Rattle.mqb_model.specs.Lists.{with_changed}
use Rattle.mqb_model.specs.records.Decisions.{decided_row, with_decided}
use Rattle.mqb_model.specs.state.Rows.{in_index, is_row_of}
use Rattle.mqb_model.specs.state.State.{State}
use Rattle.mqb_arrivals.proofs.Names.{same_guid_is, same_name_is}

row_is : (m : Message) (tx : TxHead) (row : InRow) → is_row_of m.id.qm m.destination row ≡ true → deciding tx.sequence tx.number row ≡ decided_row m tx
row_is m tx row h = let both = and_parts _ _ h in
    ap₂ (λ source destination. record { source = source; destination = destination; sequence = tx.sequence; last = tx.number })
    (same_guid_is row.source m.id.qm both.0) (same_name_is row.destination m.destination both.1)

pub decided_is : (s : State) (m : Message) (tx : TxHead) (k : ℕ) → in_index s m ≡ Some k → with_in (deciding tx.sequence tx.number) s k ≡ with_decided s m tx
decided_is s m tx k h =
    let p = passing (is_row_of m.id.qm m.destination) s.ins k h in
    let there : slice_get s.ins k ≡ Some p.at = ap (λ (xs : List InRow). slice_get xs k) p.whole ∙ (ap (slice_get (p.before ++ p.at ∷ p.behind)) (sym p.place) ∙ middle p.before p.at p.behind) in
    let one : with_changed (deciding tx.sequence tx.number) s.ins k ≡ set s.ins k (decided_row m tx) =
    changed_is (deciding tx.sequence tx.number) s.ins k p.at there ∙ ap (set s.ins k) (row_is m tx p.at p.passes) in
    ap (λ (xs : List InRow). record s { ins = xs }) one
    ∙ sym (ap (λ (o : Option ℕ). record s { ins = option_map_or (λ k. set s.ins k (decided_row m tx)) o (s.ins ++ decided_row m tx ∷ []) }) h)
