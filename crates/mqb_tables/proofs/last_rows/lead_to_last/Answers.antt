use Rattle.std.proofs.Common.{◌≡◌, ℕ, ◌<◌, List, Option, Some, None, cond, filter, get_or, length, map, sym, ap, ◌∙◌, subst}
use Rattle.std.specs.List.{last_or}
use Rattle.std.specs.Option.{option_map}
use Rattle.std.specs.Prelude.{IfSome, option_and_then, slice_get}
use Rattle.std.proofs.lemmas.Option.{slice_get-get_or, slice_get-map}
use Rattle.indexmap.specs.IndexMap.{get}
use Rattle.mqb_orders.specs.Rows.{Row, leads_to, row_of}
use Rattle.mqb_orders.specs.declared.keys.OutKey.{OutKey}
use Rattle.mqb_orders.specs.declared.rows.OutRow.{OutRow}
use Rattle.mqb_tables.specs.Keys.{same_out_key}
use Rattle.mqb_tables.proofs.Names.{same_out_key_refl}
use Rattle.mqb_tables.proofs.last_rows.lead_to_last.Goals as goal

pub returns-in-Some-clause-last : goal.returns-in-Some-clause-last
returns-in-Some-clause-last c =
    let rows : List OutRow = c.args.rows.now in
    let key : OutKey = record { peer = c.args.peer; destination = c.args.destination.now } in
    let x : OutRow = c.index-rows-k.result in
    let within : c.in-Some.k < length rows = subst (λ (o : Option ℕ). IfSome o (λ k. k < length rows)) c.in-Some.is c.index_of_last.ensures.within in
    let seen : slice_get (map row_of rows) c.in-Some.k ≡ Some (row_of x) =
    slice_get-map row_of rows c.in-Some.k ∙ ap (option_map row_of) (slice_get-get_or rows c.in-Some.k x within ∙ ap Some (sym c.index-rows-k.is)) in
    let last : last_or None (filter (leads_to c.args.peer c.args.destination.now) (map row_of rows)) ≡ Some (row_of x) =
    sym c.index_of_last.ensures.row ∙ (ap (option_and_then (slice_get (map row_of rows))) c.in-Some.is ∙ seen) in
    subst (λ (o : Option Row). IfSome o (λ row. get same_out_key c.lead.new.in_use key ≡ Some row.sequence.ordinal)) (sym last)
    (c.lead.ensures.updates key
    ∙ (ap (λ b. cond b (Some (get_or rows c.in-Some.k x).sequence.ordinal) (get same_out_key c.args.in_use.now key)) (same_out_key_refl key)
    ∙ ap (λ (y : OutRow). Some y.sequence.ordinal) (sym c.index-rows-k.is)))
