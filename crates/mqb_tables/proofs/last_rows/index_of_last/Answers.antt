use Rattle.std.proofs.Common.{◌≡◌, ℕ, ◌+◌, ◌<◌, Bool, true, false, cond, List, length, get_or, map, take, filter, Option, Some, None, sym, ap, ◌∙◌, subst, arith}
use Rattle.std.specs.Prelude.{IfSome, option_and_then, slice_get}
use Rattle.std.specs.List.{last_or}
use Rattle.std.proofs.lemmas.List.{get_or-map, length-map}
use Rattle.std.proofs.lemmas.Option.{slice_get-get_or}
use Rattle.mqb_orders.specs.Rows.{Row, leads_to, row_of}
use Rattle.mqb_orders.specs.declared.rows.OutRow.{OutRow}
use Rattle.mqb_tables.proofs.Lasts.{last_more}
use Rattle.mqb_tables.proofs.last_rows.index_of_last.Goals as goal
use Rattle.mqb_tables.proofs.last_rows.index_of_last.Goals.{then-leads_to, else-leads_to}

-- p: a row passes; b: whether the one at k does
step : (p : Row → Bool) (rows : List OutRow) (k : ℕ) (row : OutRow) (b : Bool) (last next : Option ℕ) → k < length rows → row ≡ get_or rows k row → b ≡ p (row_of row)
    → next ≡ cond b (Some k) last → option_and_then (slice_get (map row_of rows)) last ≡ last_or None (filter p (take k (map row_of rows))) → IfSome last (λ j. j < k)
    → (option_and_then (slice_get (map row_of rows)) next ≡ last_or None (filter p (take (k + 1) (map row_of rows)))) × IfSome next (λ j. j < k + 1)
step p rows k row b last next within is tells next_is so_far below =
    let inside : k < length (map row_of rows) = subst (λ n. k < n) (sym (length-map rows row_of)) within in
    let read : get_or (map row_of rows) k (row_of row) ≡ row_of row = get_or-map row_of rows k row (row_of row) within ∙ ap row_of (sym is) in
    let more = last_more p (map row_of rows) k (row_of row) inside read in
    let got : slice_get (map row_of rows) k ≡ Some (row_of row) = slice_get-get_or (map row_of rows) k (row_of row) inside ∙ ap Some read in
    at b tells next_is more got
  where
    at : (b : Bool) → b ≡ p (row_of row) → next ≡ cond b (Some k) last
        → last_or None (filter p (take (k + 1) (map row_of rows))) ≡ cond (p (row_of row)) (Some (row_of row)) (last_or None (filter p (take k (map row_of rows))))
        → slice_get (map row_of rows) k ≡ Some (row_of row)
        → (option_and_then (slice_get (map row_of rows)) next ≡ last_or None (filter p (take (k + 1) (map row_of rows)))) × IfSome next (λ j. j < k + 1)
    at true tells next_is more got = (
      ap (option_and_then (slice_get (map row_of rows))) next_is
          ∙ (got ∙ sym (more ∙ ap (λ (c : Bool). cond c (Some (row_of row)) (last_or None (filter p (take k (map row_of rows))))) (sym tells))),
      subst (λ (o : Option ℕ). IfSome o (λ j. j < k + 1)) (sym next_is) (omega arith),
    )
    at false tells next_is more got = (
      ap (option_and_then (slice_get (map row_of rows))) next_is
          ∙ (so_far ∙ sym (more ∙ ap (λ (c : Bool). cond c (Some (row_of row)) (last_or None (filter p (take k (map row_of rows))))) (sym tells))),
      subst (λ (o : Option ℕ). IfSome o (λ j. j < k + 1)) (sym next_is) (weaker last below),
    )
      where
        weaker : (o : Option ℕ) → IfSome o (λ j. j < k) → IfSome o (λ j. j < k + 1)
        weaker None h = h
        weaker (Some j) h = let l : j < k = h in omega (arith, l)

pub loop-k-preserved : goal.loop-k-preserved
loop-k-preserved c =
    let p = leads_to c.args.peer c.args.destination.now in
    let s = step p c.args.rows.now c.loop-k.k c.index-rows-k.result c.leads_to.result c.loop-k.last c.if-leads_to.last c.loop-k-test.true c.index-rows-k.is c.leads_to.ensures
    (elim c.if-leads_to.branch [
      | then-leads_to w ↦ w.last-is ∙ ap (λ (b : Bool). cond b (Some c.loop-k.k) c.loop-k.last) (sym w.if-leads_to.true)
      | else-leads_to w ↦ w.last-is ∙ ap (λ (b : Bool). cond b (Some c.loop-k.k) c.loop-k.last) (sym w.if-leads_to.false)
    ])
    c.loop-k.invariant.row c.loop-k.invariant.within in
    record { row = s.0; within = s.1 }
