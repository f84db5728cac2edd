use Rattle.std.proofs.Common.{◌≡◌, ◌∙◌, ◌<◌, ◌++◌, ap, arith, drop, get_or, length, map, subst, sym, take}
use Rattle.std.proofs.lemmas.List.{get_or-map, length-map, length-set}
use Rattle.std.specs.List.{zip}
use Rattle.std.specs.Prelude.{◌+◌, slice_set, vec_len, ℕ}
use Rattle.mqb_model.specs.calls.Link.{begun_anew}
use Rattle.mqb_orders.specs.Rows.{row_of}
use Rattle.mqb_choosing.proofs.Rests.{none_left, one_anew}
use Rattle.mqb_choosing.proofs.rows.rewind.Goals as goal

pub loop-k-preserved : goal.loop-k-preserved
loop-k-preserved c =
    let rows = c.args.rows.now in
    let ns = c.loop-k.cursors.items in
    let k = c.loop-k.k in
    let r = c.index-rows-k.result in
    let n = c.index.result.now in
    let size : vec_len c.args.cursors.now ≡ length c.args.cursors.now.items = omega arith in
    let in_ns : k < length ns = omega (arith, c.loop-k-test.true, c.len-k-end.ensures, size, c.loop-k.invariant.same) in
    let many = length-map rows row_of in
    let in_rows : k < length (map row_of rows) = omega (arith, c.loop-k-test.true, c.len-k-end.ensures, size, c.requires, many) in
    let is : row_of r ≡ get_or (map row_of rows) k (row_of r) = ap row_of c.index-rows-k.is ∙ sym (get_or-map row_of rows k r (row_of r) (omega (arith, in_rows, many))) in
    record {
      left = subst (λ (v : ℕ). take (k + 1) (slice_set ns k v) ++ map (begun_anew c.args.peer) (zip (drop (k + 1) (map row_of rows)) (drop (k + 1) (slice_set ns k v)))
          ≡ map (begun_anew c.args.peer) (zip (map row_of rows) c.args.cursors.now.items)) (sym c.begun_anew-cursor.ensures)
          (one_anew c.args.peer (map row_of rows) ns k (row_of r) n in_rows in_ns is c.index.ensures ∙ c.loop-k.invariant.left);
      same = length-set ns k c.begun_anew-cursor.result ∙ c.loop-k.invariant.same;
    }

pub returns : goal.returns
returns c =
    let ns = c.loop-k.cursors.items in
    let size : vec_len c.args.cursors.now ≡ length c.args.cursors.now.items = omega arith in
    sym (none_left c.args.peer (map row_of c.args.rows.now) ns c.loop-k.k (omega (arith, c.loop-k-test.false, c.len-k-end.ensures, size, c.loop-k.invariant.same)))
    ∙ c.loop-k.invariant.left
