use Rattle.std.proofs.Common.{◌++◌, List, ℕ, length, map, ap, sym, ◌∙◌, arith}
use Rattle.std.specs.List.{flat_map}
use Rattle.std.specs.Prelude.{All, IsTrue}
use Rattle.mqb_base.specs.QueueNames.{names_queue}
use Rattle.std.proofs.lemmas.List.{length-map}
use Rattle.std.proofs.lemmas.List.Folds.{flat_map-map}
use Rattle.mqb_orders.specs.Rows.{row_of}
use Rattle.mqb_snapshot.specs.Spelled.{IsSized, spelled_out, word}
use Rattle.mqb_snapshot.proofs.Carried.{item_of}
use Rattle.mqb_snapshot.specs.Values.{IsOut}
use Rattle.mqb_snapshot.proofs.SoFar.{more, of_all, of_seen}
use Rattle.mqb_snapshot.proofs.Walks.{put_more, put_all}
use Rattle.mqb_snapshot.proofs.tail.Tail.out_rows.Goals as goal

pub out_row-requires-clause-named : goal.out_row-requires-clause-named
out_row-requires-clause-named c =
    item_of (λ row. IsTrue (names_queue row.destination)) row_of c.args.rows.now c.loop-row.row-index c.row-item.result c.requires.named c.loop-row-test.true c.row-item.is

pub out_row-requires-clause-sized : goal.out_row-requires-clause-sized
out_row-requires-clause-sized c =
    item_of (λ row. All (λ k. IsSized k.message) row.kept) row_of c.args.rows.now c.loop-row.row-index c.row-item.result c.requires.sized c.loop-row-test.true c.row-item.is

pub loop-row-preserved : goal.loop-row-preserved
loop-row-preserved c = record {
  put = put_more (λ r. spelled_out (row_of r)) c.args.rows.now c.loop-row.row-index c.u32.new.self.text c.loop-row.self.text c.row-item.result c.out_row.new.self.text c.loop-row.invariant.put c.loop-row-test.true c.row-item.is c.in_ok-out_row.ensures.added;
  front = c.in_ok-out_row.ensures.front ∙ c.loop-row.invariant.front;
  typed = more (λ r. IsOut (row_of r)) c.args.rows.now c.loop-row.row-index c.row-item.result c.loop-row.invariant.typed c.loop-row-test.true c.row-item.is c.in_ok-out_row.ensures.typed;
}

pub returns : goal.returns
returns c = record {
  added =
      put_all (λ r. spelled_out (row_of r)) c.args.rows.now c.loop-row.row-index c.args.self.now.text (word (length c.args.rows.now)) c.u32.new.self.text c.loop-row.self.text c.in_ok-u32.ensures.added c.loop-row.invariant.put (omega (arith, c.loop-row-test.false))
      ∙ ap (λ (t : List ℕ). c.args.self.now.text ++ (word (length c.args.rows.now) ++ t)) (sym (flat_map-map spelled_out row_of c.args.rows.now))
      ∙ ap (λ (n : ℕ). c.args.self.now.text ++ (word n ++ flat_map spelled_out (map row_of c.args.rows.now))) (sym (length-map c.args.rows.now row_of));
  front = c.loop-row.invariant.front;
  typed = of_seen IsOut row_of c.args.rows.now (of_all (λ r. IsOut (row_of r)) c.args.rows.now c.loop-row.row-index (omega (arith, c.loop-row-test.false)) c.loop-row.invariant.typed);
}
