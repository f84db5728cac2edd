use Rattle.std.proofs.Common.{◌≡◌, Some, sym, ap, ◌∙◌, arith}
use Rattle.std.specs.Prelude.{slice_get}
use Rattle.std.proofs.lemmas.Option.{slice_get-get_or}
use Rattle.mqb_tables.proofs.Numbering.{leads_next, own_next}
use Rattle.mqb_tables.proofs.ordinals.enter_all.Goals as goal

pub loop-k-preserved : goal.loop-k-preserved
loop-k-preserved c =
    let x = c.index-rows-k.result in
    let is : slice_get c.args.rows.now c.loop-k.k ≡ Some x = slice_get-get_or c.args.rows.now c.loop-k.k x c.loop-k-test.true ∙ ap Some (sym c.index-rows-k.is) in
    record {
      leads = leads_next c.args.rows.now c.loop-k.k x c.loop-k.ordinals c.enter.new.ordinals c.loop-k.invariant.leads is (record {
        kept = c.enter.ensures.kept;
        entered = c.enter.ensures.entered;
        own = c.enter.ensures.own;
      });
      few = omega (arith, c.enter.ensures.few, c.loop-k.invariant.few);
      own = own_next c.args.rows.now c.loop-k.k x c.loop-k.ordinals c.enter.new.ordinals c.loop-k.invariant.leads is (record {
        kept = c.enter.ensures.kept;
        entered = c.enter.ensures.entered;
        own = c.enter.ensures.own;
      }) c.loop-k.invariant.few c.enter.ensures.few c.loop-k.invariant.own;
      room = omega (arith, c.enter.ensures.room, c.loop-k.invariant.room);
    }
