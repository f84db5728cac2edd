use Rattle.std.proofs.Common.{◌<◌, get_or, length, ap, ◌∙◌, set, arith}
use Rattle.std.proofs.lemmas.List.Edits.{map_over_more}
use Rattle.mqb_queue.specs.Passes.{shifted}
use Rattle.mqb_queue.specs.declared.passes.Pass.{Pass}
use Rattle.mqb_queue.proofs.Passed.{read_again}
use Rattle.mqb_queue.proofs.passes.shift.Goals as goal

pub loop-k-preserved : goal.loop-k-preserved
loop-k-preserved c =
    let ys = c.loop-k.passes in
    let k = c.loop-k.k in
    let d : Pass = record { index = 0; bound = 0 } in
    let within : k < length c.args.passes.now = omega (arith, c.told-passes, c.loop-k-test.true) in
    record {
      mapped = ap (λ (p : Pass). set ys k p) c.shifted.ensures
          ∙ map_over_more (shifted c.args.at) c.args.passes.now ys k (get_or ys k d) within c.loop-k.invariant.mapped (read_again ys k d);
    }
