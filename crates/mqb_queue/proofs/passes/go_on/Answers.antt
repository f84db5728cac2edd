use Rattle.std.proofs.Common.{get_or, arith, ◌∙◌}
use Rattle.std.proofs.lemmas.List.{length-set}
use Rattle.std.proofs.lemmas.Option.{slice_get-get_or}
use Rattle.mqb_queue.specs.declared.passes.Pass.{Pass}
use Rattle.mqb_queue.proofs.Passed.{passed_set}
use Rattle.mqb_queue.proofs.passes.go_on.Goals as goal

pub next_pass-requires-clause-passed : goal.next_pass-requires-clause-passed
next_pass-requires-clause-passed c =
    let d : Pass = record { index = 0; bound = 0 } in
    c.loop-k.invariant.passed c.loop-k.k (get_or c.loop-k.passes c.loop-k.k d)
    (slice_get-get_or c.loop-k.passes c.loop-k.k d (omega (arith, c.loop-k.invariant.eight, c.loop-k-test.true)))

pub loop-k-preserved : goal.loop-k-preserved
loop-k-preserved c = record {
  passed = passed_set c.loop-k.passes c.loop-k.k c.next_pass.result c.args.messages.now c.loop-k.invariant.passed c.next_pass.ensures;
  eight = length-set c.loop-k.passes c.loop-k.k c.next_pass.result ∙ c.loop-k.invariant.eight;
}
