use Rattle.std.proofs.Common.{◌≡◌, All, Some, arith, subst}
use Rattle.std.proofs.lemmas.List.{take_all}
use Rattle.mqb_model.specs.records.Reading.{op_of}
use Rattle.mqb_trying.specs.declared.notes.PlannedOp.{PlannedOp}
use Rattle.mqb_trying.specs.Notes.{record_op}
use Rattle.mqb_trying.specs.Trials.{op_view}
use Rattle.mqb_trying.proofs.Walked.{all_taken}
use Rattle.mqb_trying.proofs.trial.ops_are_read.Goals as goal

pub loop-op-preserved : goal.loop-op-preserved
loop-op-preserved c = record {
  read = all_taken (λ (op : PlannedOp). op_of (op_view (record_op op)) ≡ Some (record_op op)) c.args.ops.now c.loop-op.op-index c.op-item.result c.loop-op-test.true c.op-item.is
      c.loop-op.invariant.read c.op_is_read.ensures;
}

pub returns : goal.returns
returns c = subst (All (λ (op : PlannedOp). op_of (op_view (record_op op)) ≡ Some (record_op op))) (take_all c.loop-op.op-index c.args.ops.now (omega (arith, c.loop-op-test.false))) c.loop-op.invariant.read
