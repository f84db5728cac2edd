use Rattle.std.proofs.Common.{◌≡◌, All, Some, take}
use Rattle.mqb_model.specs.records.Reading.{op_of}
use Rattle.mqb_trying.specs.Notes.{record_op}
use Rattle.mqb_trying.specs.Trials.{op_view}
use Rattle.mqb_trying.proofs.trial.ops_are_read.Given as goal

abbrev pub invariant-loop-op : goal.invariant-loop-op
invariant-loop-op l = record {
  read : All (λ op. op_of (op_view (record_op op)) ≡ Some (record_op op)) (take l.op-index l.ops);
}
