use Rattle.std.proofs.Common.{◌≡◌, Some}
use Rattle.std.proofs.lemmas.List.Elements.{recursion_from_All}
use Rattle.mqb_model.specs.records.Reading.{op_of}
use Rattle.mqb_trying.specs.declared.notes.PlannedOp.{PlannedOp}
use Rattle.mqb_trying.specs.Notes.{record_op}
use Rattle.mqb_trying.specs.Trials.{op_view}
use Rattle.mqb_trying.proofs.Finishing.{all_read}
use Rattle.mqb_trying.proofs.trial.all_are_read.Goals as goal

pub returns : goal.returns
returns c = all_read c.args.ops.now (recursion_from_All (λ (op : PlannedOp). op_of (op_view (record_op op)) ≡ Some (record_op op)) c.args.ops.now c.ops_are_read.ensures)
