use Rattle.std.proofs.Common.{◌≡◌, Some, ap, subst, sym}
use Rattle.std.specs.Prelude.{option_map}
use Rattle.mqb_model.specs.records.Reading.{op_of}
use Rattle.mqb_model.specs.records.Record as entry
use Rattle.mqb_trying.specs.declared.notes.PlannedOp.{PlannedOp}
use Rattle.mqb_trying.specs.Notes.{record_op}
use Rattle.mqb_trying.specs.Trials.{op_view}
use Rattle.mqb_trying.proofs.trial.op_is_read.Goals as goal

pub returns-in-Send : goal.returns-in-Send
returns-in-Send c = subst (λ (o : PlannedOp). op_of (op_view (record_op o)) ≡ Some (record_op o)) (sym c.in-Send.is) (ap (option_map (λ p. entry.Send p)) c.told_is_read.ensures.read)
