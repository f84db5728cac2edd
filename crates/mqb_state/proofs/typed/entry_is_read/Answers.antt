use Rattle.mqb_model.specs.records.Carrying.{IsRead}
use Rattle.mqb_model.specs.records.Reading.{record_in}
use Rattle.mqb_state.proofs.Leading.{where_some}
use Rattle.mqb_state.proofs.typed.entry_is_read.Goals as goal

pub returns : goal.returns
returns c = where_some IsRead (record_in c.args.entry.now) (λ r e. c.entries_are_read.ensures c.args.entry.now r c.entry_is_typed.ensures e)
