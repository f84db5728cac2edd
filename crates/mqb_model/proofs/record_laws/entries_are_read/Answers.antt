use Rattle.mqb_model.proofs.Entries.{entry_is_read}
use Rattle.mqb_model.proofs.record_laws.entries_are_read.Goals as goal

pub returns : goal.returns
returns c = entry_is_read
