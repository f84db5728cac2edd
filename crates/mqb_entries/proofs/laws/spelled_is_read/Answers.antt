use Rattle.mqb_entries.proofs.EntryLaws.{entry_again}
use Rattle.mqb_entries.proofs.laws.spelled_is_read.Goals as goal

pub returns : goal.returns
returns c = entry_again
