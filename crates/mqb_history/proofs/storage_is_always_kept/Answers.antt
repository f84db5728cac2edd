use Rattle.mqb_history.proofs.Storage as storage
use Rattle.mqb_history.proofs.storage_is_always_kept.Goals as goal

pub returns : goal.returns
returns c = storage.storage_is_always_kept
