use Rattle.mqb_history.proofs.Offering as offering
use Rattle.mqb_history.proofs.always_offers_kept.Goals as goal

pub returns : goal.returns
returns c = offering.always_offers_kept
