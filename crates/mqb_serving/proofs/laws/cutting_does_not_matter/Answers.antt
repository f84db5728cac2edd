use Rattle.mqb_serving.proofs.Reading.{cutting_does_not_matter}
use Rattle.mqb_serving.proofs.laws.cutting_does_not_matter.Goals as goal

pub returns : goal.returns
returns c = cutting_does_not_matter
