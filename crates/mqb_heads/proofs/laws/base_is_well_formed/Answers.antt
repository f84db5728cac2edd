use Rattle.mqb_heads.specs.lemmas.ReadLaws.{base_read}
use Rattle.mqb_heads.proofs.laws.base_is_well_formed.Goals as goal

pub returns : goal.returns
returns c = λ bytes head e. base_read bytes head e
