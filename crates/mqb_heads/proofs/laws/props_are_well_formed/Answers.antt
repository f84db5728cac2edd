use Rattle.mqb_heads.specs.lemmas.ReadLaws.{props_read}
use Rattle.mqb_heads.proofs.laws.props_are_well_formed.Goals as goal

pub returns : goal.returns
returns c = λ r end props e. props_read r props end e
