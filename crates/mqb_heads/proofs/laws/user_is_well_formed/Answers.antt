use Rattle.mqb_heads.specs.lemmas.ReadLaws.{user_read}
use Rattle.mqb_heads.proofs.laws.user_is_well_formed.Goals as goal

pub returns : goal.returns
returns c = λ r end user e. user_read r user end e
