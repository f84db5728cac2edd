use Rattle.mqb_fields.specs.lemmas.Again.{guid_again}
use Rattle.mqb_fields.proofs.laws.guid_is_read.Goals as goal

pub returns : goal.returns
returns c = λ to guid at room len. guid_again to guid at room len
