use Rattle.mqb_fields.specs.lemmas.Again.{number_again}
use Rattle.mqb_fields.proofs.laws.number_is_read.Goals as goal

pub returns : goal.returns
returns c = λ to at width number room fits. number_again to at width number room fits
