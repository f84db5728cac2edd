use Rattle.mqb_fields.specs.lemmas.Again.{put_all}
use Rattle.mqb_fields.proofs.laws.all_is_put.Goals as goal

pub returns : goal.returns
returns c = λ to bytes len. put_all to bytes len
