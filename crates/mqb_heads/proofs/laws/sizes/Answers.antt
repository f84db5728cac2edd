use Rattle.mqb_heads.specs.lemmas.Put.{user_sizes, props_sizes}
use Rattle.mqb_heads.proofs.laws.sizes.Goals as goal

pub returns : goal.returns
returns c = record { user = user_sizes; props = props_sizes }
