use Rattle.mqb_fields.specs.lemmas.Again.{put_then}
use Rattle.mqb_fields.proofs.laws.parts_are_one.Goals as goal

pub returns : goal.returns
returns c = λ to first second at room. put_then to first second at room
