use Rattle.mqb_fields.specs.lemmas.Wrote.{filled}
use Rattle.mqb_names.proofs.printing.fill_name.Goals as goal

pub returns : goal.returns
returns c = filled c.requires c.put_name.ensures
