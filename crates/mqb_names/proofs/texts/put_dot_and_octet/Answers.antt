use Rattle.mqb_fields.specs.lemmas.Wrote.{◌>>◌}
use Rattle.mqb_names.proofs.texts.put_dot_and_octet.Goals as goal

pub returns : goal.returns
returns c = c.put_bytes-end.ensures >> c.put_octet.ensures
