use Rattle.mqb_fields.specs.lemmas.Wrote.{◌>>◌}
use Rattle.mqb_names.proofs.texts.put_address.Goals as goal

pub returns : goal.returns
returns c = c.put_octet-end.ensures >> c.put_dot_and_octet-end.ensures >> c.put_dot_and_octet-end-2.ensures >> c.put_dot_and_octet.ensures
