use Rattle.mqb_fields.specs.lemmas.Wrote.{◌>>◌, said}
use Rattle.mqb_names.proofs.texts.put_direct.Goals as goal

pub returns : goal.returns
returns c = c.put_host-end.ensures >> c.put_bytes-end.ensures >> said _ c.as_slice.ensures.bytes c.put_bytes.ensures
