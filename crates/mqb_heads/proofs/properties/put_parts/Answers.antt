use Rattle.mqb_heads.specs.Properties.{label_bytes}
use Rattle.std.proofs.Common.{ap}
use Rattle.mqb_fields.specs.lemmas.Wrote.{◌>>◌, said}
use Rattle.mqb_heads.proofs.properties.put_parts.Goals as goal

pub returns : goal.returns
returns c = said _ (ap label_bytes c.as_slice.ensures) c.put_label-extension.ensures >> said _ c.as_slice-2.ensures c.put_bytes-body.ensures >> said _ c.as_slice-3.ensures c.put_bytes.ensures
