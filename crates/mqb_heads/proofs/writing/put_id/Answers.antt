use Rattle.mqb_fields.specs.lemmas.Wrote.{◌>>◌}
use Rattle.mqb_heads.proofs.writing.put_id.Goals as goal

pub returns : goal.returns
returns c = c.put_guid-number.ensures >> c.put_word.ensures
