use Rattle.mqb_fields.specs.lemmas.Wrote.{◌>>◌}
use Rattle.mqb_heads.proofs.user.put_names.Goals as goal

pub returns : goal.returns
returns c = c.put_name-admin.ensures >> c.put_optional_name-response.ensures >> c.put_optional_name.ensures
