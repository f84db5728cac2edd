use Rattle.std.proofs.Common.{◌∙◌, arith, sym}
use Rattle.mqb_fields.specs.lemmas.Wrote.{filled}
use Rattle.mqb_names.specs.lemmas.Again.{length_guid}
use Rattle.mqb_names.proofs.printing.fill_guid.Goals as goal

pub put_guid-requires : goal.put_guid-requires
put_guid-requires c = omega (arith, c.requires, length_guid c.args.guid)

pub returns : goal.returns
returns c = filled (c.requires ∙ sym (length_guid c.args.guid)) c.put_guid.ensures
