use Rattle.std.proofs.Common.{sym}
use Rattle.mqb_names.specs.lemmas.Guids.{none_parsed}
use Rattle.mqb_forms.proofs.Hyphens.{no_guid}
use Rattle.mqb_forms.proofs.values.guid_of.Goals as goal

pub returns-in-Err : goal.returns-in-Err
returns-in-Err c = sym (no_guid c.args.word.now c.if-word-ne36.false (none_parsed _ c.in-Err.ensures.ok.1))
