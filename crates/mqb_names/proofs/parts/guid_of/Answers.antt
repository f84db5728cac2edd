use Rattle.std.proofs.Common.{arith, sym, ◌∙◌}
use Rattle.mqb_names.specs.lemmas.Guids.{guid_short, guid_parsed, none_parsed}
use Rattle.mqb_names.proofs.parts.guid_of.Goals as goal

pub returns-then-text-lt36-clause-guid : goal.returns-then-text-lt36-clause-guid
returns-then-text-lt36-clause-guid c = sym (guid_short c.args.text.now (omega (arith, c.if-text-lt36.true)))

pub returns-in-Ok-clause-guid : goal.returns-in-Ok-clause-guid
returns-in-Ok-clause-guid c = rw c.into_bytes.ensures (c.in-Ok.ensures.bytes ∙ sym (guid_parsed c.args.text.now c.if-text-lt36.false))

pub returns-in-Err-clause-guid : goal.returns-in-Err-clause-guid
returns-in-Err-clause-guid c = sym (guid_parsed c.args.text.now c.if-text-lt36.false ∙ none_parsed _ c.in-Err.ensures.ok.1)
