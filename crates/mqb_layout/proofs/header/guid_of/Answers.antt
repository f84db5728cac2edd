use Rattle.std.proofs.Common.{◌∙◌, drop, arith, length-drop}
use Rattle.std.proofs.lemmas.List.{take_all}
use Rattle.mqb_layout.specs.lemmas.Reading.{drop_spelled}
use Rattle.mqb_layout.proofs.header.guid_of.Goals as goal

pub returns : goal.returns
returns c = take_all 16 (drop 8 c.args.bytes.now) (omega (arith, c.told-bytes, length-drop 8 c.args.bytes.now)) ∙ drop_spelled 16 8 c.args.bytes.now c.told-bytes
