use Rattle.std.proofs.Common.{◌++◌, arith}
use Rattle.mqb_heads.specs.Properties.{props_fields, props_parts}
use Rattle.mqb_fields.specs.lemmas.Wrote.{◌>>◌, said}
use Rattle.mqb_heads.specs.lemmas.Put.{padding_is, length_parts}
use Rattle.mqb_heads.proofs.properties.put_padded.Goals as goal

pub put_parts-end-requires : goal.put_parts-end-requires
put_parts-end-requires c = omega (arith, c.requires.room, c.put_fields-parts.ensures.end, c.put_fields-parts.auto.to, length_parts c.args.message.now)

pub put_zeros-requires : goal.put_zeros-requires
put_zeros-requires c =
    omega (arith, c.requires.room, c.put_fields-parts.ensures.end, c.put_fields-parts.auto.to, c.put_parts-end.ensures.end, c.put_parts-end.auto.to, c.padding.ensures, length_parts c.args.message.now)

pub returns : goal.returns
returns c =
    let front = c.put_fields-parts.ensures >> c.put_parts-end.ensures in
    front >> said _ (padding_is (props_fields c.args.message.now ++ props_parts c.args.message.now) c.padding.result c.put_parts-end.result c.padding.ensures front.end) c.put_zeros.ensures
