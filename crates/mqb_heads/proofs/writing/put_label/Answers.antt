use Rattle.std.proofs.Common.{arith}
use Rattle.mqb_fields.specs.lemmas.Wrote.{◌>>◌, said}
use Rattle.mqb_heads.specs.lemmas.Put.{label_more, label_room}
use Rattle.mqb_heads.proofs.writing.put_label.Goals as goal

pub put_half-end-requires : goal.put_half-end-requires
put_half-end-requires c = omega (arith, c.loop-unit.invariant.end, c.loop-unit.auto.to, label_room c.args.units.now c.loop-unit.unit-index c.loop-unit-test.true)

pub loop-unit-preserved : goal.loop-unit-preserved
loop-unit-preserved c = said _ (label_more c.args.units.now c.loop-unit.unit-index c.loop-unit-test.true) (c.loop-unit.invariant >> c.put_half-end.ensures)
