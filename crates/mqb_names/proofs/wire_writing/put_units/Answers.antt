use Rattle.std.proofs.Common.{◌≡◌, ◌∙◌, arith, refl, ◌+◌, ◌*◌, take}
use Rattle.mqb_fields.specs.Writing.{put_at, bytes_of}
use Rattle.mqb_names.specs.Wire.{units}
use Rattle.mqb_names.specs.lemmas.Units.{unit_put}
use Rattle.mqb_names.proofs.wire_writing.put_units.Goals as goal

pub loop-byte-preserved : goal.loop-byte-preserved
loop-byte-preserved c =
    let so_far : put_at c.loop-byte.to c.loop-byte.end (bytes_of 2 c.from.result)
    ≡ put_at (put_at c.args.to.now c.args.at (units (take c.loop-byte.byte-index c.args.text.now))) (c.args.at + 2 * c.loop-byte.byte-index) (bytes_of 2 c.from.result) =
    rw (c.loop-byte.invariant.put, c.loop-byte.invariant.end) refl in
    record {
      put = c.put_u16.ensures ∙ so_far ∙ unit_put c.args.to.now c.args.text.now c.args.at c.loop-byte.byte-index c.from.result c.loop-byte-test.true c.from.ensures
          (omega (arith, c.from.ensures, c.type_inv.text c.loop-byte.byte-index)) c.requires;
      end = omega (arith, c.loop-byte.invariant.end);
    }
