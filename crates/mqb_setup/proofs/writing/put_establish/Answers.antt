use Rattle.std.proofs.Common.{arith, refl}
use Rattle.mqb_fields.specs.Guids.{swapped}
use Rattle.mqb_fields.specs.Writing.{bytes_of}
use Rattle.mqb_setup.specs.Internals.{filler}
use Rattle.mqb_setup.specs.lemmas.Parts.{length_filler, establish_put}
use Rattle.mqb_setup.proofs.writing.put_establish.Goals as goal

pub put_bytes-requires : goal.put_bytes-requires
put_bytes-requires c = omega (arith, length_filler, c.requires.room, c.put_guid.auto.to, c.put_guid-2.auto.to, c.put_u32.auto.to, c.put_u32-2.auto.to)

pub returns-clause-put : goal.returns-clause-put
unfolding filler
returns-clause-put c =
    establish_put c.args.to.now (swapped c.args.establish.now.client.0) (swapped c.args.establish.now.server.0) (bytes_of 4 c.args.establish.now.stamp) (bytes_of 4 0) filler
    _ _ _ _ _ refl refl refl refl c.requires.room c.put_guid.ensures c.put_guid-2.ensures c.put_u32.ensures c.put_u32-2.ensures c.put_bytes.ensures.put

pub returns-clause-count : goal.returns-clause-count
returns-clause-count c = omega (arith, length_filler, c.put_bytes.ensures.end)
