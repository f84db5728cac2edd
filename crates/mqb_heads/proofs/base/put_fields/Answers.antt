use Rattle.std.proofs.Common.{ap}
use Rattle.mqb_fields.specs.Writing.{bytes_of}
use Rattle.mqb_fields.specs.lemmas.Wrote.{◌>>◌, said}
use Rattle.mqb_heads.proofs.base.put_fields.Goals as goal

pub returns : goal.returns
returns c =
    c.put_bytes-flags.ensures >> said _ (ap (bytes_of 2) c.base_flags.ensures) c.put_half-signature.ensures >> c.put_word-size.ensures >> c.put_word-reach.ensures >> c.put_word.ensures
