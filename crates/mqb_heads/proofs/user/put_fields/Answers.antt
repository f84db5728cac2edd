use Rattle.std.proofs.Common.{ap}
use Rattle.mqb_fields.specs.Writing.{bytes_of}
use Rattle.mqb_fields.specs.lemmas.Wrote.{◌>>◌, said}
use Rattle.mqb_heads.proofs.user.put_fields.Goals as goal

pub returns : goal.returns
returns c =
    c.put_guid-to_target.ensures >> c.put_guid-life.ensures >> c.put_word-sent.ensures >> c.put_word-number.ensures >> c.put_word-flags.ensures
    >> said _ (ap (bytes_of 4) c.user_flags.ensures) c.put_word.ensures
