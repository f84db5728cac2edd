use Rattle.mqb_fields.specs.lemmas.Wrote.{◌>>◌}
use Rattle.mqb_heads.proofs.transaction.put_fields.Goals as goal

pub returns : goal.returns
returns c = c.put_word-ordinal.ensures >> c.put_word-stamp.ensures >> c.put_word-number.ensures >> c.put_word-previous.ensures >> c.put_word.ensures
