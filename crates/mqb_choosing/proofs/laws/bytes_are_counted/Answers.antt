use Rattle.mqb_choosing.proofs.Settled.{all_counted}
use Rattle.mqb_choosing.proofs.laws.bytes_are_counted.Goals as goal

pub returns : goal.returns
returns c = all_counted c.plain_size.ensures
