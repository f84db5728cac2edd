use Rattle.mqb_serving.proofs.Growing.{prefixes_write_prefixes}
use Rattle.mqb_serving.proofs.laws.prefixes_write_prefixes.Goals as goal

pub returns : goal.returns
returns c = prefixes_write_prefixes
