use Rattle.mqb_inspect.proofs.Keeping.{keys_once}
use Rattle.mqb_inspect.proofs.links.index_of.Goals as goal

pub returns-clause-once : goal.returns-clause-once
returns-clause-once c = λ _. keys_once c.insert_full.new.self.keys c.insert_full.ensures.unique
