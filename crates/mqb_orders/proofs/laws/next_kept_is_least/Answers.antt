use Rattle.mqb_orders.specs.KeptLists.{numbers}
use Rattle.mqb_orders.proofs.Least.{is_next, numbers_rise}
use Rattle.mqb_orders.proofs.laws.next_kept_is_least.Goals as goal

pub returns : goal.returns
returns c = λ kept after rises. is_next after (numbers kept) (numbers_rise kept rises)
