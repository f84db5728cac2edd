use Rattle.mqb_orders.specs.KeptLists.{numbers}
use Rattle.mqb_orders.proofs.Greatest.{is_greatest}
use Rattle.mqb_orders.proofs.laws.link_is_greatest.Goals as goal

pub returns : goal.returns
returns c = λ acked kept n below. is_greatest acked n (numbers kept) below
