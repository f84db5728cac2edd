use Rattle.mqb_law_progress.proofs.Answering as answering
use Rattle.mqb_law_progress.proofs.each_is_in_order.Goals as goal

pub returns : goal.returns
returns c = λ a b k user ready step kept. answering.each_is_in_order a b ready step kept k user
