use Rattle.mqb_names.specs.lemmas.PrintedAgain.{printed_again}
use Rattle.mqb_names.proofs.laws.printed_is_read.Goals as goal

pub returns : goal.returns
returns c = printed_again
