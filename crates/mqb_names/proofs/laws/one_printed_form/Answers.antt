use Rattle.mqb_names.specs.lemmas.PrintedAgain.{printed_apart}
use Rattle.mqb_names.proofs.laws.one_printed_form.Goals as goal

pub returns : goal.returns
returns c = printed_apart
