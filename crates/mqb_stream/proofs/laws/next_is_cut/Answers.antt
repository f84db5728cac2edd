use Rattle.mqb_stream.proofs.Cuts.{answer_is_cut}
use Rattle.mqb_stream.proofs.laws.next_is_cut.Goals as goal

pub returns : goal.returns
returns c = answer_is_cut
