use Rattle.mqb_script.proofs.Spelled.{one_event}
use Rattle.mqb_script.proofs.laws.one_event_a_line.Goals as goal

pub returns : goal.returns
returns c = λ grammar few a b is_a is_b same. one_event grammar few a b is_a is_b same
