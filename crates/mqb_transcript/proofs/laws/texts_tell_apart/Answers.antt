use Rattle.mqb_transcript.proofs.ToldApart.{replies_apart, outcomes_apart}
use Rattle.mqb_transcript.proofs.FlowApart.{flows_apart}
use Rattle.mqb_transcript.proofs.laws.texts_tell_apart.Goals as goal

pub returns-clause-reply : goal.returns-clause-reply
returns-clause-reply c = λ hosts a b same. replies_apart hosts a b same

pub returns-clause-outcome : goal.returns-clause-outcome
returns-clause-outcome c = λ hosts a b same. outcomes_apart hosts a b same

pub returns-clause-flow : goal.returns-clause-flow
returns-clause-flow c = λ hosts a b none same. flows_apart hosts a b none same
