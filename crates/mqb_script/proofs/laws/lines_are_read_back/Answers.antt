use Rattle.mqb_script.proofs.StepsBack.{counted_back}
use Rattle.mqb_script.proofs.Spelled.{read_back, line_kept}
use Rattle.mqb_script.proofs.laws.lines_are_read_back.Goals as goal

pub returns-clause-kept : goal.returns-clause-kept
returns-clause-kept c = λ grammar event spelled. line_kept grammar event

pub returns-clause-event : goal.returns-clause-event
returns-clause-event c = λ grammar few event spelled. read_back grammar few spelled

pub returns-clause-counted : goal.returns-clause-counted
returns-clause-counted c = λ n most. counted_back n most
