use Rattle.mqb_history.proofs.Stopping as stopping
use Rattle.mqb_history.proofs.failures_are_settled.Goals as goal

pub returns : goal.returns
returns c = stopping.failures_are_settled
