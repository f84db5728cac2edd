use Rattle.mqb_runs.proofs.Keeping as keeping
use Rattle.mqb_runs.proofs.runs_keep_guarantees.Goals as goal

pub returns : goal.returns
returns c = keeping.keep_guarantees c.always_machine_invariant.ensures c.ledger_is_exactly_once.ensures c.committed_is_asked.ensures c.decisions_have_reasons.ensures
    c.always_refused_late.ensures c.notes_tell_pumps.ensures c.ledger_is_written.ensures
