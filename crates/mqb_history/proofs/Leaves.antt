-- Whatever left a queue left that of the manager which put it.
use Rattle.std.specs.Prelude.{◌≡◌, Some, ℕ}
use Rattle.mqb_base.specs.declared.ledger.Line.TheVariants as line
use Rattle.mqb_base.specs.declared.ledger.Stream.{Stream}
use Rattle.mqb_exactly_once.specs.Words.{In}
use Rattle.mqb_model.specs.records.Applying.{lines_of}
use Rattle.mqb_network.specs.Courses.{Course, Written}
use Rattle.mqb_network.specs.Doubts.{settled}
use Rattle.mqb_network.specs.Laws.{Always}
use Rattle.mqb_network.specs.Runs.{after_run}
use Rattle.mqb_history.specs.Decided.{written_of}
use Rattle.mqb_history.specs.Fates.{departure_line}
use Rattle.mqb_history.specs.Shown.{decision_in}
use Rattle.mqb_history.proofs.Carrying.{always_decided_truly}
use Rattle.mqb_history.proofs.Deciding.{always_decided_in_order}
use Rattle.mqb_history.proofs.Finality.{own_departure}
use Rattle.mqb_history.proofs.Gone.{IsAccounted, always_accounted}
use Rattle.mqb_history.proofs.Noticed.{written_in}
use Rattle.mqb_history.proofs.Reaching.{chosen_from}
use Rattle.mqb_history.proofs.Reasons.{decision_put}
use Rattle.mqb_history.proofs.Showing.{LeaveTheirQueues}
use Rattle.mqb_history.proofs.Telling.{always_told_commitments}

pub always_leave : Always LeaveTheirQueues
always_leave known ms apart run kept j channel x departure inside put told = own_departure known apart c accounted
    (always_told_commitments known ms apart run kept) (always_decided_truly known ms apart run kept) (always_decided_in_order known ms apart run kept) j from.0 by.0 line_of.0 line_of.1 x.message.id
    departure from.1 line_of.2 by.1 by.2
  where
    c : Course
    c = settled kept (after_run known ms)

    accounted : IsAccounted known c
    accounted = always_accounted known apart ms run kept

    from : (w : Written) × In w (written_of j c.written) × (decision_in channel w.before w.entry ≡ Some x)
    from = chosen_from (λ w. decision_in channel w.before w.entry) (written_of j c.written) x inside

    line_of : (stream : Stream) × (number : ℕ) × In (line.Put stream number x.message.id) (lines_of from.0.before from.0.entry)
    line_of = decision_put channel from.0.before from.0.entry x from.2 put

    by : (v : Written) × In v c.written × In (departure_line departure x.message.id) (lines_of v.before v.entry)
    by = written_in known apart c accounted.agreed.0.0 accounted.agreed.1 (departure_line departure x.message.id) told
