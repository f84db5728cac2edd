use Rattle.mqb_journal.specs.lemmas.Carrying.{goes_on_read, goes_on_unchanged, goes_on_restarted, goes_on_refused, goes_on_stands, goes_on_gate}
use Rattle.mqb_journal.proofs.laws.journal_goes_on.Goals as goal

pub returns-clause-read : goal.returns-clause-read
returns-clause-read g c = λ base records on reads. goes_on_read _ _ c.args.journal.now base records on reads

pub returns-clause-armed : goal.returns-clause-armed
returns-clause-armed g c = λ base records on same. goes_on_unchanged _ _ c.args.journal.now base records on same

pub returns-clause-restarted : goal.returns-clause-restarted
returns-clause-restarted g c = λ base records on settled left. goes_on_restarted _ _ c.args.journal.now base records on settled left

pub returns-clause-refused : goal.returns-clause-refused
returns-clause-refused g c = λ room base records on. goes_on_refused _ c.args.journal.now room base records on

pub returns-clause-stands : goal.returns-clause-stands
returns-clause-stands g c = λ base records on. goes_on_stands _ c.args.journal.now base records on

pub returns-clause-gate : goal.returns-clause-gate
returns-clause-gate g c = λ base records on. goes_on_gate _ c.args.journal.now base records on
