-- Small runs of alpha and beta.
use Rattle.std.specs.Prelude.{[], ◌∷◌, List, Result, Some, codes, false, true, ℕ}
use Rattle.mqb_base.specs.declared.bits.TheConstants.{DEAD_LETTER, POSITIVE_ARRIVAL}
use Rattle.mqb_base.specs.declared.draft.Op.{Op}
use Rattle.mqb_base.specs.declared.draft.Op.TheVariants as asked
use Rattle.mqb_base.specs.declared.draft.Parts.{Parts}
use Rattle.mqb_base.specs.declared.ids.MessageId.{MessageId}
use Rattle.mqb_base.specs.declared.message.Message.{Message}
use Rattle.mqb_base.specs.declared.queues.Place.TheVariants as named
use Rattle.mqb_base.specs.declared.times.TheConstants.{UNLIMITED}
use Rattle.mqb_model.specs.calls.Commit.{commit}
use Rattle.mqb_model.specs.calls.Purge.{purge}
use Rattle.mqb_model.specs.calls.Send.{send}
use Rattle.mqb_model.specs.calls.SetRoll.{set_roll}
use Rattle.mqb_model.specs.calls.Take.{take_message}
use Rattle.mqb_model.specs.calls.Tick.{tick}
use Rattle.mqb_model.specs.calls.hear.Hear.{hear}
use Rattle.mqb_model.specs.calls.hear.Session.{HeardOutcome}
use Rattle.mqb_model.specs.calls.pump.Pump.{PumpOutcome, pump}
use Rattle.mqb_model.specs.declared.answers.Done.{Done}
use Rattle.mqb_model.specs.declared.answers.Ticked.{Ticked}
use Rattle.mqb_model.specs.declared.faults.CommitFault.{CommitFault}
use Rattle.mqb_model.specs.declared.faults.PurgeFault.{PurgeFault}
use Rattle.mqb_model.specs.declared.faults.SendFault.{SendFault}
use Rattle.mqb_model.specs.declared.faults.StoreFault.{StoreFault}
use Rattle.mqb_model.specs.declared.faults.TakeFault.{TakeFault}
use Rattle.mqb_model.specs.managers.Manager.{Manager}
use Rattle.mqb_model.specs.managers.Outcomes.{Outcome, failed, succeeded}
use Rattle.mqb_model.specs.runs.Samples.{alpha, beta, manager_of, orders, own_notes, packet_at}
use Rattle.mqb_model.specs.runs.Samples.{parts_of, plan, queue_at, ready}
use Rattle.mqb_model.specs.runs.Samples.{remote_notes, with_queue_of}

-- Alpha commits one message to orders, and beta has that queue.

-- one message in a transaction
abbrev pub one_order : List Op
one_order = asked.Send (parts_of orders UNLIMITED 0 (codes "one")) ∷ []

-- it is committed
abbrev pub one_commit : Outcome (Result (List Done) CommitFault)
one_commit = commit (manager_of alpha beta) one_order 1000

-- alpha has it, in a session with beta
abbrev pub committed_alpha : Manager
committed_alpha = ready (succeeded (manager_of alpha beta) one_commit) beta

-- alpha sends it
abbrev pub order_pump : PumpOutcome
order_pump = pump committed_alpha 1001

-- beta has the queue, in a session with alpha
abbrev pub receiving_beta : Manager
receiving_beta =
    ready (with_queue_of (manager_of beta alpha) (plan (codes "orders") true 100 false)) alpha

-- beta hears it
abbrev pub order_heard : HeardOutcome
order_heard = hear receiving_beta (packet_at order_pump 0) 1002

-- beta has put it
abbrev pub put_beta : Manager
put_beta = succeeded receiving_beta order_heard

-- beta acknowledges it
abbrev pub ack_pump : PumpOutcome
ack_pump = pump put_beta 1003

-- alpha hears that
abbrev pub ack_heard_by_alpha : HeardOutcome
ack_heard_by_alpha = hear (succeeded committed_alpha order_pump) (packet_at ack_pump 0) 1004

-- beta takes it in a transaction
abbrev pub order_taken : Outcome (Result (List Done) CommitFault)
order_taken = commit put_beta (asked.Take (codes "Orders") ∷ []) 1005

-- Alpha has a queue with a journal, sends itself a message, takes it, and purges the copy.

-- the queue
abbrev pub with_notes : Manager
with_notes = with_queue_of (manager_of alpha beta) (plan (codes "notes") false 1 true)

-- the message is sent
abbrev pub note_sent : Outcome (Result MessageId SendFault)
note_sent = send with_notes (parts_of own_notes UNLIMITED 0 (codes "hi")) true 1000

-- and is put there
abbrev pub noting_alpha : Manager
noting_alpha = succeeded with_notes note_sent

-- it is taken, by the queue's name in other letters
abbrev pub note_taken : Outcome (Result Message TakeFault)
note_taken = take_message noting_alpha (named.Queue (codes "NOTES")) 1001

-- and has left
abbrev pub taken_alpha : Manager
taken_alpha = succeeded noting_alpha note_taken

-- the journal is purged
abbrev pub copy_purged : Outcome (Result ℕ PurgeFault)
copy_purged = purge taken_alpha (named.JournalOf (codes "notes")) 1002

-- Alpha sends beta a recoverable message, and beta has no queue for it.

-- the message
abbrev pub bounce_sent : Outcome (Result MessageId SendFault)
bounce_sent =
    send (manager_of alpha beta) (parts_of remote_notes UNLIMITED 0 (codes "hi")) true 1000

-- alpha has it, in a session with beta
abbrev pub waiting_alpha : Manager
waiting_alpha = ready (succeeded (manager_of alpha beta) bounce_sent) beta

-- alpha sends it
abbrev pub bounce_pump : PumpOutcome
bounce_pump = pump waiting_alpha 1001

-- beta has no queue, and a session with alpha
abbrev pub empty_beta : Manager
empty_beta = ready (manager_of beta alpha) alpha

-- beta hears it
abbrev pub bounce_heard : HeardOutcome
bounce_heard = hear empty_beta (packet_at bounce_pump 0) 1002

-- beta says that it has stored it
abbrev pub storage_pump : PumpOutcome
storage_pump = pump (succeeded empty_beta bounce_heard) 1003

-- alpha hears that
abbrev pub storage_heard : HeardOutcome
storage_heard = hear (succeeded waiting_alpha bounce_pump) (packet_at storage_pump 0) 1004

-- Alpha commits a message with the dead-letter bit, and beta refuses it.

-- it is committed
abbrev pub dead_commit : Outcome (Result (List Done) CommitFault)
dead_commit = commit (manager_of alpha beta)
    (asked.Send (parts_of orders UNLIMITED DEAD_LETTER (codes "one")) ∷ []) 1000

-- alpha has it, in a session with beta
abbrev pub dead_alpha : Manager
dead_alpha = ready (succeeded (manager_of alpha beta) dead_commit) beta

-- alpha sends it
abbrev pub dead_pump : PumpOutcome
dead_pump = pump dead_alpha 1001

-- beta hears it
abbrev pub refusal_heard : HeardOutcome
refusal_heard = hear empty_beta (packet_at dead_pump 0) 1002

-- beta has refused it
abbrev pub refusing_beta : Manager
refusing_beta = succeeded empty_beta refusal_heard

-- beta's order acknowledgement and its final one go
abbrev pub final_pump : PumpOutcome
final_pump = pump refusing_beta 1003

-- alpha hears the order acknowledgement
abbrev pub acked_dead_alpha : Manager
acked_dead_alpha =
    let before = succeeded dead_alpha dead_pump in
    succeeded before (hear before (packet_at final_pump 0) 1004)

-- and the final one
abbrev pub final_heard : HeardOutcome
final_heard = hear acked_dead_alpha (packet_at final_pump 1) 1005

-- Of three messages of a transaction the second expires, and the others go.

-- the second is to be there in ten seconds
abbrev pub three_orders : List Op
three_orders = asked.Send (parts_of orders UNLIMITED 0 (codes "one"))
    ∷ asked.Send (parts_of orders 10 DEAD_LETTER (codes "two"))
    ∷ asked.Send (parts_of orders UNLIMITED 0 (codes "three")) ∷ []

-- they are committed
abbrev pub three_alpha : Manager
three_alpha = succeeded (manager_of alpha beta) (commit (manager_of alpha beta) three_orders 1000)

-- ten seconds later
abbrev pub ten_later : Outcome (Result Ticked StoreFault)
ten_later = tick three_alpha 1010

-- what is left
abbrev pub expired_alpha : Manager
expired_alpha = ready (succeeded three_alpha ten_later) beta

-- goes
abbrev pub rest_pump : PumpOutcome
rest_pump = pump expired_alpha 1010

-- Had all three been offered before, none would be due.
abbrev pub offered_alpha : Manager
offered_alpha = succeeded (ready three_alpha beta) (pump (ready three_alpha beta) 1001)

-- Sequences are full with two messages.

-- alpha is told so
abbrev pub rolling_alpha : Manager
rolling_alpha = succeeded (manager_of alpha beta) (set_roll (manager_of alpha beta) 2)

-- and commits three messages
abbrev pub rolling_commit : Outcome (Result (List Done) CommitFault)
rolling_commit = commit rolling_alpha three_orders 1000

-- An express message to a queue here is there until a restart.

-- it is sent
abbrev pub express_note : Outcome (Result MessageId SendFault)
express_note = send with_notes (parts_of own_notes UNLIMITED 0 (codes "hi")) false 1000

-- it is there
abbrev pub express_alpha : Manager
express_alpha = succeeded with_notes express_note

-- Alpha sends itself a message that asks for a notice at a queue that leads nowhere.

-- what its sender chooses
abbrev pub asking_parts : Parts
asking_parts = record (parts_of own_notes UNLIMITED 0 (codes "hi")) {
  admin = Some (queue_at (codes "gamma") (codes "replies"));
  ack = POSITIVE_ARRIVAL;
}

-- it is sent
abbrev pub asking_alpha : Manager
asking_alpha = succeeded with_notes (send with_notes asking_parts true 1000)

-- Alpha sends itself a message in a transaction that takes it.

-- the queue
abbrev pub with_box : Manager
with_box = with_queue_of (manager_of alpha beta) (plan (codes "box") true 9 false)

-- a send, and a take
abbrev pub sent_and_taken : List Op
sent_and_taken =
    asked.Send (parts_of (queue_at (codes ".") (codes "box")) UNLIMITED 0 (codes "one"))
    ∷ asked.Take (codes "box") ∷ []

-- The disk fails under the transaction.

-- alpha is down
abbrev pub stopped_alpha : Manager
stopped_alpha = failed (manager_of alpha beta) one_commit
