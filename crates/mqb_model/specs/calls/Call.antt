-- The calls of a manager that knows its peers, and what each of them comes to.
use Rattle.std.specs.Prelude.{Bool, Err, List, Result, false, is_err, not, ℕ}
use Rattle.mqb_base.specs.declared.draft.Op.{Op}
use Rattle.mqb_base.specs.declared.draft.Parts.{Parts}
use Rattle.mqb_base.specs.declared.heard.Heard as arrivals
use Rattle.mqb_base.specs.declared.ids.MessageId.{MessageId}
use Rattle.mqb_base.specs.declared.message.Message.{Message}
use Rattle.mqb_base.specs.declared.queues.Place.{Place}
use Rattle.mqb_base.specs.declared.queues.QueuePlan.{QueuePlan}
use Rattle.mqb_packet.specs.declared.packet.Packet.{Packet}
use Rattle.mqb_model.specs.calls.Commit.{commit}
use Rattle.mqb_model.specs.calls.CreateQueue.{create_queue}
use Rattle.mqb_model.specs.calls.Link.{resend}
use Rattle.mqb_model.specs.calls.Purge.{purge}
use Rattle.mqb_model.specs.calls.Send.{send}
use Rattle.mqb_model.specs.calls.SetRoll.{set_to}
use Rattle.mqb_model.specs.calls.Take.{take_message}
use Rattle.mqb_model.specs.calls.Tick.{tick}
use Rattle.mqb_model.specs.calls.hear.Hear.{hear}
use Rattle.mqb_model.specs.calls.pump.Pump.{pump}
use Rattle.mqb_model.specs.declared.answers.Done.{Done}
use Rattle.mqb_model.specs.declared.answers.Ticked as ticks
use Rattle.mqb_model.specs.declared.faults.CommitFault.{CommitFault}
use Rattle.mqb_model.specs.declared.faults.CommitFault.TheVariants as commits
use Rattle.mqb_model.specs.declared.faults.CreateFault.{CreateFault}
use Rattle.mqb_model.specs.declared.faults.CreateFault.TheVariants as creates
use Rattle.mqb_model.specs.declared.faults.HearFault.{HearFault}
use Rattle.mqb_model.specs.declared.faults.PumpFault.{PumpFault}
use Rattle.mqb_model.specs.declared.faults.PurgeFault.{PurgeFault}
use Rattle.mqb_model.specs.declared.faults.PurgeFault.TheVariants as purges
use Rattle.mqb_model.specs.declared.faults.SendFault.{SendFault}
use Rattle.mqb_model.specs.declared.faults.SendFault.TheVariants as sends
use Rattle.mqb_model.specs.declared.faults.StoreFault.{StoreFault}
use Rattle.mqb_model.specs.declared.faults.StoreFault.TheVariants as stores
use Rattle.mqb_model.specs.declared.faults.TakeFault.{TakeFault}
use Rattle.mqb_model.specs.declared.faults.TakeFault.TheVariants as takes
use Rattle.mqb_model.specs.managers.Manager.{Manager, is_down}
use Rattle.mqb_model.specs.managers.Outcomes.{Outcome, answering}
use Rattle.mqb_model.specs.records.Record.{Setting}

-- what a manager is asked for by those whom it serves, which has nothing to do with packets
pub data Request : Type 0 where
  CreateQueue : QueuePlan → Request
  Set : Setting → Request
  Commit : (now : ℕ) → List Op → Request
  Send : (now : ℕ) → (recoverable : Bool) → Parts → Request
  Take : (now : ℕ) → Place → Request
  Purge : (now : ℕ) → Place → Request
  Tick : (now : ℕ) → Request

-- one call
pub data Call : Type 0 where
  Asks : Request → Call
  Resend : Call
  -- its state is written anew, in place of its records
  Checkpoint : Call
  Pump : (now : ℕ) → Call
  Hear : (now : ℕ) → Packet → Call

-- what one answers
pub data Answer : Type 0 where
  Created : Result ℕ CreateFault → Answer
  WasSet : Result (Unit {0}) StoreFault → Answer
  Committed : Result (List Done) CommitFault → Answer
  Sent : Result MessageId SendFault → Answer
  Took : Result Message TakeFault → Answer
  Purged : Result ℕ PurgeFault → Answer
  Ticked : Result ticks.Ticked StoreFault → Answer
  Resent : Answer
  Rewritten : Answer
  Pumped : Result ℕ PumpFault → Answer
  Heard : Result arrivals.Heard HearFault → Answer

-- whether it says why the call was refused
abbrev pub is_refusal : Answer → Bool
is_refusal (Created r) = is_err r
is_refusal (WasSet r) = is_err r
is_refusal (Committed r) = is_err r
is_refusal (Sent r) = is_err r
is_refusal (Took r) = is_err r
is_refusal (Purged r) = is_err r
is_refusal (Ticked r) = is_err r
is_refusal Resent = false
is_refusal Rewritten = false
is_refusal (Pumped r) = is_err r
is_refusal (Heard r) = is_err r

-- what a manager that is down answers to a request
abbrev pub down_answer : Request → Answer
down_answer (CreateQueue plan) = Created (Err creates.Down)
down_answer (Set setting) = WasSet (Err stores.Down)
down_answer (Commit now ops) = Committed (Err commits.Down)
down_answer (Send now recoverable parts) = Sent (Err sends.Down)
down_answer (Take now place) = Took (Err takes.Down)
down_answer (Purge now place) = Purged (Err purges.Down)
down_answer (Tick now) = Ticked (Err stores.Down)

-- an outcome, with its answer as one of these
abbrev pub answered : {A : Type 0} → (A → Answer) → Outcome A → Outcome Answer
answered says outcome = record {
  answer = says outcome.answer;
  touches = outcome.touches;
  entry = outcome.entry;
  beside = outcome.beside;
  rest = outcome.rest;
  packets = outcome.packets;
}

-- what a request comes to
abbrev pub requested : Manager → Request → Outcome Answer
requested m (CreateQueue plan) = answered Created (create_queue m plan)
requested m (Set setting) = answered WasSet (set_to m setting)
requested m (Commit now ops) = answered Committed (commit m ops now)
requested m (Send now recoverable parts) = answered Sent (send m parts recoverable now)
requested m (Take now place) = answered Took (take_message m place now)
requested m (Purge now place) = answered Purged (purge m place now)
requested m (Tick now) = answered Ticked (tick m now)

-- A checkpoint where nothing stands against it but that the manager is down: the disk is called,
-- and no record is written.
abbrev pub rewriting : Manager → Outcome Answer
rewriting m = record (answering m Rewritten) { touches = not (is_down m) }

-- what a call comes to
abbrev pub outcome_of : Manager → Call → Outcome Answer
outcome_of m (Asks request) = requested m request
outcome_of m Resend = answered (λ done. Resent) (resend m)
outcome_of m Checkpoint = rewriting m
outcome_of m (Pump now) = answered Pumped (pump m now)
outcome_of m (Hear now p) = answered Heard (hear m p now)
