-- What a call of a store command comes to.
use Rattle.std.specs.Prelude.{IsOk, Result, ℕ}
use Rattle.mqb_answers.specs.Told.{answer_told, peer_told}
use Rattle.mqb_answers.specs.declared.told.Told.{Told}
use Rattle.mqb_model.specs.calls.AddPeer.{add_peer}
use Rattle.mqb_model.specs.calls.Call.{Commit, CreateQueue, Purge, Request, Send, Set, Take}
use Rattle.mqb_model.specs.calls.Call.{Tick, requested}
use Rattle.mqb_model.specs.managers.Manager.{Manager}
use Rattle.mqb_model.specs.managers.Outcomes.{Outcome, lines_after}
use Rattle.mqb_model.specs.records.Record.{Roll}
use Rattle.mqb_replies.specs.Asked.{told_as}
use Rattle.mqb_replies.specs.declared.faults.AnswerFault.{AnswerFault}
use Rattle.mqb_words.specs.declared.commands.Call.{Call}
use Rattle.mqb_words.specs.declared.commands.Call.TheVariants as call

-- what is told of a call's answer
abbrev pub told_by : {A : Type 0} → (A → Result Told AnswerFault) → Outcome A
    → Outcome (Result Told AnswerFault)
told_by told o = told_as o (told o.answer)

-- what a request comes to, told with the lines of its record
abbrev pub asked_told : Manager → Request → Outcome (Result Told AnswerFault)
asked_told m request =
    told_by (λ a. answer_told a (lines_after m (requested m request))) (requested m request)

-- what a manager's call comes to at a moment
abbrev pub outcome_of : Call → Manager → ℕ → Outcome (Result Told AnswerFault)
outcome_of (call.AddPeer peer) m now = told_by peer_told (add_peer m peer)
outcome_of (call.CreateQueue plan) m now = asked_told m (CreateQueue plan)
outcome_of (call.Send recoverable draft) m now = asked_told m (Send now recoverable draft)
outcome_of (call.Commit ops) m now = asked_told m (Commit now ops)
outcome_of (call.Take place) m now = asked_told m (Take now place)
outcome_of (call.Purge place) m now = asked_told m (Purge now place)
outcome_of call.Tick m now = asked_told m (Tick now)
outcome_of (call.SetRoll count) m now = asked_told m (Set (Roll count))

-- No definition answers a fault of the machine: of each there is something to tell.
abbrev pub OutcomesAreTold : Type 0
OutcomesAreTold = (asked : Call) (m : Manager) (now : ℕ) → IsOk (outcome_of asked m now).answer
