-- Over every list of calls in which only steps take from a queue, each message that is taken from
-- it is answered in the record that takes it.
use Rattle.std.specs.List.{AllByRecursion, list_any}
use Rattle.std.specs.Option.{option_map_or}
use Rattle.std.specs.Prelude.{[], ◌++◌, ◌==◌, ◌∷◌, ◌≡◌, Bool, IfSome, List, None, Option, Some}
use Rattle.std.specs.Prelude.{false, fold, if◌then◌else◌, true, ℕ}
use Rattle.mqb_base.specs.declared.message.Message.{Message}
use Rattle.mqb_base.specs.declared.queues.EntryPlace.TheVariants as place
use Rattle.mqb_plain.specs.Plain.{PlainLists}
use Rattle.mqb_model.specs.calls.Messages.{message_for}
use Rattle.mqb_model.specs.managers.Manager.{Manager, Rest, doubt_of, is_down}
use Rattle.mqb_model.specs.managers.Outcomes.{Outcome, failed, succeeded}
use Rattle.mqb_model.specs.managers.Restarts.{restarted}
use Rattle.mqb_model.specs.records.Packets.{packet_to}
use Rattle.mqb_model.specs.records.Record.{Commit, Record, RecordOp, Send, Take, Taken}
use Rattle.mqb_model.specs.state.Resolving.{queue_named, resolved}
use Rattle.mqb_model.specs.state.State.{State}
use Rattle.mqb_worker.specs.Steps.{stepped}
use Rattle.mqb_worker.specs.Work.{reply_to, waiting_in}

-- The record of a worker.

-- the op by which a reply is sent, where a message asks for one
abbrev pub reply_ops : State → (List ℕ → List ℕ) → (now : ℕ) → Message → List RecordOp
reply_ops s h now m = option_map_or
    (λ to. Send (packet_to s (resolved s to) (message_for s now (reply_to h m to))) ∷ []) m.response
    []

-- In the state that it met a record takes the first message of the queue that is not due, sends the
-- reply to it, where it asks for one, and does nothing else.
pub record IsWork (name : List ℕ) (h : List ℕ → List ℕ) (s : State) (r : Record) : Type 0 where
  pub now : ℕ
  pub number : ℕ
  pub message : Message
  pub queue : queue_named s name ≡ Some number
  pub first : waiting_in s name now ≡ Some message
  pub work : r ≡ Commit now (Take number message.id ∷ reply_ops s h now message)

-- Records that take.

-- an op takes from the queue of a number
abbrev pub is_take_of : Option ℕ → RecordOp → Bool
is_take_of (Some number) (Take queue id) = queue == number
is_take_of _ _ = false

-- in the state that it meets a record takes from the queue
abbrev pub takes_from : State → (name : List ℕ) → Record → Bool
takes_from s name (Commit now ops) = list_any (is_take_of (queue_named s name)) ops
takes_from s name (Taken now (place.Queue queue) id) =
    is_take_of (queue_named s name) (Take queue id)
takes_from s name _ = false

-- Calls, one after another.

-- a record that a store got, and the state that it met
pub record Written : Type 0 where
  pub before : State
  pub entry : Record

-- a manager in its course, and the records that its store got
pub record Course : Type 0 where
  pub manager : Manager
  pub written : List Written

-- how a call ends: as its definition says, or memory runs out and nothing changes, or the disk
-- fails under its record
pub data End : Type 0 where
  Well : End
  Wanting : End
  Failing : End

-- What is done with a manager.
pub data Deed : Type 0 where
  -- the worker makes a step
  Steps : (now : ℕ) → End → Deed
  -- another call is made, which comes to this
  Calls : Outcome (Unit {0}) → End → Deed
  -- Its connection begins, ends or sends anew, of one that is down too: marks of plain messages
  -- change, and what is known of a connection.
  Connects : List PlainLists → Rest → Deed
  -- it is started again over what its disk left: with the record in doubt, or without
  Restarts : (kept : Bool) → Deed

-- the record of a manager, where there is one
abbrev pub written_of : Manager → Option Record → List Written
written_of m r = option_map_or (λ r. record { before = m.state; entry = r } ∷ []) r []

-- a record joins those that the store got
abbrev pub joined : Course → Option Record → Manager → Course
joined c r after = record { manager = after; written = c.written ++ written_of c.manager r }

-- a call of a manager that is up
abbrev pub ended : {A : Type 0} → Course → Outcome A → End → Course
ended c o Well = joined c o.entry (succeeded c.manager o)
ended c o Wanting = c
ended c o Failing = joined c None (failed c.manager o)

-- one that is down makes no call
abbrev pub called : {A : Type 0} → Course → Outcome A → End → Course
called c o end = if is_down c.manager then c else ended c o end

-- a manager with other marks, and other things known of a connection
abbrev pub connected : Manager → List PlainLists → Rest → Manager
connected m plain rest = record m { state = record m.state { plain = plain }; rest = rest }

-- the record in doubt, where it is found kept
abbrev pub found : Manager → (kept : Bool) → Option Record
found m kept = if kept then doubt_of m.condition else None

abbrev pub after_deed : (name : List ℕ) → (List ℕ → List ℕ) → Course → Deed → Course
after_deed name h c (Steps now end) = called c (stepped c.manager name h now) end
after_deed name h c (Calls o end) = called c o end
after_deed name h c (Connects plain rest) = joined c None (connected c.manager plain rest)
after_deed name h c (Restarts kept) = joined c (found c.manager kept) (restarted c.manager kept)

abbrev pub after_deeds : (name : List ℕ) → (List ℕ → List ℕ) → Course → List Deed → Course
after_deeds name h c deeds = fold (after_deed name h) c deeds

-- no record is in doubt, and none was written yet
abbrev pub beginning : Manager → Course
beginning m = record { manager = m; written = [] }

-- The premise: only steps take.

-- a call that is no step takes nothing from the queue
abbrev pub TakesNothing : (name : List ℕ) → Manager → Deed → Type 0
TakesNothing name m (Calls o end) = IfSome o.entry (λ r. takes_from m.state name r ≡ false)
TakesNothing name m _ = Unit {0}

-- so it is of each
abbrev pub OnlyStepsTake : (name : List ℕ) → (List ℕ → List ℕ) → Course → List Deed → Type 0
OnlyStepsTake name h c [] = Unit {0}
OnlyStepsTake name h c (deed ∷ deeds) =
    TakesNothing name c.manager deed × OnlyStepsTake name h (after_deed name h c deed) deeds

-- The law.

-- what takes from the queue is a worker's record
abbrev pub AnswersTaken : (name : List ℕ) → (List ℕ → List ℕ) → Written → Type 0
AnswersTaken name h w = takes_from w.before name w.entry ≡ true → IsWork name h w.before w.entry

pub record EachTakenIsAnswered : Type 0 where
  -- each record of a step is a worker's
  pub steps : (name : List ℕ) (h : List ℕ → List ℕ) (m : Manager) (now : ℕ)
      → IfSome (stepped m name h now).entry (IsWork name h m.state)
  -- and so is each record that takes from the queue, from a manager that has nothing in doubt on
  pub taken : (name : List ℕ) (h : List ℕ → List ℕ) (m : Manager) (deeds : List Deed)
      → doubt_of m.condition ≡ None
      → OnlyStepsTake name h (beginning m) deeds
      → AllByRecursion (AnswersTaken name h) (after_deeds name h (beginning m) deeds).written
