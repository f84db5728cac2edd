-- What a request is to a manager and its disk.
use Rattle.std.specs.Prelude.{[], ◌≡◌, Bool, Err, IfSome, IsOk, List, None, Ok, Result, true}
use Rattle.std.specs.Result.{result_and}
use Rattle.mqb_base.specs.declared.ledger.Line.{Line}
use Rattle.mqb_manager.specs.Calls.{IsCall}
use Rattle.mqb_manager.specs.States.{ManagerState}
use Rattle.mqb_model.specs.calls.Call.{Answer, Request, requested}
use Rattle.mqb_model.specs.managers.Manager.{Manager}
use Rattle.mqb_model.specs.managers.Outcomes.{Outcome}
use Rattle.mqb_outside.specs.Disk.{Counted, View}
use Rattle.mqb_manager.specs.mqb_store_laws.Checkpoints.{checkpoint}
use Rattle.mqb_replies.specs.Replies.{checkpoint_reply}
use Rattle.mqb_replies.specs.Requests.{is_done, reply_of}
use Rattle.mqb_replies.specs.declared.faults.AnswerFault.{AnswerFault}
use Rattle.mqb_replies.specs.declared.faults.AnswerFault.TheVariants as fault

-- an answer that has a reply, or the fault of the machine that it tells
abbrev pub faulted : Answer → Result Answer AnswerFault
faulted a = result_and (reply_of a []) (Ok a)

-- an outcome with what is told of its answer
abbrev pub told_as : {A B : Type 0} → Outcome A → B → Outcome B
told_as o told = record {
  answer = told;
  touches = o.touches;
  entry = o.entry;
  beside = o.beside;
  rest = o.rest;
  packets = o.packets;
}

-- with its fault apart
abbrev pub faulting : Outcome Answer → Outcome (Result Answer AnswerFault)
faulting o = told_as o (faulted o.answer)

-- A request was made that comes to this, from before it to behind it. `kept` says that
-- the disk is as it was.
pub record IsAsked (d e : View) (kept : Type 0) (m n : ManagerState) (o : Outcome Answer)
    (a : Answer) : Type 0 where
  pub call : IsCall fault.Memory fault.DiskFault d e m n (faulting o) (faulted a)
  -- where no record is written the disk is not called, and a record is four calls of it
  pub untouched : o.entry ≡ None → kept
  pub memory : faulted a ≡ Err fault.Memory → kept
  pub calls : is_done a ≡ true → IfSome o.entry (λ _. Counted 4 d.calls e.calls)

-- No definition answers a fault of the machine: there is a reply to what each request comes to.
abbrev pub RequestsAreReplied : Type 0
RequestsAreReplied = (m : Manager) (request : Request) (lines : List Line)
    → IsOk (reply_of (requested m request).answer lines)

-- Nor does the one of a checkpoint.
abbrev pub CheckpointsAreReplied : Type 0
CheckpointsAreReplied =
    (m : Manager) (far : Bool) → IsOk (checkpoint_reply (checkpoint m far).answer)
