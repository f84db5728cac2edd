-- How a call of a store command ends, and what is printed of it.
use Rattle.std.specs.Prelude.{◌++◌, ◌≡◌, ◌⊎◌, Err, IfSome, List, None, Ok, Result, ℕ}
use Rattle.mqb_answers.specs.Texts.{hosts_of, told_text}
use Rattle.mqb_answers.specs.declared.told.CallEnd.{CallEnd}
use Rattle.mqb_answers.specs.declared.told.CallEnd.TheVariants.{Done}
use Rattle.mqb_answers.specs.declared.told.Told.{Told}
use Rattle.mqb_base.specs.declared.ids.Identity.{Identity}
use Rattle.mqb_outside.specs.Disk.{Counted, View}
use Rattle.mqb_replies.specs.mqb_manager.Calls.{IsCall}
use Rattle.mqb_replies.specs.mqb_manager.States.{ManagerState}
use Rattle.mqb_model.specs.managers.Outcomes.{Outcome}
use Rattle.mqb_replies.specs.declared.faults.AnswerFault.{AnswerFault}
use Rattle.mqb_replies.specs.declared.faults.AnswerFault.TheVariants as fault

-- the call ended so, and this is what was printed of it
abbrev pub IsPrinted : List Identity → (before after : List ℕ) → CallEnd → Told → Type 0
IsPrinted hosts before after end t = (end ≡ t.end) × (after ≡ before ++ told_text hosts t)

-- What is told is printed whole, or memory runs out and nothing is.
abbrev pub Tells : List Identity → Result Told AnswerFault → (before after : List ℕ)
    → Result CallEnd AnswerFault → Type 0
Tells hosts (Ok t) before after r = ((r ≡ Ok t.end) × (after ≡ before ++ told_text hosts t))
    ⊎ ((r ≡ Err fault.Memory) × (after ≡ before))
Tells hosts (Err why) before after r = (r ≡ Err why) × (after ≡ before)

-- A call that was made and told, from before it to behind it. `kept` says that the disk is as it
-- was. Where memory runs out, the call may have been made.
pub record IsTold (d e : View) (kept : Type 0) (m n : ManagerState)
    (o : Outcome (Result Told AnswerFault)) (before after : List ℕ)
    (r : Result CallEnd AnswerFault) : Type 0 where
  -- what the manager answered, as it is told
  pub answer : Result Told AnswerFault
  pub call : IsCall fault.Memory fault.DiskFault d e m n o answer
  pub told : Tells (hosts_of n.store.state) answer before after r
  -- where no record is written the disk is not called, and a record is four calls of it
  pub untouched : o.entry ≡ None → kept
  pub memory : answer ≡ Err fault.Memory → kept
  pub calls : r ≡ Ok Done → IfSome o.entry (λ _. Counted 4 d.calls e.calls)
