-- What a command says that is one call of the manager of a store, how it ends, and what
-- the disk is left as.
use Rattle.std.specs.Prelude.{[], ◌≡◌, ◌⊎◌, List, Ok, Option, ℕ}
use Rattle.mqb_answers.specs.Outcomes.{outcome_of}
use Rattle.mqb_answers.specs.Texts.{hosts_of, told_text}
use Rattle.mqb_answers.specs.declared.told.CallEnd.{CallEnd}
use Rattle.mqb_answers.specs.declared.told.CallEnd.TheVariants as call
use Rattle.mqb_answers.specs.declared.told.Told.{Told}
use Rattle.mqb_outside.specs.Disk.{View}
use Rattle.mqb_answers.specs.mqb_manager.Calls.{FailsUnder, Succeeds}
use Rattle.mqb_answers.specs.mqb_manager.States.{IsSame, IsUp, ManagerState, manager_of}
use Rattle.mqb_model.specs.managers.Outcomes.{Outcome}
use Rattle.mqb_outside.specs.Faults.{Rose}
use Rattle.mqb_commands.specs.Outputs.{IsFaultLine}
use Rattle.mqb_commands.specs.declared.status.Status.{Status}
use Rattle.mqb_commands.specs.declared.status.Status.TheVariants as status
use Rattle.mqb_words.specs.declared.commands.Call.{Call}
use Rattle.mqb_commands.specs.Opened.{IsMoment, OnStore}
use Rattle.mqb_commands.specs.Said.{FailsToOpen}

-- how the program ends whose call had an answer
abbrev pub status_of : CallEnd → Status
status_of call.Done = status.Done
status_of call.Refused = status.Refused

-- A call was made at a moment, and its answer is told. The disk, whose faults are
-- counted, did not fail.
pub record IsAnswered (asked : Call) (now faults faults_now : ℕ) (m n : ManagerState)
    (text : List ℕ) (end : CallEnd) : Type 0 where
  pub told : Told
  pub made : Succeeds m n (outcome_of asked (manager_of m) now)
  pub answer : (outcome_of asked (manager_of m) now).answer ≡ Ok told
  pub ended : told.end ≡ end
  pub said : text ≡ told_text (hosts_of n.store.state) told
  pub up : IsUp n
  pub stayed : faults_now ≡ faults

-- Memory ran out: the call was made and is not told, or it was not made. The disk did not fail.
pub record IsNotTold {A : Type 0} (outcome : Outcome A) (faults faults_now : ℕ)
    (m n : ManagerState) : Type 0 where
  pub made : Succeeds m n outcome ⊎ IsSame m n
  pub up : IsUp n
  pub stayed : faults_now ≡ faults

-- The disk failed under the call's record, which is in doubt.
pub record IsBroken {A : Type 0} (outcome : Outcome A) (faults faults_now : ℕ)
    (m n : ManagerState) : Type 0 where
  pub failed : FailsUnder m n outcome
  pub rose : Rose faults faults_now

-- A call of a manager that is open: it is answered, or the disk fails, or memory runs out.
abbrev pub CallsOn : Call → (now faults faults_now : ℕ) → (m n : ManagerState) → List ℕ → Status
    → Type 0
CallsOn asked now faults faults_now m n text r =
    ((end : CallEnd) × (r ≡ status_of end) × IsAnswered asked now faults faults_now m n text end)
    ⊎ (IsFaultLine status.DiskFault text r
    × IsBroken (outcome_of asked (manager_of m) now) faults faults_now m n)
    ⊎ ((r ≡ status.Memory) × (text ≡ [])
    × IsNotTold (outcome_of asked (manager_of m) now) faults faults_now m n)

-- A command that is one call of the manager to which the store opens, where that is opened.
abbrev pub Calls : Call → (now : ℕ) → View → View → List ℕ → Status → Type 0
Calls asked now d e text r =
    OnStore (λ m n. CallsOn asked now d.faults e.faults m n text r) d e ⊎ FailsToOpen d e text r

-- the same at the moment of a clock
pub record CallsAt (asked : Call) (steady : Option ℕ) (d e : View) (text : List ℕ)
    (r : Status) : Type 0 where
  pub now : ℕ
  pub moment : IsMoment steady now
  pub calls : Calls asked now d e text r

-- The disk did not fail, or its fault is what is said.
abbrev pub TellsFaults : (before after : ℕ) → List ℕ → Status → Type 0
TellsFaults before after text r = (after ≡ before) ⊎ IsFaultLine status.DiskFault text r
