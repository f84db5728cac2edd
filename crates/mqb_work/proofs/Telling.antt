-- One step, and what is written of it.
use Rattle.std.proofs.Common.{inl, inr, refl, sym}
use Rattle.std.specs.Prelude.{◌≡◌, ◌≢◌, Err, List, MatchResult, Ok, Option, Result, ℕ}
use Rattle.mqb_base.specs.declared.ids.Identity.{Identity}
use Rattle.mqb_commands.proofs.Answering.{up_after, up_same}
use Rattle.mqb_commands.specs.lemmas.Taking.{took_none}
use Rattle.mqb_manager.specs.Calls.{Ends}
use Rattle.mqb_manager.specs.States.{IsUp, ManagerState}
use Rattle.mqb_model.specs.declared.faults.CommitFault.TheVariants as fault
use Rattle.mqb_model.specs.managers.Outcomes.{Outcome}
use Rattle.mqb_outside.specs.Faults.{Rose}
use Rattle.mqb_outside.specs.Told.{Took}
use Rattle.mqb_worker.specs.declared.telling.Step.TheVariants as step
use Rattle.mqb_work.specs.Causes.{DiskFaultHasCause, FailsAsSaid, WriteFaultHasCause}
use Rattle.mqb_work.specs.Lines.{Answer, turn_line}
use Rattle.mqb_work.specs.Turns.{TellsTurn, end_by}
use Rattle.mqb_work.specs.declared.status.WorkStatus.{WorkStatus}
use Rattle.mqb_work.specs.declared.status.WorkStatus.TheVariants as status

-- A step that does not fail leaves the manager up.

pub up_behind : {V E : Type 0} (memory broken : E) (m n : ManagerState) (o : Outcome (Result V E)) (r : Result V E) → Ends memory broken m n o r → IsUp m → r ≢ Err broken → IsUp n
up_behind memory broken m n o r (inl went) up whole = up_after m n o went.1 up
up_behind memory broken m n o r (inr (inl wants)) up whole = up_same m n wants.1 up
up_behind memory broken m n o r (inr (inr breaks)) up whole = absurd (whole breaks.0)

-- The disk failed exactly where it says so.
pub fails_as_said : (a b : ℕ) (r : Answer) → (r ≡ Err fault.DiskFault → Rose a b) → ((r ≡ Err fault.DiskFault → ⊥) → b ≡ a) → FailsAsSaid a b r
fails_as_said a b (Err fault.DiskFault) rose stayed = rose refl
fails_as_said a b (Ok done) rose stayed = stayed (λ same. let none : ⊥ = cc in none)
fails_as_said a b (Err fault.Down) rose stayed = stayed (λ same. let none : ⊥ = cc in none)
fails_as_said a b (Err fault.NoOps) rose stayed = stayed (λ same. let none : ⊥ = cc in none)
fails_as_said a b (Err fault.TooManyOps) rose stayed = stayed (λ same. let none : ⊥ = cc in none)
fails_as_said a b (Err (fault.AtOp index why)) rose stayed = stayed (λ same. let none : ⊥ = cc in none)
fails_as_said a b (Err fault.NumbersSpent) rose stayed = stayed (λ same. let none : ⊥ = cc in none)
fails_as_said a b (Err fault.TooLarge) rose stayed = stayed (λ same. let none : ⊥ = cc in none)
fails_as_said a b (Err fault.Memory) rose stayed = stayed (λ same. let none : ⊥ = cc in none)

-- What is written.

module _ (hosts : List Identity) (before after : Option (List ℕ)) where
  -- the line, and then the program goes on or ends
  pub tells_end : (answer : Answer) → answer ≢ Err fault.Memory → Took before after (turn_line hosts answer) → TellsTurn hosts answer before after (end_by answer)
  tells_end (Ok step.Idle) not took = (refl, took)
  tells_end (Ok (step.Done id reply)) not took = (refl, took)
  tells_end (Err fault.Down) not took = (refl, took)
  tells_end (Err fault.NoOps) not took = (refl, took)
  tells_end (Err fault.TooManyOps) not took = (refl, took)
  tells_end (Err (fault.AtOp index why)) not took = (refl, took)
  tells_end (Err fault.NumbersSpent) not took = (refl, took)
  tells_end (Err fault.TooLarge) not took = (refl, took)
  tells_end (Err fault.Memory) not took = absurd (not refl)
  tells_end (Err fault.DiskFault) not took = (refl, took)

-- The output did not fail, and no step says that it did.
pub end_write : (a b : ℕ) (answer : Answer) → b ≡ a → MatchResult (end_by answer) (λ _. b ≡ a) (WriteFaultHasCause a b)
end_write a b (Ok step.Idle) same = tt
end_write a b (Ok (step.Done id reply)) same = same
end_write a b (Err fault.Down) same = tt
end_write a b (Err fault.NoOps) same = tt
end_write a b (Err fault.TooManyOps) same = tt
end_write a b (Err (fault.AtOp index why)) same = tt
end_write a b (Err fault.NumbersSpent) same = tt
end_write a b (Err fault.TooLarge) same = tt
end_write a b (Err fault.Memory) same = tt
end_write a b (Err fault.DiskFault) same = tt

-- nothing, where the disk failed
pub tells_broken : (hosts : List Identity) (taken : Option (List ℕ)) → TellsTurn hosts (Err fault.DiskFault) taken taken (Err status.DiskFault)
tells_broken hosts taken = (refl, took_none taken)

-- a program that goes on has written a line
pub goes_on_so : (hosts : List Identity) (answer : Answer) (before after : Option (List ℕ)) (done : Unit {0}) → TellsTurn hosts answer before after (Ok done) → end_by answer ≡ Ok tt
goes_on_so hosts answer before after done told = sym told.0

-- Counts of faults.

same_faults : (a b : ℕ) (answer : Answer) → end_by answer ≡ Ok tt → FailsAsSaid a b answer → b ≡ a
same_faults a b (Ok step.Idle) goes said = said
same_faults a b (Ok (step.Done id reply)) goes said = said
same_faults a b (Err fault.DiskFault) goes said = let none : ⊥ = cc in absurd none
same_faults a b (Err fault.Down) goes said = said
same_faults a b (Err fault.NoOps) goes said = said
same_faults a b (Err fault.TooManyOps) goes said = said
same_faults a b (Err (fault.AtOp index why)) goes said = said
same_faults a b (Err fault.NumbersSpent) goes said = said
same_faults a b (Err fault.TooLarge) goes said = said
same_faults a b (Err fault.Memory) goes said = said

broken_faults : (a b : ℕ) (answer : Answer) → Err status.DiskFault ≡ end_by answer → FailsAsSaid a b answer → Rose a b
broken_faults a b (Ok step.Idle) same said = let none : ⊥ = cc in absurd none
broken_faults a b (Ok (step.Done id reply)) same said = let none : ⊥ = cc in absurd none
broken_faults a b (Err fault.DiskFault) same said = said
broken_faults a b (Err fault.Down) same said = let none : ⊥ = cc in absurd none
broken_faults a b (Err fault.NoOps) same said = let none : ⊥ = cc in absurd none
broken_faults a b (Err fault.TooManyOps) same said = let none : ⊥ = cc in absurd none
broken_faults a b (Err (fault.AtOp index why)) same said = let none : ⊥ = cc in absurd none
broken_faults a b (Err fault.NumbersSpent) same said = let none : ⊥ = cc in absurd none
broken_faults a b (Err fault.TooLarge) same said = let none : ⊥ = cc in absurd none
broken_faults a b (Err fault.Memory) same said = let none : ⊥ = cc in absurd none

pub disk_behind : (hosts : List Identity) (a b : ℕ) (answer : Answer) (before after : Option (List ℕ)) (r : Result (Unit {0}) WorkStatus)
    → TellsTurn hosts answer before after r → FailsAsSaid a b answer → MatchResult r (λ _. b ≡ a) (DiskFaultHasCause a b)
disk_behind hosts a b answer before after (Ok done) told said = same_faults a b answer (sym told.0) said
disk_behind hosts a b answer before after (Err status.DiskFault) told said = broken_faults a b answer told.0 said
disk_behind hosts a b answer before after (Err status.Done) told said = tt
disk_behind hosts a b answer before after (Err status.Usage) told said = tt
disk_behind hosts a b answer before after (Err status.WriteFault) told said = tt
disk_behind hosts a b answer before after (Err (status.BadStore at)) told said = tt
disk_behind hosts a b answer before after (Err status.Memory) told said = tt
disk_behind hosts a b answer before after (Err status.Refused) told said = tt

-- where the disk did not fail, the manager is up
pub up_unless : {P : Type 0} (answer : Answer) (r : Result (Unit {0}) WorkStatus) → (answer ≡ Err fault.DiskFault → r ≡ Err status.DiskFault)
    → (answer ≢ Err fault.DiskFault → P) → r ≢ Err status.DiskFault → P
up_unless answer r stops up plain = up (λ is. plain (stops is))
