-- What a store that was opened is worked to.
use Rattle.std.proofs.Common.{refl, subst}
use Rattle.std.specs.Prelude.{◌≡◌, ◌≢◌, Err, List, None, Ok, Option, Result, Some, length, ℕ}
use Rattle.mqb_answers.specs.Texts.{hosts_of}
use Rattle.mqb_base.specs.declared.ids.Identity.{Identity}
use Rattle.mqb_commands.specs.lemmas.Opening.{opened_keeps}
use Rattle.mqb_commands.specs.Opened.{IsNotOpened, OpensAs}
use Rattle.mqb_commands.specs.declared.status.Status.{Status}
use Rattle.mqb_commands.specs.declared.status.Status.TheVariants as opening
use Rattle.mqb_manager.specs.Keeping.{KeepsDisk}
use Rattle.mqb_manager.specs.States.{IsUp, ManagerState}
use Rattle.mqb_manager.specs.lemmas.Keeping.{keeping_goes_on}
use Rattle.mqb_model.specs.declared.faults.CommitFault.TheVariants as fault
use Rattle.mqb_outside.specs.Disk.{View}
use Rattle.mqb_store_laws.specs.Settling.{OnlySettles}
use Rattle.mqb_work.specs.Causes.{DiskFaultHasCause, WriteFaultHasCause}
use Rattle.mqb_work.specs.Exits.{unopened}
use Rattle.mqb_worker.specs.declared.telling.Step.TheVariants as step
use Rattle.mqb_work.specs.Lines.{Answer}
use Rattle.mqb_work.specs.Turns.{Turn, end_by}
use Rattle.mqb_work.specs.Works.{EndsWork, Works, WorksStore, status_of}
use Rattle.mqb_work.specs.declared.status.WorkStatus.{WorkStatus}
use Rattle.mqb_work.specs.declared.status.WorkStatus.TheVariants as status
use Rattle.mqb_work.specs.declared.words.Job.{Job}

up_so : {P : Type 0} (ended : Result (Unit {0}) WorkStatus) → (ended ≢ Err status.DiskFault → P) → status_of ended ≢ status.DiskFault → P
up_so (Ok done) up plain = up (λ same. let none : ⊥ = cc in none)
up_so (Err why) up plain = up (λ same. plain (let inside : why ≡ status.DiskFault = cc in inside))

-- the job was worked
pub store_worked : {job : Job} {steady : Option ℕ} {d f e : View} {m n : ManagerState} {hosts : List Identity} {before after : Option (List ℕ)}
    (ended : Result (Unit {0}) WorkStatus) → OpensAs d m → OnlySettles d f → hosts ≡ hosts_of m.store.state → Works job hosts job.count steady m n before after ended
    → KeepsDisk f e m n → (ended ≢ Err status.DiskFault → IsUp n) → WorksStore job steady d e before after (status_of ended)
store_worked {job} {steady} {d} {f} {e} {m} {n} {hosts} {before} {after} ended opened reads known works disk up = record {
  first = m;
  left = n;
  opened = opened;
  ended = ended;
  works = subst (λ (hs : List Identity). Works job hs job.count steady m n before after ended) known works;
  ends = refl;
  disk = keeping_goes_on d f e m m n (opened_keeps d f m reads) opened.up disk;
  up = up_so ended up;
}

-- no step ends the program for its words
no_usage : (answer : Answer) → Err status.Usage ≡ end_by answer → ⊥
no_usage (Ok step.Idle) same = let none : ⊥ = cc in none
no_usage (Ok (step.Done id reply)) same = let none : ⊥ = cc in none
no_usage (Err fault.DiskFault) same = let none : ⊥ = cc in none
no_usage (Err fault.Memory) same = let none : ⊥ = cc in none
no_usage (Err fault.Down) same = let none : ⊥ = cc in none
no_usage (Err fault.NoOps) same = let none : ⊥ = cc in none
no_usage (Err fault.TooManyOps) same = let none : ⊥ = cc in none
no_usage (Err (fault.AtOp index why)) same = let none : ⊥ = cc in none
no_usage (Err fault.NumbersSpent) same = let none : ⊥ = cc in none
no_usage (Err fault.TooLarge) same = let none : ⊥ = cc in none

ends_usage : (hosts : List Identity) (count made : ℕ) (before after : Option (List ℕ)) (last : Option Turn) → EndsWork hosts count made before after (Err status.Usage) last → ⊥
ends_usage hosts count made before after None ends = ends
ends_usage hosts count made before after (Some t) ends = no_usage t.answer ends.1.0

pub works_usage : {job : Job} {hosts : List Identity} {count : ℕ} {steady : Option ℕ} {m n : ManagerState} {before after : Option (List ℕ)} (why : WorkStatus)
    → Works job hosts count steady m n before after (Err why) → why ≢ status.Usage
works_usage {job} {hosts} {count} {steady} {m} {n} {before} {after} why works same =
    ends_usage hosts count (length works.told) works.between after works.last
    (subst (λ (w : WorkStatus). EndsWork hosts count (length works.told) works.between after (Err w) works.last) same works.ends)

-- A store that was not opened.

pub unopened_write : (a b : ℕ) (why : Status) → WriteFaultHasCause a b (unopened why)
unopened_write a b (opening.BadStore at) = tt
unopened_write a b opening.DiskFault = tt
unopened_write a b why = tt

pub unopened_disk : (d e : View) (why : Status) → IsNotOpened d e why → DiskFaultHasCause d.faults e.faults (unopened why)
unopened_disk d e (opening.BadStore at) fails = tt
unopened_disk d e opening.DiskFault fails = fails.0
unopened_disk d e why fails = tt

pub unopened_usage : (why : Status) → unopened why ≢ status.Usage
unopened_usage (opening.BadStore at) same = let none : ⊥ = cc in none
unopened_usage opening.DiskFault same = let none : ⊥ = cc in none
unopened_usage why same = let none : ⊥ = cc in none
