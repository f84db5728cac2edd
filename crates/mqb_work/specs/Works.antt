-- What the program does with a store.
use Rattle.std.specs.List.{AllByRecursion}
use Rattle.std.specs.Prelude.{[], ◌++◌, ◌<◌, ◌∷◌, ◌≡◌, ◌≢◌, ◌⊎◌, Err, List, None, Ok, Option}
use Rattle.std.specs.Prelude.{Result, Some, length, ℕ}
use Rattle.mqb_answers.specs.Texts.{hosts_of}
use Rattle.mqb_base.specs.declared.ids.Identity.{Identity}
use Rattle.mqb_commands.specs.Opened.{IsNotOpened, OpensAs}
use Rattle.mqb_commands.specs.declared.status.Status.{Status}
use Rattle.mqb_manager.specs.Keeping.{KeepsDisk}
use Rattle.mqb_manager.specs.States.{IsUp, ManagerState}
use Rattle.mqb_outside.specs.Disk.{View}
use Rattle.mqb_outside.specs.Told.{Took}
use Rattle.mqb_work.specs.Exits.{unopened}
use Rattle.mqb_work.specs.Turns.{TellsTurn, Turn, Turns, end_by, lines_of}
use Rattle.mqb_work.specs.declared.status.WorkStatus.{WorkStatus}
use Rattle.mqb_work.specs.declared.status.WorkStatus.TheVariants as status
use Rattle.mqb_work.specs.declared.words.Job.{Job}

-- steps, and the one behind them with which the program ended, where one did
abbrev pub with_last : List Turn → Option Turn → List Turn
with_last turns None = turns
with_last turns (Some t) = turns ++ t ∷ []

-- Why no step is made behind so many of count: all were made, or the program ended with one more.
abbrev pub EndsWork : List Identity → (count made : ℕ) → (before after : Option (List ℕ))
    → Result (Unit {0}) WorkStatus → Option Turn → Type 0
EndsWork hosts count made before after (Ok done) last =
    (last ≡ None) × (made ≡ count) × (after ≡ before)
EndsWork hosts count made before after (Err why) None = ⊥
EndsWork hosts count made before after (Err why) (Some t) =
    (made < count) × TellsTurn hosts t.answer before after (Err why)

-- The managers from m to n made count steps, one after another, unless the program ended before. Of
-- each that did not end it the line was written before the next was made.
pub record Works (job : Job) (hosts : List Identity) (count : ℕ) (steady : Option ℕ)
    (m n : ManagerState) (before after : Option (List ℕ))
    (r : Result (Unit {0}) WorkStatus) : Type 0 where
  -- those whose lines were written
  pub told : List Turn
  -- the one that ended the program
  pub last : Option Turn
  pub turns : Turns job steady m (with_last told last) n
  pub goes_on : AllByRecursion (λ t. end_by t.answer ≡ Ok tt) told
  -- what was taken behind the lines
  pub between : Option (List ℕ)
  pub lines : Took before between (lines_of hosts told)
  pub ends : EndsWork hosts count (length told) between after r last

-- the end of a program that goes on to the end of its work
abbrev pub status_of : Result (Unit {0}) WorkStatus → WorkStatus
status_of (Ok done) = status.Done
status_of (Err why) = why

-- The manager to which the store opens works the job, and the disk stands for
-- what the last step left.
pub record WorksStore (job : Job) (steady : Option ℕ) (d e : View) (before after : Option (List ℕ))
    (r : WorkStatus) : Type 0 where
  pub first : ManagerState
  pub left : ManagerState
  pub opened : OpensAs d first
  pub ended : Result (Unit {0}) WorkStatus
  pub works : Works job (hosts_of first.store.state) job.count steady first left before after ended
  pub ends : r ≡ status_of ended
  pub disk : KeepsDisk d e first left
  -- so the disk is settled still, where it was, and stands for that manager
  pub up : r ≢ status.DiskFault → IsUp left

-- The store was opened, and memory ran out before the first step.
pub record IsUnworked (d e : View) (before after : Option (List ℕ)) (r : WorkStatus) : Type 0 where
  pub first : ManagerState
  pub opened : OpensAs d first
  pub disk : KeepsDisk d e first first
  pub ends : r ≡ status.Memory
  pub taken : after ≡ before

-- A store that was not opened: nothing is written.
pub record IsUnopened (d e : View) (before after : Option (List ℕ)) (r : WorkStatus) : Type 0 where
  pub why : Status
  pub fails : IsNotOpened d e why
  pub ends : r ≡ unopened why
  pub taken : after ≡ before

abbrev pub WorksJob : Job → (steady : Option ℕ) → (d e : View) → (before after : Option (List ℕ))
    → WorkStatus → Type 0
WorksJob job steady d e before after r = WorksStore job steady d e before after r
    ⊎ IsUnworked d e before after r ⊎ IsUnopened d e before after r

-- The program: words within their form are worked, and others are none.
abbrev pub Runs : Option Job → (steady : Option ℕ) → (d e : View) → (before after : Option (List ℕ))
    → WorkStatus → Type 0
Runs None steady d e before after r = r ≡ status.Usage
Runs (Some job) steady d e before after r =
    WorksJob job steady d e before after r × (r ≢ status.Usage)
