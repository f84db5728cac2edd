-- How the commands end that serve connections.
use Rattle.std.specs.List.{AllByRecursion}
use Rattle.std.specs.Prelude.{[], ◌+◌, ◌++◌, ◌<◌, ◌∷◌, ◌≡◌, ◌≢◌, ◌⊎◌, Err, List, None, Ok, Option}
use Rattle.std.specs.Prelude.{Result, Some, length, ℕ}
use Rattle.mqb_commands.specs.Opened.{IsNotOpened, OpensAs}
use Rattle.mqb_outside.specs.Disk.{View}
use Rattle.mqb_outside.specs.Images.{Each}
use Rattle.mqb_outside.specs.Net.{Ended}
use Rattle.mqb_manager.specs.Keeping.{KeepsDisk}
use Rattle.mqb_manager.specs.States.{IsUp, ManagerState}
use Rattle.mqb_serving.specs.declared.purpose.Purpose.TheVariants as purpose
use Rattle.mqb_outside.specs.Faults.{Rose}
use Rattle.mqb_outside.specs.Told.{Took}
use Rattle.mqb_store_laws.specs.Faults.{IsBadStore}
use Rattle.mqb_commands.specs.declared.status.Status.{Status}
use Rattle.mqb_commands.specs.declared.status.Status.TheVariants as status
use Rattle.mqb_connections.specs.Told.{GoesOn, TellsEnd, TellsNetFault}
use Rattle.mqb_connections.specs.Visits.{AreFinished, Visit, Visits, lines_from}

-- what a net tells, before and after a command
pub record Nets : Type 0 where
  pub finished : Option (List Ended)
  pub finished_now : Option (List Ended)
  pub faults : ℕ
  pub faults_now : ℕ
  pub lost : ℕ
  pub lost_now : ℕ
  pub idle : ℕ
  pub idle_now : ℕ

-- nothing that a net tells has changed
pub record IsUntouched (net : Nets) : Type 0 where
  pub finished : net.finished_now ≡ net.finished
  pub faults : net.faults_now ≡ net.faults
  pub lost : net.lost_now ≡ net.lost
  pub idle : net.idle_now ≡ net.idle

-- the end of a program that would go on to the end of its work
abbrev pub end_of : Result (Unit {0}) Status → Status
end_of (Ok done) = status.Done
end_of (Err end) = end

-- connections, and the one behind them with which the program ended, where one did
abbrev pub with_last : List Visit → Option Visit → List Visit
with_last visits None = visits
with_last visits (Some v) = visits ++ v ∷ []

-- Why no connection is served behind so many of count, the first of which has this number: the
-- program ended with one more, or all were served, or fewer, behind which none came (idle), or
-- the net gave no other.
abbrev pub EndsServing : (idle : Type 0) → (number count served faults faults_now : ℕ)
    → (before after : Option (List ℕ)) → Status → Option Visit → Type 0
EndsServing idle number count served faults faults_now before after r (Some v) =
    (served < count) × TellsEnd (number + served) v.end before after (Err r)
EndsServing idle number count served faults faults_now before after r None =
    (((served ≡ count) ⊎ ((served < count) × idle)) × (r ≡ status.Done) × (after ≡ before))
    ⊎ ((served < count) × Rose faults faults_now × TellsNetFault before after r)

-- The managers from m to n served count connections that peers made, one after another, unless the
-- program ended before, or none came (idle). Of each that did not end it the line was written
-- before the next was served.
pub record ServesPeers (idle : Type 0) (number count : ℕ) (steady : Option ℕ) (m n : ManagerState)
    (ended ended_now : Option (List Ended)) (faults faults_now : ℕ) (before after : Option (List ℕ))
    (r : Status) : Type 0 where
  -- those whose lines were written
  pub told : List Visit
  -- the one that ended the program
  pub last : Option Visit
  pub served : Visits purpose.Serve steady m (with_last told last) n
  pub finished : AreFinished ended ended_now (with_last told last)
  pub goes_on : AllByRecursion (λ v. GoesOn v.end) told
  -- what was taken behind the lines
  pub between : Option (List ℕ)
  pub lines : Took before between (lines_from number told)
  pub ends : EndsServing idle number count (length told) faults faults_now between after r last

-- The manager to which the store opens serves connections that its peers make, and the disk stands
-- for what the last of them left.
pub record ServesStore (idle : Type 0) (count : ℕ) (steady : Option ℕ) (d e : View)
    (ended ended_now : Option (List Ended)) (faults faults_now : ℕ) (before after : Option (List ℕ))
    (r : Status) : Type 0 where
  pub first : ManagerState
  pub left : ManagerState
  pub opened : OpensAs d first
  pub serves :
      ServesPeers idle 1 count steady first left ended ended_now faults faults_now before after r
  pub disk : KeepsDisk d e first left
  -- so the disk is settled still, where it was, and stands for that manager
  pub up : r ≢ status.DiskFault → IsUp left

-- A sound store is served to the end, whatever the peers send and whichever connections fail, where
-- neither the disk nor the net nor the output failed, unless memory ran out.
abbrev pub Completes : View → View → (faults faults_now writes writes_now : ℕ) → Status → Type 0
Completes d e faults faults_now writes writes_now r =
    ((at : ℕ) → Each d.reads (IsBadStore at) → ⊥) → (Rose d.faults e.faults → ⊥)
    → (Rose faults faults_now → ⊥) → (Rose writes writes_now → ⊥)
    → (r ≡ status.Done) ⊎ (r ≡ status.Memory)

-- a store that was not opened: nothing is written
abbrev pub IsUnopened : View → View → (before after : Option (List ℕ)) → Status → Type 0
IsUnopened d e before after r = IsNotOpened d e r × (after ≡ before)

-- The store is opened and served, until none came (idle) at the latest, or it is not opened, and
-- the net is left as it was.
abbrev pub ServesUntil : (idle : Type 0) → (count : ℕ) → (steady : Option ℕ) → (d e : View) → Nets
    → (before after : Option (List ℕ)) → Status → Type 0
ServesUntil idle count steady d e net before after r =
    (IsUnopened d e before after r × IsUntouched net)
    ⊎ ServesStore idle count steady d e net.finished net.finished_now net.faults net.faults_now
    before after r

-- `serve`, which waits for each connection as long as it takes
abbrev pub ServesFrom : (count : ℕ) → (steady : Option ℕ) → (d e : View) → Nets
    → (before after : Option (List ℕ)) → Status → Type 0
ServesFrom count steady d e net before after r = ServesUntil ⊥ count steady d e net before after r

-- the most connections that `attend` serves
abbrev pub MOST_ATTENDED : ℕ
MOST_ATTENDED = 4294967295

-- `attend`, which ends as soon as it was waited for a peer and none came
abbrev pub AttendsFrom : (steady : Option ℕ) → (d e : View) → Nets
    → (before after : Option (List ℕ)) → Status → Type 0
AttendsFrom steady d e net before after r =
    ServesUntil (Rose net.idle net.idle_now) MOST_ATTENDED steady d e net before after r
    × (r ≢ status.Done → net.idle_now ≡ net.idle)
