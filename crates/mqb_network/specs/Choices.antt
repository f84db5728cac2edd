-- What is free in an event: how the disks behave, and which stores are too far on. All else follows
-- from the network and the event.
use Rattle.std.specs.Prelude.{◌&&◌, ◌-◌, ◌==◌, Bool, None, Option, Some, false, if◌then◌else◌}
use Rattle.std.specs.Prelude.{true, ℕ}
use Rattle.mqb_model.specs.managers.Outcomes.{Outcome}

-- how a disk fails: it stops for good, or in one call
pub data Failure : Type 0 where
  Stopped : Failure
  Failed : Failure

-- one choice for an event
pub data Choice : Type 0 where
  -- no disk fails
  Well : Choice
  -- so many calls of this event that touch a disk go well, and it fails in the next one
  Fails : (before : ℕ) → Failure → Choice
  -- a manager that was down is started over a store that has the record in
  -- doubt, or that has it not
  Kept : Choice
  Lost : Choice
  -- a manager is not started, since its disk fails
  Unread : Choice
  -- a store is too far on for another base
  TooFar : Choice

-- this was chosen
abbrev pub is_far : Choice → Bool
is_far TooFar = true
is_far _ = false

-- how the disk fails in a call: only where the call touches it
abbrev pub failure_in : {A : Type 0} → Choice → Outcome A → Option Failure
failure_in (Fails before how) outcome = if before == 0 && outcome.touches then Some how else None
failure_in _ outcome = None

-- what is left to choose behind a call that went well
abbrev pub choice_behind : {A : Type 0} → Choice → Outcome A → Choice
choice_behind (Fails before how) outcome =
    if outcome.touches then Fails (before - 1) how else Fails before how
choice_behind choice outcome = choice
