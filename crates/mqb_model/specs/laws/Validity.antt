-- Managers begin valid, and stay so where a disk fails and where they are started again.
use Rattle.std.specs.Prelude.{◌≡◌, Bool, IfSome, Option, false, true}
use Rattle.mqb_base.specs.declared.ids.Identity.{Identity}
use Rattle.mqb_model.specs.calls.Link.{resend, unlink}
use Rattle.mqb_model.specs.managers.Manager.{Manager, new_manager, unlinked}
use Rattle.mqb_model.specs.managers.Outcomes.{answering, failed_under, succeeded}
use Rattle.mqb_model.specs.managers.Restarts.{restarted, unread}
use Rattle.mqb_model.specs.managers.Valid.{IsValidManager, IsWritable}
use Rattle.mqb_model.specs.records.Applying.{apply, fits}
use Rattle.mqb_model.specs.records.Record as entry
use Rattle.mqb_model.specs.records.Record.{Record, Setting}
use Rattle.mqb_model.specs.state.Durable.{durable}
use Rattle.mqb_model.specs.state.State.{State}
use Rattle.mqb_model.specs.state.Valid.{IsValidState}

-- A manager that has nothing but its identity is valid.
abbrev pub NewIsValid : Type 0
NewIsValid = (identity : Identity) → IsValidManager (new_manager identity)

-- What a store stands for is valid where the state is.
abbrev pub DurableIsValid : Type 0
DurableIsValid = (s : State) → IsValidState s → IsValidState (durable s)

-- A valid manager that goes down under a record that fits and was read, or under none, is valid.
abbrev pub FailedIsValid : Type 0
FailedIsValid = (m : Manager) (r : Option Record) → IsValidManager m → IfSome r (IsWritable m.state)
    → IsValidManager (failed_under m r)

-- A manager that is started again over a store is valid where the state is that
-- the store stands for.
abbrev pub RestartedIsValid : Type 0
RestartedIsValid = (s : State) → IsValidState s → IsValidManager (unlinked (durable s))

-- A valid manager is valid again over a store without the record in doubt.
abbrev pub LostIsValid : Type 0
LostIsValid = (m : Manager) → IsValidManager m → IsValidManager (restarted m false)

-- A valid manager that cannot read its store is valid, with the same record in doubt.
abbrev pub UnreadIsValid : Type 0
UnreadIsValid = (m : Manager) → IsValidManager m → IsValidManager (unread m)

-- A call that changes nothing, as one that is refused, leaves a valid manager as it was.
abbrev pub RefusedIsSame : Type 0
RefusedIsSame =
    (m : Manager) (answer : Bool) → IsValidManager m → succeeded m (answering m answer) ≡ m

-- A valid manager whose connection ends is valid.
abbrev pub UnlinkedIsValid : Type 0
UnlinkedIsValid = (m : Manager) → IsValidManager m → IsValidManager (succeeded m (unlink m))

-- A valid manager that sends anew is valid.
abbrev pub ResentIsValid : Type 0
ResentIsValid = (m : Manager) → IsValidManager m → IsValidManager (succeeded m (resend m))

-- A valid state is valid with another setting.
abbrev pub SetIsValid : Type 0
SetIsValid = (s : State) (setting : Setting) → IsValidState s → fits s (entry.Set setting) ≡ true
    → IsValidState (apply s (entry.Set setting))
