-- Of which states a base can be written, and what the call checkpoint comes to: the state is
-- written anew as one base.
use Rattle.std.specs.Prelude.{Bool, None, Ok, Option, Result, Some, if◌then◌else◌, length}
use Rattle.std.specs.Prelude.{nat_lt, true}
use Rattle.mqb_journal.specs.declared.faults.CheckpointFault.{CheckpointFault}
use Rattle.mqb_journal.specs.declared.faults.CheckpointFault.TheVariants as fault
use Rattle.mqb_layout.specs.declared.limits.TheConstants.{MAX_BASE}
use Rattle.mqb_model.specs.managers.Manager.{Manager, is_down}
use Rattle.mqb_model.specs.managers.Outcomes.{Outcome, answering, unless}
use Rattle.mqb_model.specs.state.State.{State}
use Rattle.mqb_snapshot.specs.Snapshot.{snapshot}

-- the base of a state is longer than one may be
unfoldable pub is_large : State → Bool
is_large s = nat_lt MAX_BASE (length (snapshot s))

-- the first reason against it, where the store is too far on for another base or not
abbrev pub checkpoint_refusal : Manager → (far : Bool) → Option CheckpointFault
checkpoint_refusal m far = if is_down m then Some fault.Down
    else if far then Some fault.TooFar
    else if is_large m.state then Some fault.TooLarge
    else None

-- it calls the disk, and writes no record
abbrev pub checkpoint_made : Manager → Outcome (Result (Unit {0}) CheckpointFault)
checkpoint_made m = record (answering m (Ok tt)) { touches = true }

abbrev pub checkpoint : Manager → (far : Bool) → Outcome (Result (Unit {0}) CheckpointFault)
checkpoint m far = unless m (checkpoint_refusal m far) (checkpoint_made m)
