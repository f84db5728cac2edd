-- The calls that set something.
use Rattle.std.specs.Prelude.{None, Ok, Option, Result, Some, if◌then◌else◌, ℕ}
use Rattle.mqb_model.specs.declared.faults.StoreFault.{StoreFault}
use Rattle.mqb_model.specs.declared.faults.StoreFault.TheVariants as fault
use Rattle.mqb_model.specs.managers.Manager.{Manager, is_down}
use Rattle.mqb_model.specs.managers.Outcomes.{Outcome, recording, unless}
use Rattle.mqb_model.specs.records.Record.{Roll, Setting}
use Rattle.mqb_model.specs.records.Record as entry

-- why a store is not changed
abbrev pub store_refusal : Manager → Option StoreFault
store_refusal m = if is_down m then Some fault.Down else None

-- a manager is set to something
abbrev pub set_to : Manager → Setting → Outcome (Result (Unit {0}) StoreFault)
set_to m setting = unless m (store_refusal m) (recording m (entry.Set setting) (Ok tt))

-- from now on a sequence is full with so many messages
abbrev pub set_roll : Manager → ℕ → Outcome (Result (Unit {0}) StoreFault)
set_roll m count = set_to m (Roll count)
