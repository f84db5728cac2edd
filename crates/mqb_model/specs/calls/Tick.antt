-- The call tick.
use Rattle.std.specs.Prelude.{◌==◌, None, Ok, Option, Result, Some, if◌then◌else◌, ℕ}
use Rattle.mqb_base.specs.declared.message.Lane.TheVariants as lane
use Rattle.mqb_model.specs.calls.SetRoll.{store_refusal}
use Rattle.mqb_model.specs.declared.answers.Ticked.{Ticked}
use Rattle.mqb_model.specs.declared.faults.StoreFault.{StoreFault}
use Rattle.mqb_model.specs.managers.Beside as beside
use Rattle.mqb_model.specs.managers.Manager.{Manager}
use Rattle.mqb_model.specs.managers.Outcomes.{Outcome, changing, unless, writing}
use Rattle.mqb_model.specs.records.Record as entry
use Rattle.mqb_model.specs.rules.Timeouts.{durable_due, lane_due}
use Rattle.mqb_model.specs.state.State.{State}

-- where no durable message is due there is no record
abbrev pub tick_entry : State → ℕ → Option entry.Record
tick_entry s now = if durable_due s now == 0 then None else Some (entry.Ticked now)

-- how many messages are due
abbrev pub due_counts : State → ℕ → Ticked
due_counts s now = record { durable = durable_due s now; express = lane_due lane.Express s now }

-- what is due leaves: the durable messages by the record, and then the express ones
abbrev pub ticking : Manager → ℕ → Outcome (Result Ticked StoreFault)
ticking m now = writing (tick_entry m.state now)
    (changing m (beside.TicksExpress now) (Ok (due_counts m.state now)))

-- it answers how many messages left
abbrev pub tick : Manager → ℕ → Outcome (Result Ticked StoreFault)
tick m now = unless m (store_refusal m) (ticking m now)
