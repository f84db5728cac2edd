-- The call take.
use Rattle.std.specs.Option.{option_map_or}
use Rattle.std.specs.Prelude.{Err, None, Ok, Option, Result, Some, if◌then◌else◌}
use Rattle.std.specs.Prelude.{option_and_then, ℕ}
use Rattle.mqb_base.specs.declared.message.Lane.{Lane}
use Rattle.mqb_base.specs.declared.message.Lane.TheVariants as lane
use Rattle.mqb_base.specs.declared.message.Message.{Message}
use Rattle.mqb_base.specs.declared.queues.EntryPlace.{EntryPlace}
use Rattle.mqb_base.specs.declared.queues.Place.{Place}
use Rattle.mqb_queue.specs.First.{first_position, is_free}
use Rattle.mqb_queue.specs.Places.{lists_at, place_named}
use Rattle.mqb_queue.specs.declared.first.Position.{Position}
use Rattle.mqb_model.specs.declared.faults.TakeFault.{TakeFault}
use Rattle.mqb_model.specs.declared.faults.TakeFault.TheVariants as fault
use Rattle.mqb_model.specs.managers.Beside as beside
use Rattle.mqb_model.specs.managers.Manager.{Manager, is_down}
use Rattle.mqb_model.specs.managers.Outcomes.{Outcome, answering, changing, recording, unless}
use Rattle.mqb_model.specs.records.Record as entry
use Rattle.mqb_model.specs.rules.Takes.{message_at}
use Rattle.mqb_model.specs.state.State.{State}

-- where the first message of a place stands that is not due: of the greatest priority, durable
-- before express, then the oldest
abbrev pub first_in : State → EntryPlace → ℕ → Option Position
first_in s at now = option_and_then (first_position (is_free at now)) (lists_at s.places at)

-- a durable message is taken by a record, and an express one without
abbrev pub taking : Manager → EntryPlace → ℕ → Lane → ℕ → Message
    → Outcome (Result Message TakeFault)
taking m at now lane.Durable k message = recording m (entry.Taken now at message.id) (Ok message)
taking m at now lane.Express k message = changing m (beside.TakesExpress now at k) (Ok message)

-- the message at a position is taken
abbrev pub take_position : Manager → EntryPlace → ℕ → Position → Outcome (Result Message TakeFault)
take_position m at now p = option_map_or (taking m at now p.lane p.index)
    (message_at p.lane m.state at p.index) (answering m (Err fault.QueueEmpty))

-- the first message of a place is taken
abbrev pub take_at : Manager → ℕ → EntryPlace → Outcome (Result Message TakeFault)
take_at m now at = option_map_or (take_position m at now) (first_in m.state at now)
    (answering m (Err fault.QueueEmpty))

-- the first reason against it, the place left aside
abbrev pub take_refusal : Manager → Option TakeFault
take_refusal m = if is_down m then Some fault.Down else None

-- it answers the message
abbrev pub take_message : Manager → Place → ℕ → Outcome (Result Message TakeFault)
take_message m p now = unless m (take_refusal m)
    (option_map_or (take_at m now) (place_named m.state.places.queues p)
    (answering m (Err fault.NoQueue)))
