-- The call purge.
use Rattle.std.specs.Option.{option_map_or}
use Rattle.std.specs.Prelude.{◌==◌, Err, None, Ok, Option, Result, Some, if◌then◌else◌, length, ℕ}
use Rattle.mqb_base.specs.declared.queues.EntryPlace.{EntryPlace}
use Rattle.mqb_base.specs.declared.queues.Place.{Place}
use Rattle.mqb_queue.specs.Lists.{Lists, count}
use Rattle.mqb_queue.specs.Places.{lists_at, place_named}
use Rattle.mqb_model.specs.declared.faults.PurgeFault.{PurgeFault}
use Rattle.mqb_model.specs.declared.faults.PurgeFault.TheVariants as fault
use Rattle.mqb_model.specs.managers.Beside as beside
use Rattle.mqb_model.specs.managers.Manager.{Manager, is_down}
use Rattle.mqb_model.specs.managers.Outcomes.{Outcome, answering, changing, unless, writing}
use Rattle.mqb_model.specs.records.Record as entry

-- without a durable message there is no record
abbrev pub purge_entry : EntryPlace → ℕ → Lists → Option entry.Record
purge_entry at now l = if length l.durable == 0 then None else Some (entry.Purged now at)

-- a place that holds this is purged: its durable messages by the record, and then the express ones
abbrev pub purging : Manager → ℕ → EntryPlace → Lists → Outcome (Result ℕ PurgeFault)
purging m now at l =
    writing (purge_entry at now l) (changing m (beside.PurgesExpress now at) (Ok (count l)))

-- the place of a queue's number is purged
abbrev pub purge_at : Manager → ℕ → EntryPlace → Outcome (Result ℕ PurgeFault)
purge_at m now at =
    option_map_or (purging m now at) (lists_at m.state.places at) (answering m (Err fault.NoQueue))

-- the first reason against it, the place left aside
abbrev pub purge_refusal : Manager → Option PurgeFault
purge_refusal m = if is_down m then Some fault.Down else None

-- it answers how many messages left
abbrev pub purge : Manager → Place → ℕ → Outcome (Result ℕ PurgeFault)
purge m p now = unless m (purge_refusal m)
    (option_map_or (purge_at m now) (place_named m.state.places.queues p)
    (answering m (Err fault.NoQueue)))
