-- What the events of a script are to one manager.
use Rattle.std.specs.Prelude.{None, Option, Some, ℕ}
use Rattle.mqb_model.specs.calls.Call.{Commit, CreateQueue, Purge, Request, Send, Set, Take, Tick}
use Rattle.mqb_model.specs.records.Record.{Roll}
use Rattle.mqb_script.specs.declared.events.Event.{Event}
use Rattle.mqb_script.specs.declared.events.Event.TheVariants as event

-- the request that an event is, where it is one
abbrev pub request_of : Event → Option Request
request_of (event.Queue manager plan) = Some (CreateQueue plan)
request_of (event.Commit manager now ops) = Some (Commit now ops)
request_of (event.Send manager now recoverable parts) = Some (Send now recoverable parts)
request_of (event.Take manager now place) = Some (Take now place)
request_of (event.Purge manager now place) = Some (Purge now place)
request_of (event.Tick manager now) = Some (Tick now)
request_of (event.Roll manager count) = Some (Set (Roll count))
request_of _ = None

-- the manager that acts in an event, or the first one where none does
abbrev pub actor : Event → ℕ
actor (event.Queue manager plan) = manager
actor (event.Commit manager now ops) = manager
actor (event.Send manager now recoverable parts) = manager
actor (event.Take manager now place) = manager
actor (event.Purge manager now place) = manager
actor (event.Tick manager now) = manager
actor (event.Resend manager) = manager
actor (event.Pump manager now) = manager
actor (event.Checkpoint manager) = manager
actor (event.Arm manager call mode) = manager
actor (event.Restart manager pick) = manager
actor (event.Roll manager count) = manager
actor (event.Disconnect manager) = manager
actor _ = 0
