-- The call create_queue.
use Rattle.std.specs.Prelude.{None, Ok, Option, Result, Some, if◌then◌else◌, length, nat_le, ℕ}
use Rattle.mqb_base.specs.declared.queues.QueuePlan.{QueuePlan}
use Rattle.mqb_model.specs.declared.faults.CreateFault.{CreateFault}
use Rattle.mqb_model.specs.declared.faults.CreateFault.TheVariants as fault
use Rattle.mqb_model.specs.declared.limits.TheConstants.{MAX_QUEUES}
use Rattle.mqb_model.specs.managers.Manager.{Manager, is_down}
use Rattle.mqb_model.specs.managers.Outcomes.{Outcome, recording, unless}
use Rattle.mqb_model.specs.records.Peer.{next_queue, queue_there}
use Rattle.mqb_model.specs.records.Record as entry

-- why no queue is made, by the first of these that holds
abbrev pub create_refusal : Manager → QueuePlan → Option CreateFault
create_refusal m plan = if is_down m then Some fault.Down
    else if queue_there m.state plan then Some fault.QueueThere
    else if nat_le MAX_QUEUES (length m.state.places.queues) then Some fault.TooManyQueues
    else None

-- it answers the queue's number
abbrev pub create_queue : Manager → QueuePlan → Outcome (Result ℕ CreateFault)
create_queue m plan = unless m (create_refusal m plan)
    (recording m (entry.CreateQueue (next_queue m.state) plan) (Ok (next_queue m.state)))
