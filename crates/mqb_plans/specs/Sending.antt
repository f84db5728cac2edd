-- The record of a message that is sent.
use Rattle.std.specs.Prelude.{None, Option, Some, if◌then◌else◌, nat_le, ℕ}
use Rattle.mqb_base.specs.declared.queues.QueuePlan.{QueuePlan}
use Rattle.mqb_entries.specs.Packets.{packet_of}
use Rattle.mqb_model.specs.declared.faults.SendFault.{SendFault}
use Rattle.mqb_model.specs.declared.faults.SendFault.TheVariants as fault
use Rattle.mqb_model.specs.records.Record.{Record}
use Rattle.mqb_model.specs.records.Record as entry
use Rattle.mqb_plans.specs.declared.recording.Told.{Told}

-- why a queue of this length takes no plain message of its own manager
abbrev pub fault_by : QueuePlan → ℕ → Option SendFault
fault_by plan len = if plan.transactional then Some fault.Transactional
    else if nat_le plan.quota len then Some fault.QueueFull
    else None

-- the record that tells of a message
abbrev pub sent_record : ℕ → Told → Record
sent_record now t = entry.Plain now (packet_of t.message t.to)
