use Rattle.std.specs.Prelude.{Bool, true, false, not, Option, Some, None}
use Rattle.mqb_base.specs.declared.queue_names.QueueName.{QueueName}
use Rattle.mqb_base.specs.declared.queue_names.QueueName.TheVariants.{Public, Private}
use Rattle.mqb_base.specs.declared.queue_names.QueueName.TheVariants.{Direct, Machine}

-- it names a queue, and neither a queue's journal nor a machine's queue
abbrev pub names_queue : QueueName → Bool
names_queue (Public guid journal) = not journal
names_queue (Private qm number journal) = not journal
names_queue (Direct host queue journal) = not journal
names_queue (Machine qm kind) = false

-- so does it where it is there
abbrev pub absent_or_queue : Option QueueName → Bool
absent_or_queue None = true
absent_or_queue (Some name) = names_queue name
