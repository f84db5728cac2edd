-- What holds of each name that a program has.
use Rattle.std.specs.Prelude.{◌≡◌, ℕ, ◌<◌, ◌^◌, All, List, length, None}
use Rattle.mqb_base.specs.declared.queue_names.Host.{Host}
use Rattle.mqb_base.specs.declared.queue_names.Host.TheVariants.{Os, Tcp}
use Rattle.mqb_base.specs.declared.queue_names.QueueName.{QueueName}
use Rattle.mqb_base.specs.declared.queue_names.QueueName.TheVariants.{Public, Private}
use Rattle.mqb_base.specs.declared.queue_names.QueueName.TheVariants.{Direct, Machine}
use Rattle.mqb_base.specs.Names.{name_fault}

-- so many bytes
abbrev pub AreBytes : ℕ → List ℕ → Type 0
AreBytes count bytes = (length bytes ≡ count) × All (λ b. b < 256) bytes

abbrev pub IsName : List ℕ → Type 0
IsName bytes = name_fault bytes ≡ None

abbrev pub IsHost : Host → Type 0
IsHost (Os name) = IsName name
IsHost (Tcp address) = AreBytes 4 address

abbrev pub IsQueueName : QueueName → Type 0
IsQueueName (Public guid journal) = AreBytes 16 guid.0
IsQueueName (Private qm number journal) = AreBytes 16 qm.0 × (number < 2 ^ 32)
IsQueueName (Direct host queue journal) = IsHost host × IsName queue
IsQueueName (Machine qm kind) = AreBytes 16 qm.0
