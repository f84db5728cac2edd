use Rattle.std.specs.Prelude.{ℕ, Bool, true, false, not, ◌==◌, ◌&&◌, List, map}
use Rattle.std.specs.Char.{to_ascii_lowercase}
use Rattle.std.specs.Cmp.Lexicographic.{pointwise}
use Rattle.mqb_base.specs.declared.ids.Guid.{Guid}
use Rattle.mqb_base.specs.declared.ids.MessageId.{MessageId}
use Rattle.mqb_base.specs.declared.queue_names.Host.{Host}
use Rattle.mqb_base.specs.declared.queue_names.Host.TheVariants.{Os, Tcp}
use Rattle.mqb_base.specs.declared.queue_names.MachineQueue.{MachineQueue}
use Rattle.mqb_base.specs.declared.queue_names.MachineQueue.TheVariants.{DeadLetter, DeadXact}
use Rattle.mqb_base.specs.declared.queue_names.MachineQueue.TheVariants.{Journal}
use Rattle.mqb_base.specs.declared.queue_names.QueueName.{QueueName}
use Rattle.mqb_base.specs.declared.queue_names.QueueName.TheVariants.{Public, Private}
use Rattle.mqb_base.specs.declared.queue_names.QueueName.TheVariants.{Direct, Machine}

-- tests of equality

abbrev pub same_bytes : List ℕ → List ℕ → Bool
same_bytes = pointwise ◌==◌

-- the case of letters left aside
abbrev pub same_ignoring_case : List ℕ → List ℕ → Bool
same_ignoring_case a b = same_bytes (map to_ascii_lowercase a) (map to_ascii_lowercase b)

abbrev pub same_flag : Bool → Bool → Bool
same_flag true b = b
same_flag false b = not b

abbrev pub same_guid : Guid → Guid → Bool
same_guid a b = same_bytes a.0 b.0

abbrev pub same_id : MessageId → MessageId → Bool
same_id a b = same_guid a.qm b.qm && a.number == b.number

abbrev pub same_host : Host → Host → Bool
same_host (Os a) (Os b) = same_bytes a b
same_host (Tcp a) (Tcp b) = same_bytes a b
same_host (Os a) (Tcp b) = false
same_host (Tcp a) (Os b) = false

abbrev pub same_kind : MachineQueue → MachineQueue → Bool
same_kind DeadLetter DeadLetter = true
same_kind DeadXact DeadXact = true
same_kind Journal Journal = true
same_kind _ _ = false

abbrev pub same_name : QueueName → QueueName → Bool
same_name (Public g i) (Public h j) = same_guid g h && same_flag i j
same_name (Private g m i) (Private h n j) = (same_guid g h && m == n) && same_flag i j
same_name (Direct a p i) (Direct b q j) = (same_host a b && same_bytes p q) && same_flag i j
same_name (Machine g k) (Machine h l) = same_guid g h && same_kind k l
same_name _ _ = false
