-- What was read of a direct name, seen as its values.
use Rattle.std.specs.Prelude.{ℕ, List}
use Rattle.mqb_base.specs.declared.queue_names.Host.{Host}
use Rattle.mqb_base.specs.declared.queue_names.Host.TheVariants as host
use Rattle.mqb_names.specs.declared.direct.HostPart.{HostPart}
use Rattle.mqb_names.specs.declared.direct.HostPart.TheVariants.{Os, Tcp}
use Rattle.mqb_names.specs.declared.direct.DirectPart.{DirectPart}

abbrev pub host_of : HostPart → Host
host_of (Os name) = host.Os name.now
host_of (Tcp address) = host.Tcp address

abbrev pub names_of : DirectPart → Host × List ℕ
names_of part = (host_of part.host, part.queue.now)
