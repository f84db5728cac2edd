-- How the commands end where the store was not opened.
use Rattle.std.proofs.Common.{ℕ, inr, refl}
use Rattle.mqb_commands.specs.Causes.{DiskFaultHasCause}
use Rattle.mqb_commands.specs.Opened.{IsNotOpened}
use Rattle.mqb_outside.specs.Disk.{View}
use Rattle.mqb_outside.specs.Images.{Each}
use Rattle.mqb_outside.specs.Faults.{Rose}
use Rattle.mqb_commands.specs.Outputs.{ReadFaultHasCause, WriteFaultHasCause}
use Rattle.mqb_commands.specs.declared.status.Status.{Status}
use Rattle.mqb_commands.specs.declared.status.Status.TheVariants as status
use Rattle.mqb_store_laws.specs.Faults.{IsBadStore}
use Rattle.mqb_connections.specs.Causes.{IsNetEnd, IsProbeEnd, NetFaultHasCause}
use Rattle.mqb_connections.specs.Served.{Completes}
use Rattle.mqb_connections.specs.Statuses.{IsFaultless}

-- Each fault has its cause.

pub unopened_disk : (d e : View) (r : Status) → IsNotOpened d e r → DiskFaultHasCause d.faults e.faults r
unopened_disk d e status.DiskFault failed = failed.0
unopened_disk d e _ failed = tt

pub unopened_net : (cause : Type 0) (d e : View) (r : Status) → IsNotOpened d e r → NetFaultHasCause cause r
unopened_net cause d e status.NetFault failed = absurd failed
unopened_net cause d e _ failed = tt

pub unopened_write : (a b : ℕ) (d e : View) (r : Status) → IsNotOpened d e r → WriteFaultHasCause a b r
unopened_write a b d e status.WriteFault failed = absurd failed
unopened_write a b d e _ failed = tt

pub unopened_read : (a b : ℕ) (d e : View) (r : Status) → IsNotOpened d e r → ReadFaultHasCause a b r
unopened_read a b d e status.ReadFault failed = absurd failed
unopened_read a b d e _ failed = tt

-- It is an end of these commands.

pub unopened_net_end : (d e : View) (end : Status) → IsNotOpened d e end → IsNetEnd end
unopened_net_end d e status.Usage failed = absurd failed
unopened_net_end d e (status.Script line kind) failed = absurd failed
unopened_net_end d e status.TooLong failed = absurd failed
unopened_net_end d e status.TooManyLines failed = absurd failed
unopened_net_end d e status.ReadFault failed = absurd failed
unopened_net_end d e status.NetFull failed = absurd failed
unopened_net_end d e end failed = tt

pub unopened_probe_end : (d e : View) (r : Status) → IsNotOpened d e r → IsProbeEnd r
unopened_probe_end d e status.Usage failed = absurd failed
unopened_probe_end d e (status.Script line kind) failed = absurd failed
unopened_probe_end d e status.TooLong failed = absurd failed
unopened_probe_end d e status.TooManyLines failed = absurd failed
unopened_probe_end d e status.NetFault failed = absurd failed
unopened_probe_end d e status.NetFull failed = absurd failed
unopened_probe_end d e _ failed = tt

-- A sound store is opened, where the disk did not fail, unless memory ran out.

pub unopened_completes : (d e : View) (faults faults_now writes writes_now : ℕ) (r : Status) → IsNotOpened d e r → Completes d e faults faults_now writes writes_now r
unopened_completes d e faults faults_now writes writes_now (status.BadStore at) failed = λ sound _ _ _. absurd (sound at failed.0)
unopened_completes d e faults faults_now writes writes_now status.DiskFault failed = λ _ no_disk _ _. absurd (no_disk failed.0)
unopened_completes d e faults faults_now writes writes_now status.Memory failed = λ _ _ _ _. inr refl
unopened_completes d e faults faults_now writes writes_now _ failed = absurd failed

pub unopened_faultless : (d e : View) (r : Status) → IsNotOpened d e r → ((at : ℕ) → Each d.reads (IsBadStore at) → ⊥) → (Rose d.faults e.faults → ⊥) → IsFaultless r
unopened_faultless d e (status.BadStore at) failed sound disk = absurd (sound at failed.0)
unopened_faultless d e status.DiskFault failed sound disk = absurd (disk failed.0)
unopened_faultless d e status.Memory failed sound disk = tt
unopened_faultless d e _ failed sound disk = absurd failed
