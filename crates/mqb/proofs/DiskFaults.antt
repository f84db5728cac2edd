-- The disk faults of the commands that are no replay.
use Rattle.std.proofs.Common.{◌≡◌, Some, refl, sym, subst, ℕ}
use Rattle.mqb_commands.specs.Causes.{DiskFaultHasCause}
use Rattle.mqb_outside.specs.Faults.{Rose}
use Rattle.mqb_replay.specs.Devices.{Devices}
use Rattle.mqb_commands.specs.declared.status.Status.{Status}
use Rattle.mqb_commands.specs.declared.status.Status.TheVariants as status
use Rattle.mqb_words.specs.declared.commands.Command.{Command}
use Rattle.mqb.specs.Runs.{DiskCause, IsDiskFaultOf}

of_store : (before after : ℕ) (r : Status) → DiskFaultHasCause before after r → IsDiskFaultOf (Rose before after) r
of_store before after status.DiskFault cause = cause
of_store before after _ cause = tt

-- Such a command fails by the disk of its store.
pub store_disk : (asked is : Command) (before after : ℕ) (b a : Devices) (r : Status) → asked ≡ is → DiskCause (Some is) before after b a ≡ Rose before after
    → DiskFaultHasCause before after r → IsDiskFaultOf (DiskCause (Some asked) before after b a) r
store_disk asked is before after b a r same by cause =
    subst (λ (c : Command). IsDiskFaultOf (DiskCause (Some c) before after b a) r) (sym same)
    (subst (λ (c : Type 0). IsDiskFaultOf c r) (sym by) (of_store before after r cause))

-- one that has no disk does not
pub none_disk : (cause : Type 0) (r : Status) → (r ≡ status.DiskFault → ⊥) → IsDiskFaultOf cause r
none_disk cause status.DiskFault apart = absurd (apart refl)
none_disk cause _ apart = tt
