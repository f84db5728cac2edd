-- How a shell ends.
use Rattle.std.proofs.Common.{◌≡◌, ◌⊎◌, ℕ, List, Option, inl, inr, refl, sym, subst}
use Rattle.mqb_commands.specs.Causes.{DiskFaultHasCause}
use Rattle.mqb_commands.specs.Opened.{IsNotOpened}
use Rattle.mqb_commands.specs.Outputs.{GoesOn, ReadFaultHasCause, WriteFaultHasCause}
use Rattle.mqb_commands.specs.declared.status.Status.{Status}
use Rattle.mqb_commands.specs.declared.status.Status.TheVariants as status
use Rattle.mqb_connections.specs.Causes.{NetFaultHasCause}
use Rattle.mqb_connections.specs.Served.{Nets}
use Rattle.mqb_outside.specs.Disk.{View}
use Rattle.mqb_outside.specs.Faults.{Rose}
use Rattle.mqb_outside.specs.Images.{Each}
use Rattle.mqb_shell.specs.Shells.{IsShellEnd, ShellsStore}
use Rattle.mqb_store_laws.specs.Faults.{IsBadStore}
use Rattle.mqb_words.specs.declared.commands.Command.{Command}
use Rattle.mqb.specs.Completeness.{IsDoneOrPeer, IsSound}
use Rattle.mqb.specs.Runs.{UsageHasCause}

-- It ends by no fault of the words or of the net.

pub shell_usage : (asked : Option Command) (r : Status) → IsShellEnd r → UsageHasCause asked r
shell_usage asked status.Usage ends = absurd ends
shell_usage asked _ ends = tt

pub shell_net : (cause : Type 0) (r : Status) → IsShellEnd r → NetFaultHasCause cause r
shell_net cause status.NetFault ends = absurd ends
shell_net cause _ ends = tt

-- A store that is opened is not said to be bad.

no_memory : (at : ℕ) → status.BadStore at ≡ status.Memory → ⊥
no_memory at e = cc

no_fault : (at : ℕ) → status.BadStore at ≡ status.WriteFault → ⊥
no_fault at e = cc

module _ (steady : Option ℕ) (d e : View) (held left before after : Option (List ℕ)) (asked asked_now : ℕ) (net : Nets) where
  bad_at : (at : ℕ) → ShellsStore steady d e held left before after asked asked_now net (status.BadStore at) → Each d.reads (IsBadStore at)
  bad_at at (inl opened) = absurd (elim opened.done.shell.ends [
    | inl stop ↦ stop.stops.ends.1 (subst GoesOn stop.stops.ends.0 tt)
    | inr (inl none) ↦ no_memory at none.0
    | inr (inr told) ↦ told.1.0
  ])
  bad_at at (inr closed) = elim closed.fails.told [
    | inl told ↦ (subst (IsNotOpened d e) (sym told.0) closed.fails.means.0).0
    | inr cut ↦ absurd (no_fault at cut.0)
  ]

  -- Where no device failed, a shell of a sound store reads its input to the end, or memory runs out.
  pub shell_ends : (reads reads_now writes writes_now : ℕ) (r : Status) → ShellsStore steady d e held left before after asked asked_now net r → IsShellEnd r
      → ReadFaultHasCause reads reads_now r → WriteFaultHasCause writes writes_now r → DiskFaultHasCause d.faults e.faults r
      → (Rose reads reads_now → ⊥) → (Rose writes writes_now → ⊥) → (Rose d.faults e.faults → ⊥) → (IsSound d → IsDoneOrPeer r) ⊎ (r ≡ status.Memory)
  shell_ends reads reads_now writes writes_now status.Done shells ends read write disk unread unwritten calm = inl (λ sound. inl refl)
  shell_ends reads reads_now writes writes_now (status.Peer why) shells ends read write disk unread unwritten calm = inl (λ sound. inr (why, refl))
  shell_ends reads reads_now writes writes_now status.Memory shells ends read write disk unread unwritten calm = inr refl
  shell_ends reads reads_now writes writes_now status.ReadFault shells ends read write disk unread unwritten calm = absurd (unread read)
  shell_ends reads reads_now writes writes_now status.WriteFault shells ends read write disk unread unwritten calm = absurd (unwritten write)
  shell_ends reads reads_now writes writes_now status.DiskFault shells ends read write disk unread unwritten calm = absurd (calm disk)
  shell_ends reads reads_now writes writes_now (status.BadStore at) shells ends read write disk unread unwritten calm = inl (λ sound. absurd (sound at (bad_at at shells)))
  shell_ends reads reads_now writes writes_now _ shells ends read write disk unread unwritten calm = absurd ends
