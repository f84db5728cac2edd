-- The ends of replays and of trials, and where they come from.
use Rattle.std.proofs.Common.{◌≡◌, ◌∙◌, ◌⊎◌, List, Option, Some, inl, inr, refl, sym, subst, ℕ}
use Rattle.std.specs.Prelude.{Err, Ok, Result}
use Rattle.mqb_connections.specs.Causes.{NetFaultHasCause}
use Rattle.mqb_outside.specs.Faults.{Rose}
use Rattle.mqb_replay.specs.Devices.{Devices}
use Rattle.mqb_replay.specs.Faults.{status_of}
use Rattle.mqb_replay.specs.Replays.{Ends, EndsSo, HasFailed, Replays, Tells}
use Rattle.mqb_replay.specs.Trials.{EndsTrial, Tries, TriesLines}
use Rattle.mqb_replay.specs.declared.faults.ReplayFault.{ReplayFault}
use Rattle.mqb_replay.specs.declared.faults.ReplayFault.TheVariants as fault
use Rattle.mqb_commands.specs.Outputs.{ReadFaultHasCause, WriteFaultHasCause}
use Rattle.mqb_commands.specs.declared.status.Status.{Status}
use Rattle.mqb_words.specs.declared.commands.Command.{Command}
use Rattle.mqb_words.specs.declared.commands.Command.TheVariants as command
use Rattle.mqb.specs.Runs.{DiskCause, Does, IsDiskFaultOf, Outside, UsageHasCause}

-- How a replay ends.
abbrev End : Type 0
End = Result (Unit {0}) ReplayFault

pub replay_does : (asked : Command) (o : Outside) (end : End) (r : Status) → asked ≡ command.Replay → r ≡ status_of end
    → Replays o.held o.held_now o.devices o.devices_now o.taken o.taken_now end → Does asked o r
replay_does asked o end r same is replays = subst (λ (a : Command). Does a o r) (sym same) (end, is, replays)

pub trial_does : (asked : Command) (orders : ℕ) (o : Outside) (end : End) (r : Status) → asked ≡ command.Trial orders → r ≡ status_of end
    → Tries orders o.devices o.devices_now o.taken o.taken_now end → Does asked o r
trial_does asked orders o end r same is tries = subst (λ (a : Command). Does a o r) (sym same) (end, is, tries)

-- It ends by no fault of the words or of the net.

usage_by : (asked : Option Command) (end : End) → UsageHasCause asked (status_of end)
usage_by asked (Ok done) = tt
usage_by asked (Err fault.Memory) = tt
usage_by asked (Err _) = tt

pub replay_usage : (asked : Option Command) (end : End) (r : Status) → r ≡ status_of end → UsageHasCause asked r
replay_usage asked end r is = subst (UsageHasCause asked) (sym is) (usage_by asked end)

net_by : (cause : Type 0) (end : End) → NetFaultHasCause cause (status_of end)
net_by cause (Ok done) = tt
net_by cause (Err fault.Memory) = tt
net_by cause (Err _) = tt

pub replay_net : (cause : Type 0) (end : End) (r : Status) → r ≡ status_of end → NetFaultHasCause cause r
replay_net cause end r is = subst (NetFaultHasCause cause) (sym is) (net_by cause end)

-- The faults of the input, of the output and of the disks are those of the replay.

read_by : (before after : ℕ) (end : End) → (end ≡ Err fault.ReadFault → Rose before after) → ReadFaultHasCause before after (status_of end)
read_by before after (Ok done) cause = tt
read_by before after (Err fault.ReadFault) cause = cause refl
read_by before after (Err _) cause = tt

pub replay_read : (before after : ℕ) (end : End) (r : Status) → r ≡ status_of end → (end ≡ Err fault.ReadFault → Rose before after) → ReadFaultHasCause before after r
replay_read before after end r is cause = subst (ReadFaultHasCause before after) (sym is) (read_by before after end cause)

write_by : (before after : ℕ) (end : End) → (end ≡ Err fault.WriteFault → Rose before after) → WriteFaultHasCause before after (status_of end)
write_by before after (Ok done) cause = tt
write_by before after (Err fault.WriteFault) cause = cause refl
write_by before after (Err _) cause = tt

pub replay_write : (before after : ℕ) (end : End) (r : Status) → r ≡ status_of end → (end ≡ Err fault.WriteFault → Rose before after) → WriteFaultHasCause before after r
replay_write before after end r is cause = subst (WriteFaultHasCause before after) (sym is) (write_by before after end cause)

disk_by : (cause : Type 0) (end : End) → (end ≡ Err fault.DiskFault → cause) → IsDiskFaultOf cause (status_of end)
disk_by cause (Ok done) because = tt
disk_by cause (Err fault.DiskFault) because = because refl
disk_by cause (Err _) because = tt

disk_of : (cause : Type 0) (end : End) (r : Status) → r ≡ status_of end → (end ≡ Err fault.DiskFault → cause) → IsDiskFaultOf cause r
disk_of cause end r is because = subst (IsDiskFaultOf cause) (sym is) (disk_by cause end because)

-- An end that is told is the one before, or one of the output or of memory.
told_before : (P : End → Type 0) (end r : End) (taken after : Option (List ℕ)) (why : ReplayFault) → Tells end taken after r → r ≡ Err why
    → (◌≡◌ {A = End} (Err why) (Err fault.WriteFault) → ⊥) → (◌≡◌ {A = End} (Err why) (Err fault.Memory) → ⊥) → P end → P (Err why)
told_before P (Ok done) r taken after why told is no_write no_memory given = absurd (let none : ⊥ = cc in none)
told_before P (Err fault.WriteFault) r taken after why told is no_write no_memory given = absurd (no_write (sym is ∙ told.0))
told_before P (Err fault.Memory) r taken after why told is no_write no_memory given = absurd (no_memory (sym is ∙ told.0))
told_before P (Err f) r taken after why (inl told) is no_write no_memory given = subst P (sym told.0 ∙ is) given
told_before P (Err f) r taken after why (inr (inl told)) is no_write no_memory given = absurd (no_write (sym is ∙ told.0))
told_before P (Err f) r taken after why (inr (inr told)) is no_write no_memory given = absurd (no_memory (sym is ∙ told.0))

module _ (b a : Devices) (before after : Option (List ℕ)) (end : End) where
  replay_failed : (held rest : Option (List ℕ)) → Replays held rest b a before after end → end ≡ Err fault.DiskFault → HasFailed b a
  replay_failed held rest replays is =
      let ends : EndsSo held rest b a before replays.taken (Err fault.DiskFault) =
      told_before (EndsSo held rest b a before replays.taken) replays.end end replays.taken after fault.DiskFault replays.told is (λ e. cc) (λ e. cc) replays.ends in
      ends.2.2.0

  trial_failed : (orders : ℕ) → Tries orders b a before after end → end ≡ Err fault.DiskFault → HasFailed b a
  trial_failed orders tries is =
      let ends : EndsTrial orders b a before tries.taken (Err fault.DiskFault) =
      told_before (EndsTrial orders b a before tries.taken) tries.end end tries.taken after fault.DiskFault tries.told is (λ e. cc) (λ e. cc) tries.ends in
      ends.2.0

  -- a trial reads no input
  pub trial_read : (orders : ℕ) → Tries orders b a before after end → end ≡ Err fault.ReadFault → ⊥
  trial_read orders tries is =
      let ends : EndsTrial orders b a before tries.taken (Err fault.ReadFault) =
      told_before (EndsTrial orders b a before tries.taken) tries.end end tries.taken after fault.ReadFault tries.told is (λ e. cc) (λ e. cc) tries.ends in
      ends.2.1

  pub replay_disk : (asked : Command) (faults faults_now : ℕ) (held rest : Option (List ℕ)) (r : Status) → asked ≡ command.Replay → r ≡ status_of end
      → Replays held rest b a before after end → IsDiskFaultOf (DiskCause (Some asked) faults faults_now b a) r
  replay_disk asked faults faults_now held rest r same is replays =
      subst (λ (c : Command). IsDiskFaultOf (DiskCause (Some c) faults faults_now b a) r) (sym same) (disk_of (HasFailed b a) end r is (replay_failed held rest replays))

  pub trial_disk : (asked : Command) (orders : ℕ) (faults faults_now : ℕ) (r : Status) → asked ≡ command.Trial orders → r ≡ status_of end
      → Tries orders b a before after end → IsDiskFaultOf (DiskCause (Some asked) faults faults_now b a) r
  trial_disk asked orders faults faults_now r same is tries =
      subst (λ (c : Command). IsDiskFaultOf (DiskCause (Some c) faults faults_now b a) r) (sym same) (disk_of (HasFailed b a) end r is (trial_failed orders tries))
