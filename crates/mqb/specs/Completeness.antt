-- What each command comes to where no device fails and its store is sound.
use Rattle.std.specs.Prelude.{[], ◌≡◌, ◌⊎◌, List, None, Ok, Option, Some, ℕ}
use Rattle.mqb_outside.specs.Disk.{View}
use Rattle.mqb_outside.specs.Images.{Each}
use Rattle.mqb_outside.specs.Faults.{Rose}
use Rattle.mqb_replay.specs.Completeness.{FitMedium, HoldsScript}
use Rattle.mqb_replay.specs.Devices.{Devices}
use Rattle.mqb_replay.specs.Replays.{AreEmpty}
use Rattle.mqb_script.specs.Script.{script_of}
use Rattle.mqb_script.specs.declared.events.Event.{Event}
use Rattle.mqb_serving.specs.declared.faults.PeerFault.{PeerFault}
use Rattle.mqb_commands.specs.declared.status.Status.{Status}
use Rattle.mqb_commands.specs.declared.status.Status.TheVariants as status
use Rattle.mqb_store_laws.specs.Faults.{IsBadStore}
use Rattle.mqb_transcript.specs.Generator.{generated}
use Rattle.mqb_words.specs.declared.commands.Command.{Command}
use Rattle.mqb_words.specs.declared.commands.Command.TheVariants as command

-- how often each device but the disks of a replay has failed, and how many connections were lost
pub record Faults : Type 0 where
  pub input : ℕ
  pub output : ℕ
  pub disk : ℕ
  pub net : ℕ
  pub lost : ℕ

-- where a command reaches a peer, no connection was lost
abbrev pub NoneLost : Option Command → (lost lost_now : ℕ) → Type 0
NoneLost (Some (command.Push host address)) lost lost_now = Rose lost lost_now → ⊥
NoneLost (Some (command.Fetch host address seconds)) lost lost_now = Rose lost lost_now → ⊥
NoneLost _ lost lost_now = Unit {0}

-- No device of a command failed but the disks of a replay. Connections of `serve` and
-- `attend` may be lost.
pub record NoneFailed (asked : Option Command) (before now : Faults) : Type 0 where
  pub input : Rose before.input now.input → ⊥
  pub output : Rose before.output now.output → ⊥
  pub disk : Rose before.disk now.disk → ⊥
  pub net : Rose before.net now.net → ⊥
  pub lost : NoneLost asked before.lost now.lost

-- The disk reads as a store, which is bad at no place. One that does not tell what
-- it reads as is none.
abbrev pub IsSound : View → Type 0
IsSound d = (at : ℕ) → Each d.reads (IsBadStore at) → ⊥

-- what came was read to its end, or it ended badly
abbrev pub IsDoneOrPeer : Status → Type 0
IsDoneOrPeer r = (r ≡ status.Done) ⊎ ((why : PeerFault) × (r ≡ status.Peer why))

-- It was replayed whole; or a disk of the replay failed while the stores were made, which is
-- the only end by a disk.
abbrev pub IsReplayed : Status → Type 0
IsReplayed r = (r ≡ status.Done) ⊎ (r ≡ status.DiskFault)

-- What a command comes to over a store, over the devices of a replay, and over an input that held
-- so much, where no device failed and memory did not run out.
abbrev pub EndsWell : Option Command → (store : View) → Devices → (held : Option (List ℕ)) → Status
    → Type 0
EndsWell None store devices held r = r ≡ status.Usage
EndsWell (Some command.Replay) store devices held r = (lines : List (ℕ × Event))
    → HoldsScript held lines → FitMedium lines → AreEmpty devices → IsReplayed r
EndsWell (Some (command.Make orders)) store devices held r = r ≡ status.Done
EndsWell (Some (command.Trial orders)) store devices held r =
    (lines : List (ℕ × Event)) → script_of (generated orders) ≡ Ok lines → FitMedium lines
    → AreEmpty devices → IsReplayed r
EndsWell (Some command.Show) store devices held r = IsDoneOrPeer r
EndsWell (Some (command.Init identity)) store devices held r = store.reads [] → r ≡ status.Done
EndsWell (Some (command.Call asked)) store devices held r =
    IsSound store → (r ≡ status.Done) ⊎ (r ≡ status.Refused)
EndsWell (Some command.Checkpoint) store devices held r =
    IsSound store → (r ≡ status.Done) ⊎ (r ≡ status.Refused)
EndsWell (Some command.List) store devices held r = IsSound store → r ≡ status.Done
EndsWell (Some (command.Peek place count)) store devices held r =
    IsSound store → (r ≡ status.Done) ⊎ (r ≡ status.Refused)
EndsWell (Some command.Probe) store devices held r = IsSound store → IsDoneOrPeer r
EndsWell (Some command.Shell) store devices held r = IsSound store → IsDoneOrPeer r
EndsWell (Some (command.Serve count)) store devices held r = IsSound store → r ≡ status.Done
EndsWell (Some (command.Attend seconds)) store devices held r = IsSound store → r ≡ status.Done
EndsWell (Some (command.Push host address)) store devices held r =
    IsSound store → IsDoneOrPeer r ⊎ (r ≡ status.Refused)
EndsWell (Some (command.Fetch host address seconds)) store devices held r =
    IsSound store → IsDoneOrPeer r ⊎ (r ≡ status.Refused)
EndsWell (Some command.Help) store devices held r = r ≡ status.Done
EndsWell (Some command.Version) store devices held r = r ≡ status.Done

-- A command ends well where no device failed, or memory ran out.
abbrev pub Completes : Option Command → (store : View) → Devices → (held : Option (List ℕ))
    → (before now : Faults) → Status → Type 0
Completes asked store devices held before now r =
    NoneFailed asked before now → EndsWell asked store devices held r ⊎ (r ≡ status.Memory)
