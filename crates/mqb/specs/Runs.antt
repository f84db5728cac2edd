-- What the program does, by what the words of its command line ask for.
use Rattle.std.specs.Prelude.{◌≡◌, ◌⊎◌, List, None, Option, Result, Some, codes, ℕ}
use Rattle.mqb_commands.specs.Called.{CallsAt}
use Rattle.mqb_commands.specs.Checkpointed.{Checkpoints}
use Rattle.mqb_commands.specs.Helps.{help_text, version_text}
use Rattle.mqb_commands.specs.Peeked.{Peeks}
use Rattle.mqb_commands.specs.Said.{Inits, Lists, Makes}
use Rattle.mqb_connections.specs.Asked.{AsksForEach, AsksOnce}
use Rattle.mqb_connections.specs.Probed.{ProbesStore}
use Rattle.mqb_connections.specs.Reached.{ReachesStore}
use Rattle.mqb_connections.specs.Served.{AttendsFrom, MOST_ATTENDED, Nets, ServesFrom}
use Rattle.mqb_outside.specs.Disk.{View}
use Rattle.mqb_outside.specs.Net.{Ended}
use Rattle.mqb_outside.specs.Faults.{Rose}
use Rattle.mqb_replay.specs.Devices.{Devices}
use Rattle.mqb_replay.specs.Faults.{status_of}
use Rattle.mqb_replay.specs.Replays.{HasFailed, Replays}
use Rattle.mqb_replay.specs.Trials.{Tries}
use Rattle.mqb_replay.specs.declared.faults.ReplayFault.{ReplayFault}
use Rattle.mqb_commands.specs.Shown.{Shows}
use Rattle.mqb_shell.specs.Shells.{ShellsStore}
use Rattle.mqb_commands.specs.Outputs.{Says, Tells}
use Rattle.mqb_commands.specs.declared.status.Status.{Status}
use Rattle.mqb_serving.specs.declared.purpose.Errand.TheVariants as errand
use Rattle.mqb_commands.specs.declared.status.Status.TheVariants as status
use Rattle.mqb_words.specs.declared.commands.Command.{Command}
use Rattle.mqb_words.specs.declared.commands.Command.TheVariants as command

-- what is told of everything outside, before and after: what the input holds, what the output took,
-- the disk that is a store, the medium and the two disks of a replay, the net, the one moment of a
-- steady clock, and how often the clock was asked
pub record Outside : Type 1 where
  pub held : Option (List ℕ)
  pub held_now : Option (List ℕ)
  pub taken : Option (List ℕ)
  pub taken_now : Option (List ℕ)
  pub disk : View
  pub disk_now : View
  pub devices : Devices
  pub devices_now : Devices
  pub net : Nets
  pub moment : Option ℕ
  pub asked : ℕ
  pub asked_now : ℕ

-- a replay ended so, and the program with it
abbrev pub EndsWith : (Result (Unit {0}) ReplayFault → Type 0) → Status → Type 0
EndsWith replay r = (end : Result (Unit {0}) ReplayFault) × (r ≡ status_of end) × replay end

-- What each command does.
abbrev pub Does : Command → Outside → Status → Type 0
Does command.Replay o r =
    EndsWith (Replays o.held o.held_now o.devices o.devices_now o.taken o.taken_now) r
Does (command.Make orders) o r = Says (Makes orders) o.taken o.taken_now r
Does (command.Trial orders) o r =
    EndsWith (Tries orders o.devices o.devices_now o.taken o.taken_now) r
Does command.Show o r = Shows o.held o.held_now o.taken o.taken_now r
Does (command.Init identity) o r = Says (Inits identity o.disk o.disk_now) o.taken o.taken_now r
Does (command.Call asked) o r =
    Says (CallsAt asked o.moment o.disk o.disk_now) o.taken o.taken_now r
Does command.Checkpoint o r = Says (Checkpoints o.disk o.disk_now) o.taken o.taken_now r
Does command.List o r = Says (Lists o.disk o.disk_now) o.taken o.taken_now r
Does (command.Peek place count) o r =
    Says (Peeks place count o.moment o.disk o.disk_now) o.taken o.taken_now r
Does command.Probe o r =
    ProbesStore o.moment o.disk o.disk_now o.held o.held_now o.taken o.taken_now r
Does command.Shell o r = ShellsStore o.moment o.disk o.disk_now o.held o.held_now o.taken
    o.taken_now o.asked o.asked_now o.net r
Does (command.Serve count) o r =
    ServesFrom count o.moment o.disk o.disk_now o.net o.taken o.taken_now r
-- the seconds are how long it is waited for a peer, which no clause says
Does (command.Attend seconds) o r =
    AttendsFrom o.moment o.disk o.disk_now o.net o.taken o.taken_now r
Does (command.Push host address) o r =
    ReachesStore errand.Push address host o.moment o.disk o.disk_now o.net o.taken o.taken_now r
-- the seconds are how long it is waited for more, which no clause says
Does (command.Fetch host address seconds) o r =
    ReachesStore errand.Fetch address host o.moment o.disk o.disk_now o.net o.taken o.taken_now r
Does command.Help o r = Tells help_text status.Done o.taken o.taken_now r
Does command.Version o r = Tells version_text status.Done o.taken o.taken_now r

-- words that are no command are told so
abbrev pub Runs : Option Command → Outside → Status → Type 0
Runs None o r = Tells (codes "fault: usage\n") status.Usage o.taken o.taken_now r
Runs (Some asked) o r = Does asked o r

-- the program ends with a usage fault only where the words are no command
abbrev pub UsageHasCause : Option Command → Status → Type 0
UsageHasCause asked status.Usage = asked ≡ None
UsageHasCause asked _ = Unit {0}

-- The net's counts by which a command may end with a net fault: those of calls that gave no
-- connection, and of connections that were lost. Others use no net.
abbrev pub NetCause : Option Command → (faults faults_now lost lost_now : ℕ) → Type 0
NetCause (Some (command.Serve count)) faults faults_now lost lost_now = Rose faults faults_now
NetCause (Some (command.Attend seconds)) faults faults_now lost lost_now = Rose faults faults_now
NetCause (Some (command.Push host address)) faults faults_now lost lost_now =
    Rose faults faults_now ⊎ Rose lost lost_now
NetCause (Some (command.Fetch host address seconds)) faults faults_now lost lost_now =
    Rose faults faults_now ⊎ Rose lost lost_now
NetCause _ faults faults_now lost lost_now = ⊥

-- The disks' counts by which a command may end with a disk fault: those of the two disks of a
-- replay, and of all others that of the store.
abbrev pub DiskCause : Option Command → (faults faults_now : ℕ) → (before now : Devices) → Type 0
DiskCause (Some command.Replay) faults faults_now before now = HasFailed before now
DiskCause (Some (command.Trial orders)) faults faults_now before now = HasFailed before now
DiskCause _ faults faults_now before now = Rose faults faults_now

-- the program ends with a disk fault only by this cause
abbrev pub IsDiskFaultOf : Type 0 → Status → Type 0
IsDiskFaultOf cause status.DiskFault = cause
IsDiskFaultOf cause _ = Unit {0}

-- How often a command asks the clock, by what the net tells as finished: once for each connection,
-- once at most for a call, a peek and a probe, and else never.
abbrev pub Asks : Option Command → (ended ended_now : Option (List Ended)) → (asked asked_now : ℕ)
    → Type 0
Asks (Some (command.Serve count)) ended ended_now asked asked_now =
    AsksForEach count ended ended_now asked asked_now
Asks (Some (command.Attend seconds)) ended ended_now asked asked_now =
    AsksForEach MOST_ATTENDED ended ended_now asked asked_now
Asks (Some (command.Push host address)) ended ended_now asked asked_now =
    AsksForEach 1 ended ended_now asked asked_now
Asks (Some (command.Fetch host address seconds)) ended ended_now asked asked_now =
    AsksForEach 1 ended ended_now asked asked_now
Asks (Some command.Probe) ended ended_now asked asked_now = AsksOnce asked asked_now
-- with each line of a shell it is told how often
Asks (Some command.Shell) ended ended_now asked asked_now = Unit {0}
Asks (Some (command.Call call)) ended ended_now asked asked_now = AsksOnce asked asked_now
Asks (Some (command.Peek place count)) ended ended_now asked asked_now = AsksOnce asked asked_now
Asks _ ended ended_now asked asked_now = asked_now ≡ asked

-- an end of a command that makes one answer: it comes of no fault of the input, of the output, of
-- the net or of the words
abbrev pub IsQuiet : Status → Type 0
IsQuiet status.Usage = ⊥
IsQuiet status.ReadFault = ⊥
IsQuiet status.WriteFault = ⊥
IsQuiet status.NetFault = ⊥
IsQuiet _ = Unit {0}
