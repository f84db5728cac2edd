-- A shell: what it answers of its input, and how it ends.
use Rattle.std.specs.Prelude.{[], ◌≡◌, ◌≤◌, ◌≢◌, ◌∷◌, ◌⊎◌, List, Option, length, ℕ}
use Rattle.mqb_commands.specs.Opened.{OnStore}
use Rattle.mqb_commands.specs.Outputs.{IsFaultLine, Says, TookFront}
use Rattle.mqb_commands.specs.Said.{FailsToOpen}
use Rattle.mqb_commands.specs.Shown.{IsAtEnd}
use Rattle.mqb_commands.specs.Texts.{fault_text}
use Rattle.mqb_commands.specs.declared.status.Status.{Status}
use Rattle.mqb_commands.specs.declared.status.Status.TheVariants as status
use Rattle.mqb_connections.specs.Served.{IsUntouched, Nets}
use Rattle.mqb_manager.specs.States.{IsUp, ManagerState}
use Rattle.mqb_outside.specs.Disk.{IsSettled, View}
use Rattle.mqb_outside.specs.Faults.{END}
use Rattle.mqb_outside.specs.Told.{Gave, Took}
use Rattle.mqb_serving.specs.declared.faults.PeerFault.TheVariants as peer
use Rattle.mqb_shell.specs.Answered.{Answered, Answers, IsUnasked, StopsAt, lines_of}
use Rattle.mqb_shell.specs.Lines.{IsCut, IsOneLine}
use Rattle.mqb_shell.specs.Standing.{Standing}

-- Why no more is read behind what was read, where that ends with no line feed: the input failed, or
-- it ended within a line, or there was too much of it.
abbrev pub EndsReading : (read rest : List ℕ) → (left : Option (List ℕ)) → Status → Type 0
EndsReading read rest left status.ReadFault = Unit {0}
EndsReading read rest left (status.Peer peer.PeerClosed) = (rest ≢ []) × IsAtEnd left
EndsReading read rest left (status.Peer peer.TooMuch) = END ≤ length read
EndsReading read rest left _ = ⊥

-- The end of an input behind these bytes of a line, or a front of what is said of them.
abbrev pub EndsInput : (rest : List ℕ) → (before after : Option (List ℕ)) → Status → Type 0
EndsInput [] before after r = (r ≡ status.Done) × (after ≡ before)
EndsInput (byte ∷ bytes) before after r =
    Says (IsFaultLine (status.Peer peer.PeerClosed)) before after r

-- It ends so, and says why, or a front of that.
abbrev pub TellsReading : (read rest : List ℕ) → (left before after : Option (List ℕ)) → Status
    → Type 0
TellsReading read rest left before after status.WriteFault =
    (why : Status) × EndsReading read rest left why × TookFront before after (fault_text why)
TellsReading read rest left before after r =
    EndsReading read rest left r × Took before after (fault_text r)

-- How a shell ends behind the lines that it answered, by what was read behind them.
abbrev pub EndsBehind : (steady : Option ℕ) → (read rest : List ℕ) → (left : Option (List ℕ))
    → (b a : Standing) → (before after : Option (List ℕ)) → Status → Type 0
EndsBehind steady read rest left b a before after status.Done =
    (rest ≡ []) × IsAtEnd left × (a ≡ b) × (after ≡ before)
EndsBehind steady read rest left b a before after r = StopsAt rest steady b a before after r
    ⊎ IsUnasked b a before after r
    ⊎ (IsOneLine rest × TellsReading read rest left before after r × (a ≡ b))

-- From what an input held and an output had taken before to behind it: the lines that were read are
-- answered, up to the one with which the shell ended.
pub record Shell (steady : Option ℕ) (held left before after : Option (List ℕ)) (b a : Standing)
    (r : Status) : Type 0 where
  pub read : List ℕ
  pub gave : Gave held left read
  -- the lines whose answers were written whole, and what was read behind them
  pub done : List Answered
  pub rest : List ℕ
  pub cut : IsCut read (lines_of done) rest
  -- how all stands behind the last of these answers, and what the output has taken then
  pub mid : Standing
  pub told : Option (List ℕ)
  pub answers : Answers steady b before done mid told
  pub ends : EndsBehind steady read rest left mid a told after r

-- what is told of a manager that was opened and of what it works with, where the disk's faults and
-- the clock's askings are counted
abbrev pub standing : ManagerState → (disk_faults asked : ℕ) → Nets → Standing
standing m disk_faults asked net = record {
  manager = m;
  disk_faults = disk_faults;
  asked = asked;
  finished = net.finished;
  faults = net.faults;
  lost = net.lost;
  idle = net.idle;
}

-- the same behind the shell
abbrev pub standing_now : ManagerState → (disk_faults asked : ℕ) → Nets → Standing
standing_now m disk_faults asked net = record {
  manager = m;
  disk_faults = disk_faults;
  asked = asked;
  finished = net.finished_now;
  faults = net.faults_now;
  lost = net.lost_now;
  idle = net.idle_now;
}

-- A shell of the manager to which a store opens. While that is up, no crash leaves
-- anything but what it is.
pub record ShellOn (steady : Option ℕ) (d e : View) (held left before after : Option (List ℕ))
    (asked asked_now : ℕ) (net : Nets) (r : Status) (m n : ManagerState) : Type 0 where
  pub shell : Shell steady held left before after (standing m d.faults asked net)
      (standing_now n e.faults asked_now net) r
  pub settled : IsUp n → IsSettled e

-- The store was not opened: its fault line is said, nothing is read, and the net and the clock
-- are left as they were.
pub record IsClosed (d e : View) (held left before after : Option (List ℕ)) (asked asked_now : ℕ)
    (net : Nets) (r : Status) : Type 0 where
  pub fails : Says (FailsToOpen d e) before after r
  pub unread : left ≡ held
  pub never : asked_now ≡ asked
  pub untouched : IsUntouched net

-- `shell`
abbrev pub ShellsStore : (steady : Option ℕ) → (d e : View)
    → (held left before after : Option (List ℕ)) → (asked asked_now : ℕ) → Nets → Status → Type 0
ShellsStore steady d e held left before after asked asked_now net r =
    OnStore (ShellOn steady d e held left before after asked asked_now net r) d e
    ⊎ IsClosed d e held left before after asked asked_now net r

-- a shell ends so, and never with the end of a line that it goes on behind
abbrev pub IsShellEnd : Status → Type 0
IsShellEnd status.Done = Unit {0}
IsShellEnd status.ReadFault = Unit {0}
IsShellEnd status.WriteFault = Unit {0}
IsShellEnd status.DiskFault = Unit {0}
IsShellEnd (status.BadStore at) = Unit {0}
IsShellEnd (status.Peer peer.PeerClosed) = Unit {0}
IsShellEnd (status.Peer peer.TooMuch) = Unit {0}
IsShellEnd status.Memory = Unit {0}
IsShellEnd _ = ⊥
