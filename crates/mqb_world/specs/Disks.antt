-- What becomes of the disk of a manager in an event.
use Rattle.std.specs.Prelude.{[], ◌&&◌, ◌∷◌, ◌≡◌, Bool, List, Option, Some, false, if◌then◌else◌}
use Rattle.std.specs.Prelude.{is_some, true, ℕ}
use Rattle.mqb_deliveries.specs.Failing.{failures_in, is_for}
use Rattle.mqb_outside.specs.Disk.{Counted, Switch, View}
use Rattle.mqb_outside.specs.declared.power.Mode.{Mode}
use Rattle.mqb_outside.specs.declared.power.Pick.{Pick}
use Rattle.mqb_network.specs.Choices.{Failed, Failure, Stopped}
use Rattle.mqb_network.specs.Network.{Note}
use Rattle.mqb_outside.specs.Faults.{Rose}
use Rattle.mqb_script.specs.Managers.{which_at}
use Rattle.mqb_script.specs.declared.events.Event.{Event}
use Rattle.mqb_script.specs.declared.events.Event.TheVariants as event
use Rattle.mqb_script.specs.declared.managers.Which.{Which}
use Rattle.mqb_script.specs.declared.managers.Which.TheVariants.{Alpha, Beta}
use Rattle.mqb_moves.specs.Seats.{SeatState}
use Rattle.mqb_turns.specs.mqb_seats.Called.{failure_of, how_by}
use Rattle.mqb_turns.specs.mqb_seats.Opened.{IsAsLeft}
use Rattle.mqb_traffic.specs.Networks.{index_of}
use Rattle.mqb_transcript.specs.declared.replies.Reply.{Reply}
use Rattle.mqb_transcript.specs.declared.replies.Reply.TheVariants as reply
use Rattle.mqb_turns.specs.Rewrites.{IsFarAsSaid}
use Rattle.mqb_turns.specs.Starts.{IsToldByRecords}
use Rattle.mqb_runs.specs.Requests.{actor, request_of}

-- one manager is the other one, or itself
abbrev pub is_same : Which → Which → Bool
is_same Alpha Alpha = true
is_same Beta Beta = true
is_same _ _ = false

-- The power switch.

-- what an event asks of the switch of a manager's disk
pub data Switching : Type 0 where
  Arms : (call : ℕ) → Mode → Switching
  Restarts : Pick → Switching
  LeavesIt : Switching

abbrev pub switching : Which → Event → Switching
switching which (event.Arm manager call mode) =
    if is_same which (which_at manager) then Arms call mode else LeavesIt
switching which (event.Restart manager pick) =
    if is_same which (which_at manager) then Restarts pick else LeavesIt
switching which _ = LeavesIt

-- An arming is counted, and is exactly this call and mode. A restart is
-- counted, and tells its pick.
abbrev pub SwitchGoes : Switching → (armed : Option (ℕ × Mode)) → (before after : Switch) → Type 0
SwitchGoes (Arms call mode) armed s t = (armed ≡ Some (call, mode)) × Counted 1 s.arms t.arms
    × (t.restarts ≡ s.restarts) × (t.last_pick ≡ s.last_pick)
    × (t.last_left ≡ s.last_left)
SwitchGoes (Restarts pick) armed s t =
    (t.arms ≡ s.arms) × Counted 1 s.restarts t.restarts × (t.last_pick ≡ Some pick)
SwitchGoes LeavesIt armed s t = t ≡ s

-- A restart leaves what a crash may leave, and whatever it is told as, nothing is written to
-- the disk behind that.
abbrev pub StaysAsLeft : Switching → View → Type 0
StaysAsLeft (Restarts pick) d = IsAsLeft d
StaysAsLeft _ d = Unit {0}

-- Records.

-- A restart is told by how many records the manager has behind it, and no other
-- event speaks of that.
abbrev pub RecordsGo : Switching → Reply → (before after : ℕ) → Type 0
RecordsGo (Restarts pick) given before after = IsToldByRecords given before after
RecordsGo _ given before after = Unit {0}

-- Bases.

-- an event asks this manager to write its state anew
abbrev pub rewrites : Which → Event → Bool
rewrites which (event.Checkpoint manager) = is_same which (which_at manager)
rewrites which _ = false

-- That is told as too far on exactly where the manager is up and its journal says so, and no
-- other event speaks of it.
abbrev pub FarGoes : Bool → SeatState → Reply → Type 0
FarGoes true s given = IsFarAsSaid s given
FarGoes false s given = Unit {0}

-- Failures.

-- how a disk failed, as the reply to an event of one manager tells
abbrev pub failures_of : Reply → List Failure
failures_of reply.Stopped = Stopped ∷ []
failures_of reply.Failed = Failed ∷ []
failures_of _ = []

-- an event is one of this manager alone that may call its disk
abbrev pub calls_disk_of : Which → Event → Bool
calls_disk_of which (event.Pump manager now) = is_same which (which_at manager)
calls_disk_of which (event.Checkpoint manager) = is_same which (which_at manager)
calls_disk_of which (event.Restart manager pick) = is_same which (which_at manager)
calls_disk_of which e = is_some (request_of e) && is_same which (which_at (actor e))

-- how the disk of a manager failed in an event of one manager
abbrev pub failures_alone : Which → Event → Reply → List Failure
failures_alone which e given = if calls_disk_of which e then failures_of given else []

-- How the disk of a manager failed in an event, as the reply tells. A packet is heard by the
-- manager that it is for, as the notes of all packets tell.
abbrev pub failures_told : List Note → Which → Event → Reply → List Failure
failures_told notes which (event.Flow manager now) given =
    failures_in notes manager (index_of which) given
failures_told notes which (event.Deliver packet now) given =
    if is_for notes (index_of which) packet then failures_of given else []
failures_told notes which e given = failures_alone which e given

-- It is told whether the disk has stopped, but for a restart, which is always
-- told as one that failed.
abbrev pub IsToldSo : Event → (stopped : Bool) → Failure → Type 0
IsToldSo (event.Restart manager pick) stopped how = how ≡ Failed
IsToldSo e stopped how = how ≡ failure_of (how_by stopped)

-- The count of faults rose where a failure is told, which is one at most, and else it stays.
abbrev pub FaultsGo : Event → (stopped : Bool) → (before after : ℕ) → List Failure → Type 0
FaultsGo e stopped before after [] = after ≡ before
FaultsGo e stopped before after (how ∷ []) = Rose before after × IsToldSo e stopped how
FaultsGo e stopped before after _ = ⊥
