-- How a pump goes, step by step.
use Rattle.std.specs.Prelude.{[], ◌++◌, ◌∷◌, ◌≡◌, All, Bool, Err, IsSomeAnd, List, None, OnErr}
use Rattle.std.specs.Prelude.{OnOk, Result, Some, flat_map, fold, map, slice_get, ℕ}
use Rattle.mqb_base.specs.declared.heads.SessionHead.{SessionHead}
use Rattle.mqb_outside.specs.Disk.{View}
use Rattle.mqb_packet.specs.Plain.{plain_spelling}
use Rattle.mqb_packet.specs.Values.{IsPacket}
use Rattle.mqb_session.specs.State as one_end
use Rattle.mqb_choosing.specs.Choices.{origin_of}
use Rattle.mqb_choosing.specs.Going.{Going, candidates_to, chosen_to, known}
use Rattle.mqb_choosing.specs.declared.choice.Choice.{Choice}
use Rattle.mqb_store.specs.Noting.{CanNote}
use Rattle.mqb_model.specs.calls.pump.Candidates.{Candidate}
use Rattle.mqb_model.specs.calls.pump.Pump.{PumpOutcome, pump, sending_all}
use Rattle.mqb_model.specs.declared.faults.PumpFault.{PumpFault}
use Rattle.mqb_model.specs.declared.faults.PumpFault.TheVariants as fault
use Rattle.mqb_model.specs.managers.Beside.{Origin, noted}
use Rattle.mqb_model.specs.state.State.{State}
use Rattle.mqb_store.specs.declared.faults.WriteFault.{WriteFault}
use Rattle.mqb_store.specs.declared.faults.WriteFault.TheVariants as write
use Rattle.mqb_choosing.specs.Plans as plans
use Rattle.mqb_manager.specs.Calls.{CallsForRecord, IsCall}
use Rattle.mqb_manager.specs.Seen.{seen}
use Rattle.mqb_manager.specs.States.{IsOnDisk, IsUp, ManagerState, manager_of}

-- what a pump answers whose marks were not written
abbrev pub pump_fault : WriteFault → PumpFault
pump_fault write.Memory = fault.Memory
pump_fault write.DiskFault = fault.DiskFault

-- where a packet came from, and its header
abbrev pub sent_as : Choice → Origin × SessionHead
sent_as choice = (origin_of choice.origin, choice.head)

-- each packet can be noted in its turn
abbrev pub CanNoteAll : ℕ → State → List (Origin × SessionHead) → Type 0
CanNoteAll peer s [] = Unit {0}
CanNoteAll peer s (given ∷ sent) =
    CanNote peer given.1 s given.0 × CanNoteAll peer (noted peer s given) sent

-- a manager that sent these packets to the peer at an index
abbrev pub with_sent : ManagerState → ℕ → Going → List ℕ → List Bool → ManagerState
with_sent m peer g cursors owes =
    seen (record m.store { state = fold (noted peer) m.store.state (map sent_as g.choices) })
    (Some g.session) cursors owes

-- whatever could go from a session to the peer at an index
abbrev pub waiting_for : ManagerState → one_end.State → ℕ → ℕ → List Candidate
waiting_for m session now k = candidates_to m.store.state (known session m.cursors m.owes) now k

-- what goes to it
abbrev pub going_to : ManagerState → one_end.State → ℕ → ℕ → List Candidate
going_to m session now k = chosen_to m.store.state session m.cursors m.owes now k

-- They go, as it was planned.
abbrev pub IsPlanned : ManagerState → one_end.State → ℕ → ℕ → Going → List ℕ → List Bool → Type 0
IsPlanned m session now k g cursors owes =
    plans.IsPlanned m.store.state session m.cursors m.owes now k g cursors owes

-- A manager that is up, on a disk, with its end of a session.
pub record IsLinkedOn (d : View) (m : ManagerState) (end : one_end.State) : Type 0 where
  pub up : IsUp m
  pub on : IsOnDisk d m
  pub session : m.session ≡ Some end

-- A pump comes to sending them.
abbrev pub ComesToSend : ManagerState → one_end.State → ℕ → ℕ → Type 0
ComesToSend m session now k = IsSomeAnd (slice_get m.store.state.peers k)
    (λ to. pump (manager_of m) now
    ≡ sending_all (manager_of m) now session k to.guid (going_to m session now k))

-- How a pump ends that comes to an outcome. `kept` says that the disk is as it was.
pub record IsPumped (d e : View) (kept : Type 0) (m n : ManagerState) (o : PumpOutcome)
    (before after : List ℕ) (r : Result ℕ PumpFault) : Type 0 where
  pub call : IsCall fault.Memory fault.DiskFault d e m n o r
  pub sent : OnOk r (after ≡ before ++ flat_map plain_spelling o.packets)
  -- what went can be read back: its numbers fit their types
  pub fits : OnOk r (All IsPacket o.packets)
  pub refused : OnErr r (after ≡ before)
  pub untouched : o.entry ≡ None → kept
  pub memory : r ≡ Err fault.Memory → kept
  pub calls : CallsForRecord d e o.entry r
