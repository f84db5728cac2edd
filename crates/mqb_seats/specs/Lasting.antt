-- What lasts of a manager and its disk, whatever is done with them and however that ends.
use Rattle.std.specs.Prelude.{[], ◌+◌, ◌∷◌, ◌≡◌, ◌≤◌, List, length}
use Rattle.mqb_outside.specs.Disk.{View}
use Rattle.mqb_model.specs.records.Applying.{apply}
use Rattle.mqb_model.specs.records.Record.{Record}
use Rattle.mqb_model.specs.state.Durable.{durable}
use Rattle.mqb_model.specs.state.State.{State}
use Rattle.mqb_moves.specs.Seats.{IsHeldOn, SeatState}

-- Records lead from one state to another: each is applied in turn, and between them nothing
-- changes that a store keeps.
abbrev pub LeadTo : List Record → State → State → Type 0
LeadTo [] s t = durable t ≡ durable s
LeadTo (r ∷ rs) s t = (u : State) × (durable u ≡ durable s) × LeadTo rs (apply u r) t

-- A store has what it had, and perhaps more records behind that.
pub record KeepsRecords (s t : SeatState) : Type 0 where
  pub added : List Record
  pub count : t.manager.store.journal.count ≡ s.manager.store.journal.count + length added
  pub leads : LeadTo added s.manager.store.state t.manager.store.state

-- The disk is held by the manager that is left, nothing that was recorded is lost, and the count of
-- faults did not fall.
pub record Lasts (d e : View) (s t : SeatState) : Type 0 where
  pub held : IsHeldOn e t
  pub keeps : KeepsRecords s t
  pub faults : d.faults ≤ e.faults
