-- What a call comes to, as a plan: the record that is written, and what is done beside it.
use Rattle.std.specs.Prelude.{[], ◌≡◌, Err, IfSome, IsOk, Ok, Option, Result, false, is_some}
use Rattle.mqb_model.specs.declared.faults.SendFault.{SendFault}
use Rattle.mqb_model.specs.declared.faults.SendFault.TheVariants as send_fault
use Rattle.mqb_model.specs.declared.faults.TakeFault.{TakeFault}
use Rattle.mqb_model.specs.declared.faults.TakeFault.TheVariants as take_fault
use Rattle.mqb_model.specs.laws.Keeping.{StaysValid}
use Rattle.mqb_model.specs.managers.Beside.{Beside, beside_done}
use Rattle.mqb_model.specs.managers.Manager.{Manager, is_down}
use Rattle.mqb_model.specs.managers.Outcomes.{Outcome, answering, recorded}
use Rattle.mqb_model.specs.managers.Valid.{IsValidManager, IsWritable}
use Rattle.mqb_model.specs.records.Record.{Record}
use Rattle.mqb_model.specs.state.Durable.{durable}
use Rattle.mqb_model.specs.state.State.{State}

-- the record, where there is one, and what is done to express messages beside it
pub record Plan : Type 0 where
  pub written : Option Record
  pub beside : Beside

-- what a call comes to by a plan: it answers this, what is known of the connection stays,
-- and no packet goes out
abbrev pub outcome_of : {A : Type 0} → Manager → Plan → A → Outcome A
outcome_of m p answer = record {
  answer = answer;
  touches = is_some p.written;
  entry = p.written;
  beside = p.beside;
  rest = m.rest;
  packets = [];
}

-- This holds of whatever manager that keeps this and is up.
abbrev pub OfManagers : State → (Manager → Type 0) → Type 0
OfManagers s P = (m : Manager) → m.state ≡ s → is_down m ≡ false → P m

-- To whatever manager that keeps this and is up, a call comes to this plan, and answers this.
abbrev pub ComesTo : {V E : Type 0} → State → (Manager → Outcome (Result V E)) → Plan → V → Type 0
ComesTo s call p answer = OfManagers s (λ m. call m ≡ outcome_of m p (Ok answer))

-- Whatever manager that keeps this and is up refuses a call for this reason, and nothing changes.
abbrev pub Refuses : {V E : Type 0} → State → (Manager → Outcome (Result V E)) → E → Type 0
Refuses s call why = OfManagers s (λ m. call m ≡ answering m (Err why))

-- It refuses a take so; memory is wanting for none that it refuses.
abbrev pub RefusesTake : {V : Type 0} → State → (Manager → Outcome (Result V TakeFault)) → TakeFault
    → Type 0
RefusesTake s call take_fault.Memory = OfManagers s (λ m. IsOk (call m).answer)
RefusesTake s call why = Refuses s call why

-- It refuses a send so, or memory is wanting.
abbrev pub RefusesSend : {V : Type 0} → State → (Manager → Outcome (Result V SendFault)) → SendFault
    → Type 0
RefusesSend s call send_fault.Memory = Unit {0}
RefusesSend s call why = Refuses s call why

-- What the record and the work of a plan leave.

-- The record fits the state, and is as one that was read.
abbrev pub CanWrite : State → Plan → Type 0
CanWrite s p = IfSome p.written (IsWritable s)

-- A valid manager that keeps this and is up is valid after a plan, whether it goes
-- well or the disk fails.
abbrev pub KeepsValid : State → Plan → Type 0
KeepsValid s p = (m : Manager) → IsValidManager m → m.state ≡ s → is_down m ≡ false
    → StaysValid m (outcome_of {A = Unit {0}} m p tt)

-- the state that a plan leaves
abbrev pub state_left : State → Plan → State
state_left s p = beside_done p.beside (recorded s p.written)

-- Where a valid manager keeps this and is up, the work leaves what the store stands for.
abbrev pub KeepsStore : State → Plan → Type 0
KeepsStore s p = (m : Manager) → IsValidManager m → m.state ≡ s → is_down m ≡ false
    → durable (state_left s p) ≡ durable (recorded s p.written)
