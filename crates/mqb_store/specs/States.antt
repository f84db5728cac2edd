-- What is seen of a manager's store.
use Rattle.std.specs.Prelude.{◌≡◌, List, false, ℕ}
use Rattle.mqb_base.specs.declared.ledger.Line.{Line}
use Rattle.mqb_outside.specs.Disk.{View}
use Rattle.mqb_journal.specs.States.{JournalState}
use Rattle.mqb_model.specs.state.State.{State}
use Rattle.mqb_store_laws.specs.Images.{IsOn}

-- the state, the journal of its records, the entry that was spelled last, and the
-- lines of the last record
pub record StoreState : Type 0 where
  pub state : State
  pub journal : JournalState
  pub entry : List ℕ
  pub lines : List Line

-- no write and no checkpoint has failed
abbrev pub IsUp : StoreState → Type 0
IsUp w = w.journal.down ≡ false

-- a disk stands for the base and the records of this store, and they for what it has of its state
abbrev pub IsStoredOn : View → StoreState → Type 0
IsStoredOn d w = IsOn d w.journal w.state

-- the same but for the entry that was spelled last
pub record IsSameStore (w x : StoreState) : Type 0 where
  pub state : x.state ≡ w.state
  pub journal : x.journal ≡ w.journal
  pub lines : x.lines ≡ w.lines
