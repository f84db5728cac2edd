-- What is released was stored before.
use Rattle.std.specs.Prelude.{◌++◌, ◌∷◌, ◌≡◌, ◌⊎◌, IsTrue, List, Some, slice_get, ℕ}
use Rattle.mqb_base.specs.declared.class.Class.{Class}
use Rattle.mqb_base.specs.declared.ids.Identity.{Identity}
use Rattle.mqb_base.specs.declared.ids.MessageId.{MessageId}
use Rattle.mqb_base.specs.declared.ledger.Line.{Line}
use Rattle.mqb_base.specs.declared.ledger.Line.TheVariants as line
use Rattle.mqb_exactly_once.specs.Words.{In}
use Rattle.mqb_model.specs.records.Applying.{lines_of}
use Rattle.mqb_model.specs.records.Record.{Part}
use Rattle.mqb_model.specs.records.Record as entry
use Rattle.mqb_model.specs.records.Releases.{has_recoverable}
use Rattle.mqb_model.specs.rules.Numbers.{own_id}
use Rattle.mqb_model.specs.state.State.{State}
use Rattle.mqb_network.specs.Courses.{Course, Written}
use Rattle.mqb_network.specs.Laws.{Always, lines_written}
use Rattle.mqb_network.specs.Network.{manager_at}
use Rattle.mqb_plain.specs.Plain.{PlainLists}

-- a line of a message that was put or refused where it arrived
abbrev pub IsStorageOf : MessageId → Line → Type 0
IsStorageOf id l = (l ≡ line.Stored id) ⊎ ((class : Class) × (l ≡ line.Bounced class id))

-- lines have one
abbrev pub TellStorage : MessageId → List Line → Type 0
TellStorage id ledger = (l : Line) × In l ledger × IsStorageOf id l

-- a record has one
pub record IsStoredIn (written : List Written) (id : MessageId) : Type 0 where
  pub storage : Written
  pub there : In storage written
  pub told : TellStorage id (lines_of storage.before storage.entry)

-- in this state the peer at an index is this manager
abbrev pub IsPeerAt : Course → State → ℕ → ℕ → Type 0
IsPeerAt c s k i = (peer : Identity) × (slice_get s.peers k ≡ Some peer)
    × (peer.guid ≡ (manager_at c.network i).state.identity.guid)

-- a list of plain messages has the one of a number
pub record WaitsIn (s : State) (number : ℕ) : Type 0 where
  pub index : ℕ
  pub lists : PlainLists
  pub there : slice_get s.plain index ≡ Some lists
  pub has : IsTrue (has_recoverable s number lists)

-- It waits, and was stored by the peer for which it does: whatever list has it.
pub record IsStoredByPeer (c : Course) (written : List Written) (s : State)
    (number : ℕ) : Type 0 where
  pub waits : WaitsIn s number
  pub stored : IsStoredIn written (own_id s number)
  pub peer : (k : ℕ) (waiting : PlainLists) → slice_get s.plain k ≡ Some waiting
      → IsTrue (has_recoverable s number waiting)
      → IsPeerAt c s k stored.storage.by

-- Each message that a record releases was stored by a record before, by the peer
-- for which it waited.
abbrev pub AreReleasedTruly : Course → Type 0
AreReleasedTruly c = (before behind : List Written) (w : Written) (now : ℕ) (numbers : List ℕ)
    (part : Part) (number : ℕ)
    → c.written ≡ before ++ w ∷ behind → w.entry ≡ entry.Arrived now numbers part
    → In number numbers
    → IsStoredByPeer c before w.before number

-- Each Released line of the records has a Stored or a Bounced line before it that
-- names the same message.
abbrev pub IsStorageKept : Course → Type 0
IsStorageKept c = (before behind : List Line) (id : MessageId)
    → lines_written c.written ≡ before ++ line.Released id ∷ behind
    → TellStorage id before

-- What is released was stored before: record by record, and line by line.
abbrev pub StorageIsAlwaysKept : Type 0
StorageIsAlwaysKept = Always (λ c. AreReleasedTruly c × IsStorageKept c)
