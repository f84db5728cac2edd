-- What is known of the images of a store, and how a state that a disk stands for is
-- carried from call to call.
use Rattle.std.specs.Option.{option_map_or}
use Rattle.std.specs.Prelude.{[], ◌++◌, ◌∷◌, ◌≡◌, List, Ok, Some, length, option_and_then}
use Rattle.std.specs.Prelude.{option_map, true, ℕ}
use Rattle.mqb_base.specs.Same.{same_guid}
use Rattle.mqb_base.specs.declared.ids.Guid.{Guid}
use Rattle.mqb_journal.specs.Store.{After, Base, Nothing}
use Rattle.mqb_model.specs.records.Applying.{apply, fits, lines_of}
use Rattle.mqb_model.specs.records.Folding.{applied}
use Rattle.mqb_model.specs.records.Reading.{record_of}
use Rattle.mqb_model.specs.records.Record.{Record}
use Rattle.mqb_model.specs.state.Durable.{durable}
use Rattle.mqb_model.specs.state.State.{State, empty}
use Rattle.mqb_model.specs.state.Valid.{IsValidState}
use Rattle.mqb_snapshot.specs.Reading as snapshots
use Rattle.mqb_snapshot.specs.Snapshot.{snapshot}
use Rattle.mqb_store_laws.specs.Faults.{IsBadStore}
use Rattle.mqb_store_laws.specs.Images.{OpensTo, identity_in, last_lines, state_from}
use Rattle.mqb_store_laws.specs.Images.{state_in, with_guid}

-- The first entry stands for a manager that has nothing but its identity, where it is an identity;
-- in a store, where that has the store's GUID.
pub record EntriesBegin : Type 0 where
  pub anywhere : (first : List ℕ)
      → state_from Nothing (first ∷ []) ≡ option_map empty (identity_in (record_of first))
  pub in_store : (guid : Guid) (first : List ℕ)
      → state_in guid Nothing (first ∷ [])
      ≡ option_map empty (option_and_then (with_guid guid) (identity_in (record_of first)))

-- One entry more stands for what its record, where it fits, makes of the state, and the last lines
-- are those of its record, whatever base there is.
pub record EntriesGoOn : Type 0 where
  pub anywhere : (guid : Guid) (base : Base) (entries : List (List ℕ)) (more : List ℕ) (s : State)
      → state_in guid base entries ≡ Some s
      → state_from base (entries ++ more ∷ []) ≡ option_and_then (applied s) (record_of more)
  pub in_store : (guid : Guid) (base : Base) (entries : List (List ℕ)) (more : List ℕ) (s : State)
      → state_in guid base entries ≡ Some s
      → state_in guid base (entries ++ more ∷ []) ≡ option_and_then (applied s) (record_of more)
  pub lines : (guid : Guid) (base : Base) (entries : List (List ℕ)) (more : List ℕ) (s : State)
      → state_in guid base entries ≡ Some s
      → last_lines guid base (entries ++ more ∷ []) ≡ option_map_or (lines_of s) (record_of more) []

-- A record that fits a valid state joins the entries that stand for what a store has of it, and
-- adds to them the lines that it has there.
pub record RecordsJoin : Type 0 where
  pub state : (guid : Guid) (base : Base) (entries : List (List ℕ)) (more : List ℕ) (s : State)
      (r : Record) → IsValidState s
      → state_in guid base entries ≡ Some (durable s) → record_of more ≡ Some r → fits s r ≡ true
      → state_in guid base (entries ++ more ∷ []) ≡ Some (durable (apply s r))
  pub lines : (guid : Guid) (base : Base) (entries : List (List ℕ)) (more : List ℕ) (s : State)
      (r : Record) → IsValidState s
      → state_in guid base entries ≡ Some (durable s) → record_of more ≡ Some r → fits s r ≡ true
      → lines_of s r ≡ last_lines guid base (entries ++ more ∷ [])

-- An image opens to one state at most, by one count of records.
abbrev pub ImagesOpenToOne : Type 0
ImagesOpenToOne = (guid other : Guid) (count more : ℕ) (s t : State) (image : List ℕ)
    → OpensTo guid count s image → OpensTo other more t image
    → (count ≡ more) × (s ≡ t)

-- What opens is bad nowhere.
abbrev pub OpenedIsNotBad : Type 0
OpenedIsNotBad = (guid : Guid) (count at : ℕ) (s : State) (image : List ℕ) → length guid.0 ≡ 16
    → OpensTo guid count s image → IsBadStore at image → ⊥

-- A store is bad at one place at most.
abbrev pub BadAtOnePlace : Type 0
BadAtOnePlace =
    (at other : ℕ) (image : List ℕ) → IsBadStore at image → IsBadStore other image → at ≡ other

-- The base of a state, with no entries behind it, stands for what a store has of the state, in a
-- store with its GUID.
abbrev pub BasesBegin : Type 0
BasesBegin = (guid : Guid) (count : ℕ) (s : State)
    → snapshots.state_of (snapshot s) ≡ Ok (durable s) → same_guid s.identity.guid guid ≡ true
    → state_in guid (After count (snapshot s)) [] ≡ Some (durable s)

-- The state that entries stand for in a store has its GUID.
abbrev pub StatesAreOwn : Type 0
StatesAreOwn = (guid : Guid) (base : Base) (entries : List (List ℕ)) (s : State)
    → state_in guid base entries ≡ Some s → same_guid s.identity.guid guid ≡ true
