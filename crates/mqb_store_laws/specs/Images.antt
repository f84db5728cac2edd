-- What the base and the entries of a store stand for, and what an image of its disk opens to.
use Rattle.std.specs.Option.{option_map_or}
use Rattle.std.specs.Prelude.{[], ◌+◌, ◌++◌, ◌∷◌, ◌≡◌, ◌⊎◌, Bool, List, None, Option, Some, false}
use Rattle.std.specs.Prelude.{fold, if◌then◌else◌, length, map, option_and_then, ℕ}
use Rattle.std.specs.Result.{result_ok}
use Rattle.mqb_base.specs.Same.{same_guid}
use Rattle.mqb_base.specs.declared.ids.Guid.{Guid}
use Rattle.mqb_base.specs.declared.ids.Identity.{Identity}
use Rattle.mqb_base.specs.declared.ledger.Line.{Line}
use Rattle.mqb_outside.specs.Disk.{View}
use Rattle.mqb_journal.specs.Journals.{GoesOn}
use Rattle.mqb_journal.specs.States.{JournalState}
use Rattle.mqb_journal.specs.Store.{After, Base, Nothing, StandsFor, count_of}
use Rattle.mqb_model.specs.records.Applying.{apply, lines_of}
use Rattle.mqb_model.specs.records.Folding.{applied_after, state_of}
use Rattle.mqb_model.specs.records.Reading.{all_some, record_of}
use Rattle.mqb_model.specs.records.Record.{Record}
use Rattle.mqb_model.specs.records.Record as entry
use Rattle.mqb_model.specs.state.Durable.{durable}
use Rattle.mqb_model.specs.state.State.{State}
use Rattle.mqb_snapshot.specs.Reading as snapshots

-- the records that entries are
abbrev pub records_in : List (List ℕ) → Option (List Record)
records_in entries = all_some (map record_of entries)

-- the identity that a record is
abbrev pub identity_in : Option Record → Option Identity
identity_in (Some (entry.Identity identity)) = Some identity
identity_in _ = None

-- an identity, where it has this GUID
abbrev pub with_guid : Guid → Identity → Option Identity
with_guid guid identity = if same_guid identity.guid guid then Some identity else None

-- the first record is an identity with this GUID
abbrev pub begins_as : Guid → List Record → Bool
begins_as guid (entry.Identity identity ∷ records) = same_guid identity.guid guid
begins_as guid _ = false

-- the state that a base spells
abbrev pub state_at : List ℕ → Option State
state_at bytes = result_ok (snapshots.state_of bytes)

-- a state, where its identity has this GUID
abbrev pub of_guid : Guid → State → Option State
of_guid guid s = if same_guid s.identity.guid guid then Some s else None

-- the state that records stand for behind a base, whatever GUID the store has
abbrev pub state_behind : Base → List Record → Option State
state_behind Nothing records = state_of records
state_behind (After count bytes) records = fold applied_after (state_at bytes) records

-- the state that they stand for in a store with this GUID
abbrev pub state_by : Guid → Base → List Record → Option State
state_by guid Nothing records = if begins_as guid records then state_of records else None
state_by guid (After count bytes) records =
    fold applied_after (option_and_then (of_guid guid) (state_at bytes)) records

-- the state that entries stand for behind a base, whatever GUID the store has
abbrev pub state_from : Base → List (List ℕ) → Option State
state_from base entries = option_and_then (state_behind base) (records_in entries)

-- the state that they stand for in a store with this GUID
abbrev pub state_in : Guid → Base → List (List ℕ) → Option State
state_in guid base entries = option_and_then (state_by guid base) (records_in entries)

-- An image of the store with this GUID opens to a state, by so many records since it was formatted.
pub record OpensTo (guid : Guid) (count : ℕ) (s : State) (image : List ℕ) : Type 0 where
  pub base : Base
  pub entries : List (List ℕ)
  pub stands : StandsFor guid.0 base entries image
  pub counted : count_of base + length entries ≡ count
  pub state : state_in guid base entries ≡ Some s

-- The lines that an entry added, which is the last behind these: those of its record in the state
-- that they stand for. A first entry has none.
abbrev pub lines_added : Guid → Base → List (List ℕ) → List ℕ → List Line
lines_added guid base before last =
    option_map_or (λ s. option_map_or (lines_of s) (record_of last) [])
    (state_in guid base before) []

-- the lines that the last of these entries added, which stand behind others
abbrev pub last_added : Guid → Base → (before : List (List ℕ)) → List (List ℕ) → List Line
last_added guid base before [] = []
last_added guid base before (entry ∷ []) = lines_added guid base before entry
last_added guid base before (entry ∷ more) = last_added guid base (before ++ entry ∷ []) more

-- The lines that the last of these entries added. A base has none.
abbrev pub last_lines : Guid → Base → List (List ℕ) → List Line
last_lines guid base entries = last_added guid base [] entries

-- An image stands for a base and entries of which the last added these lines.
pub record HasLastLines (guid : Guid) (lines : List Line) (image : List ℕ) : Type 0 where
  pub base : Base
  pub entries : List (List ℕ)
  pub stands : StandsFor guid.0 base entries image
  pub added : lines ≡ last_lines guid base entries

-- A disk stands for the base and the records from which a journal goes on, and they for what a
-- store has of a state.
pub record IsOn (d : View) (j : JournalState) (s : State) : Type 0 where
  pub base : Base
  pub entries : List (List ℕ)
  pub goes_on : GoesOn d j base entries
  pub state : state_in j.guid base entries ≡ Some (durable s)

-- An image opens to a state, or to the state that a record leaves, by one record more, which is the
-- last then, with its lines.
abbrev pub Opens : JournalState → State → Option Record → List ℕ → Type 0
Opens j s None image = OpensTo j.guid j.count (durable s) image
Opens j s (Some r) image = OpensTo j.guid j.count (durable s) image
    ⊎ (OpensTo j.guid (j.count + 1) (durable (apply s r)) image
    × HasLastLines j.guid (lines_of s r) image)
