-- What a store begins with.
use Rattle.std.proofs.Common.{◌∙◌, ap, refl}
use Rattle.std.specs.Cmp.Lexicographic.{bytes_decides}
use Rattle.std.specs.Prelude.{[], ◌≡◌, ◌∷◌, Err, List, None, Ok, Result, Some, if◌then◌else◌, option_and_then, option_map, true, ℕ}
use Rattle.std.specs.Result.{result_ok}
use Rattle.mqb_base.specs.Same.{same_guid}
use Rattle.mqb_base.specs.declared.ids.Guid.{Guid}
use Rattle.mqb_base.specs.declared.ids.Identity.{Identity}
use Rattle.mqb_entries.specs.declared.faults.EntryFault.{EntryFault}
use Rattle.mqb_outside.specs.Disk.{View}
use Rattle.mqb_journal.specs.Journals.{GoesOn}
use Rattle.mqb_journal.specs.States.{JournalState}
use Rattle.mqb_journal.specs.Store.{After, Nothing}
use Rattle.mqb_model.specs.records.Reading.{record_of}
use Rattle.mqb_model.specs.records.Record as entry
use Rattle.mqb_model.specs.state.State.{State, empty}
use Rattle.mqb_snapshot.specs.Reading as snapshots
use Rattle.mqb_store_laws.specs.Images.{IsOn, identity_in, of_guid, state_at, state_in, with_guid}
use Rattle.mqb_store_laws.specs.Laws.{EntriesBegin}

pub same_guid_refl : (guid : Guid) → same_guid guid guid ≡ true
same_guid_refl guid = (bytes_decides guid.0 guid.0).1 refl

-- a first entry stands for a manager that has nothing but its identity
pub first_state : EntriesBegin → (guid : Guid) (first : List ℕ) (identity : Identity) → identity_in (record_of first) ≡ Some identity
    → same_guid identity.guid guid ≡ true → state_in guid Nothing (first ∷ []) ≡ Some (empty identity)
first_state law guid first identity is same =
    law.in_store guid first ∙ (ap (λ o. option_map empty (option_and_then (with_guid guid) o)) is
    ∙ ap (λ b. option_map empty (if b then Some identity else None)) same)

-- a disk on which it was written is the store of that manager
pub first_on : EntriesBegin → (d : View) (j : JournalState) (first : List ℕ) (identity : Identity) → GoesOn d j Nothing (first ∷ [])
    → record_of first ≡ Some (entry.Identity identity) → same_guid identity.guid j.guid ≡ true → IsOn d j (empty identity)
first_on law d j first identity on is same = record {
  base = Nothing;
  entries = first ∷ [];
  goes_on = on;
  state = first_state law j.guid first identity (ap identity_in is) same;
}

-- a base stands for the state that it spells
pub base_stands : (guid : Guid) (count : ℕ) (bytes : List ℕ) (s : State) → state_at bytes ≡ Some s → same_guid s.identity.guid guid ≡ true
    → state_in guid (After count bytes) [] ≡ Some s
base_stands guid count bytes s is same = ap (option_and_then (of_guid guid)) is ∙ ap (λ b. if b then Some s else None) same

-- a state that bytes spell is what they are read as
pub spelled_as : (bytes : List ℕ) (s : State) → state_at bytes ≡ Some s → snapshots.state_of bytes ≡ Ok s
spelled_as bytes s is = at (snapshots.state_of bytes) is
  where
    at : (r : Result State EntryFault) → result_ok r ≡ Some s → r ≡ Ok s
    at (Ok t) same = ap Ok (let e : t ≡ s = cc in e)
    at (Err why) same = absurd (let no : None ≡ Some s = same in cc)
