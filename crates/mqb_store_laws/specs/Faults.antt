-- Where a store is bad: before its first gate, or at the first gate, length or entry that does not
-- go on from those before it.
use Rattle.std.specs.Prelude.{[], ◌++◌, ◌∷◌, ◌≡◌, ◌⊎◌, IsSome, List, None, Option, Some, false}
use Rattle.std.specs.Prelude.{length, option_map, ℕ}
use Rattle.mqb_base.specs.Same.{same_guid}
use Rattle.mqb_base.specs.declared.ids.Guid.{Guid}
use Rattle.mqb_base.specs.declared.ids.Identity.{Identity}
use Rattle.mqb_journal.specs.Scan.{GoesTo, HasNoFront, IsBadAt}
use Rattle.mqb_journal.specs.Store.{After, Base, Nothing, StandsFor}
use Rattle.mqb_layout.specs.Store.{place_of}
use Rattle.mqb_model.specs.records.Reading.{record_of}
use Rattle.mqb_model.specs.state.State.{State}
use Rattle.mqb_store_laws.specs.Images.{identity_in, state_at, state_from, state_in}

-- Entries stand for a state behind a base, or there is neither yet.
abbrev pub MayGoOn : Guid → Base → List (List ℕ) → Type 0
MayGoOn guid base entries =
    ((base ≡ Nothing) × (entries ≡ [])) ⊎ IsSome (state_in guid base entries)

-- An image begins with the front of a store with this GUID and this base, and with entries that may
-- go on, up to a place.
pub record GoesWell (guid : Guid) (base : Base) (entries : List (List ℕ)) (at : ℕ)
    (image : List ℕ) : Type 0 where
  pub whole : length guid.0 ≡ 16
  pub goes : GoesTo guid.0 base entries at image
  pub good : MayGoOn guid base entries

-- The base spells no state, which is told by the place of the area in use.
pub record HasBadBase (at : ℕ) (image : List ℕ) : Type 0 where
  pub place : at ≡ place_of image
  pub guid : List ℕ
  pub count : ℕ
  pub bytes : List ℕ
  pub next : ℕ
  pub behind : GoesTo guid (After count bytes) [] next image
  pub none : state_at bytes ≡ None

-- the identity that a store has: that in its base; and where it has no base, its first entry
abbrev pub identity_told : Base → List (List ℕ) → Option Identity
identity_told Nothing [] = None
identity_told Nothing (first ∷ entries) = identity_in (record_of first)
identity_told (After count bytes) entries = option_map (λ (s : State). s.identity) (state_at bytes)

-- The identity has another GUID than the header, which is told as place 0,
-- whatever stands behind it.
pub record HasOtherGuid (at : ℕ) (image : List ℕ) : Type 0 where
  pub place : at ≡ 0
  pub guid : Guid
  pub whole : length guid.0 ≡ 16
  pub base : Base
  pub entries : List (List ℕ)
  pub next : ℕ
  pub behind : GoesTo guid.0 base entries next image
  pub identity : Identity
  pub is_identity : identity_told base entries ≡ Some identity
  pub other : same_guid identity.guid guid ≡ false

-- There is a header and no base, and behind it, at this place, no record.
pub record HasNoRecord (at : ℕ) (image : List ℕ) : Type 0 where
  pub guid : Guid
  pub here : GoesWell guid Nothing [] at image
  pub none : StandsFor guid.0 Nothing [] image

-- Behind entries that may go on an open gate stands at this place, and no record behind it.
pub record BreaksOff (at : ℕ) (image : List ℕ) : Type 0 where
  pub guid : Guid
  pub base : Base
  pub entries : List (List ℕ)
  pub here : GoesWell guid base entries at image
  pub broken : IsBadAt at image

-- Behind entries that may go on one stands at this place with which they stand for no state,
-- whatever GUID the header has.
pub record HasUnfit (at : ℕ) (image : List ℕ) : Type 0 where
  pub guid : Guid
  pub base : Base
  pub entries : List (List ℕ)
  pub here : GoesWell guid base entries at image
  pub entry : List ℕ
  pub next : ℕ
  pub behind : GoesTo guid.0 base (entries ++ entry ∷ []) next image
  pub unfit : state_from base (entries ++ entry ∷ []) ≡ None

-- An image is no store of a manager, and this is the first place where it fails.
abbrev pub IsBadStore : ℕ → List ℕ → Type 0
IsBadStore at image = HasNoFront at image ⊎ HasBadBase at image ⊎ HasOtherGuid at image
    ⊎ HasNoRecord at image ⊎ BreaksOff at image ⊎ HasUnfit at image
