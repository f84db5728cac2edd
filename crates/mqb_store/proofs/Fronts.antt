-- What a scan stands behind once its base was taken.
use Rattle.std.proofs.Common.{◌≡◌, ◌∙◌, ap, refl, subst, sym, ⊎_elim}
use Rattle.std.specs.Prelude.{[], ◌<◌, Err, IfOk, IsSomeAnd, List, None, Ok, Option, Result, Some, false, length, option_map, true, ◌⊎◌, ℕ}
use Rattle.mqb_base.specs.Rooms.{WithRooms}
use Rattle.mqb_base.specs.Same.{same_guid}
use Rattle.mqb_base.specs.declared.ids.Guid.{Guid}
use Rattle.mqb_snapshot.specs.mqb_contents.Rooms.{StateRooms}
use Rattle.mqb_outside.specs.Disk.{View}
use Rattle.mqb_outside.specs.Images.{Each}
use Rattle.mqb_journal.specs.Causes.{FaultsAsSaid, open_failed}
use Rattle.mqb_journal.specs.Journals.{Lent}
use Rattle.mqb_journal.specs.States.{ScanState}
use Rattle.mqb_journal.specs.Store.{After, Base, Nothing, bytes_in, count_of}
use Rattle.mqb_journal.specs.declared.faults.OpenFault.{OpenFault}
use Rattle.mqb_journal.specs.declared.faults.OpenFault.TheVariants as opening
use Rattle.mqb_journal.specs.lemmas.Carrying.{lent_taken}
use Rattle.mqb_model.specs.state.Durable.{durable}
use Rattle.mqb_model.specs.state.State.{State}
use Rattle.mqb_store.proofs.Faulty.{StandsBehind, area_in, bad_base, other_guid}
use Rattle.mqb_store.proofs.Read.{read_base}
use Rattle.mqb_store.specs.Replaying.{IsReadUpTo}
use Rattle.mqb_store_laws.specs.Faults.{IsBadStore}
use Rattle.mqb_store_laws.specs.Images.{state_at}

-- A scan stood behind some base, which was taken from it.
pub record HasGiven (d : View) (s t : ScanState) : Type 0 where
  pub whole : length s.guid.0 ≡ 16
  pub within : s.gate < s.len
  pub base : Base
  pub lent : Lent d s base []
  pub is : s.base ≡ bytes_in base
  pub next : t ≡ record s { base = None }

pub given_by : {d : View} {s t : ScanState} → length s.guid.0 ≡ 16 → s.gate < s.len → (base : Base) × Lent d s base [] × (s.base ≡ bytes_in base)
    → t ≡ record s { base = None } → HasGiven d s t
given_by whole within begun next = record { whole = whole; within = within; base = begun.0; lent = begun.1; is = begun.2; next = next }

stands_still : {d : View} {s t : ScanState} (given : HasGiven d s t) → StandsBehind d t given.base []
stands_still {d} {s} {t} given = subst (λ (u : ScanState). StandsBehind d u given.base []) (sym given.next) (record {
  whole = given.whole;
  within = given.within;
  lent = lent_taken d s given.base [] given.lent;
})

-- what was taken is what it had
pub some_given : {V : Type 0} (items : V → List ℕ) {o : Option V} {v : V} {bytes : List ℕ} {held : Option (List ℕ)} → o ≡ Some v → bytes ≡ items v
    → option_map items o ≡ held → Some bytes ≡ held
some_given items is value taken = ap Some value ∙ (sym (ap (option_map items) is) ∙ taken)

pub none_given : {V : Type 0} (items : V → List ℕ) {o : Option V} {held : Option (List ℕ)} → o ≡ None → option_map items o ≡ held → None ≡ held
none_given items is taken = sym (ap (option_map items) is) ∙ taken

-- there was one
pub stands_on : {d : View} {s t : ScanState} (given : HasGiven d s t) (bytes : List ℕ) → Some bytes ≡ s.base
    → StandsBehind d t (After (count_of given.base) bytes) []
stands_on {d} {s} {t} given bytes some = at given.base (stands_still given) (some ∙ given.is)
  where
    at : (base : Base) → StandsBehind d t base [] → Some bytes ≡ bytes_in base → StandsBehind d t (After (count_of base) bytes) []
    at Nothing behind is = absurd (let no : Some bytes ≡ None = is in cc)
    at (After count held) behind is = subst (λ (l : List ℕ). StandsBehind d t (After count l) []) (let same : held ≡ bytes = cc in same) behind

-- there was none
pub stands_first : {d : View} {s t : ScanState} (given : HasGiven d s t) → None ≡ s.base → StandsBehind d t Nothing []
stands_first {d} {s} {t} given none = at given.base (stands_still given) (none ∙ given.is)
  where
    at : (base : Base) → StandsBehind d t base [] → None ≡ bytes_in base → StandsBehind d t Nothing []
    at Nothing behind is = behind
    at (After count held) behind is = absurd (let no : None ≡ Some held = is in cc)

-- a state that was read back from a base was read
pub back_is_read : (d : View) (t : ScanState) (count : ℕ) (bytes : List ℕ) (guid : Guid) (r : Result (WithRooms State StateRooms) OpenFault)
    → StandsBehind d t (After count bytes) [] → guid ≡ t.guid → IfOk r (λ s. state_at bytes ≡ Some s.lists) → IfOk r (λ s. durable s.lists ≡ s.lists)
    → IfOk r (λ s. same_guid s.lists.identity.guid guid ≡ true) → IfOk r (λ s. IsReadUpTo d t s.lists [])
back_is_read d t count bytes guid (Ok s) behind same is kept own = read_base d t count bytes s.lists behind is kept
    (subst (λ (g : Guid). same_guid s.lists.identity.guid g ≡ true) same own)
back_is_read d t count bytes guid (Err why) behind same is kept own = tt

-- a base from which none was read back makes the store bad
pub back_is_bad : (d : View) (t : ScanState) (count : ℕ) (bytes : List ℕ) (guid : Guid) (area at : ℕ) → StandsBehind d t (After count bytes) [] → guid ≡ t.guid
    → area ≡ area_in t.later
    → ((at ≡ area) × (state_at bytes ≡ None)) ⊎ ((at ≡ 0) × IsSomeAnd (state_at bytes) (λ s. same_guid s.identity.guid guid ≡ false))
    → Each d.reads (IsBadStore at)
back_is_bad d t count bytes guid area at behind same place why = ⊎_elim
    (λ (bad : (at ≡ area) × (state_at bytes ≡ None)). bad_base d t count bytes at behind (bad.0 ∙ place) bad.1)
    (λ (other : (at ≡ 0) × IsSomeAnd (state_at bytes) (λ s. same_guid s.identity.guid guid ≡ false)).
    subst (λ (k : ℕ). Each d.reads (IsBadStore k)) (sym other.0) (by (state_at bytes) refl other.1))
    why
  where
    by : (o : Option State) → state_at bytes ≡ o → IsSomeAnd o (λ s. same_guid s.identity.guid guid ≡ false) → Each d.reads (IsBadStore 0)
    by None is other = absurd other
    by (Some s) is other = other_guid d t (After count bytes) [] s.identity behind (ap (option_map (λ (u : State). u.identity)) is)
        (subst (λ (g : Guid). same_guid s.identity.guid g ≡ false) same other)

-- without a call of the disk no fault of it is told
pub quiet_fault : {T : Type 0} (faults : ℕ) (r : Result T OpenFault) → (r ≡ Err opening.DiskFault → ⊥) → FaultsAsSaid open_failed faults faults r
quiet_fault faults (Ok x) never = refl
quiet_fault faults (Err opening.NotEmpty) never = refl
quiet_fault faults (Err (opening.BadStore at)) never = refl
quiet_fault faults (Err opening.Memory) never = refl
quiet_fault faults (Err opening.DiskFault) never = absurd (never refl)
