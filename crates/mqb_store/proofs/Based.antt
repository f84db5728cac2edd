-- How a store goes on behind the base of its state.
use Rattle.std.proofs.Common.{ap, arith, refl, subst, sym, ⊎_elim}
use Rattle.std.proofs.lemmas.Bool.Decides.{nat_tests}
use Rattle.std.specs.Prelude.{[], ◌<◌, ◌≡◌, ◌↔◌, Bool, Err, List, None, Ok, OnOk, Result, Some, false, length, true, ℕ}
use Rattle.mqb_base.specs.Same.{same_guid}
use Rattle.mqb_base.specs.declared.ids.Guid.{Guid}
use Rattle.mqb_outside.specs.Disk.{IsSettled, LeavesOnly, View}
use Rattle.mqb_outside.specs.Images.{Each}
use Rattle.mqb_outside.specs.lemmas.Runs.{weaker}
use Rattle.mqb_journal.specs.Journals.{GoesOn}
use Rattle.mqb_journal.specs.States.{JournalState, checkpointed, is_too_far}
use Rattle.mqb_journal.specs.Store.{After, Base, IsOldOrNew}
use Rattle.mqb_journal.specs.declared.faults.CheckpointFault.{CheckpointFault}
use Rattle.mqb_journal.specs.declared.faults.CheckpointFault.TheVariants as fault
use Rattle.mqb_layout.specs.declared.limits.TheConstants.{MAX_BASE}
use Rattle.mqb_model.specs.state.Durable.{durable}
use Rattle.mqb_model.specs.state.State.{State}
use Rattle.mqb_snapshot.specs.Reading as snapshots
use Rattle.mqb_snapshot.specs.Snapshot.{snapshot}
use Rattle.mqb_store_laws.specs.Checkpoints.{is_large}
use Rattle.mqb_store_laws.specs.Images.{IsOn, Opens, state_in}
use Rattle.mqb_store_laws.specs.Laws.{BasesBegin, StatesAreOwn}

-- The bytes are those of the state, which are read as what a store has of it.
pub record IsBaseOf (s : State) (base : List ℕ) : Type 0 where
  pub is : base ≡ snapshot s
  pub again : snapshots.state_of (snapshot s) ≡ Ok (durable s)

-- the state that a disk stands for is that of its journal's manager
own_guid : StatesAreOwn → (d : View) (j : JournalState) (s : State) → IsOn d j s → same_guid s.identity.guid j.guid ≡ true
own_guid own d j s on = own j.guid on.base on.entries (durable s) on.state

base_state : BasesBegin → StatesAreOwn → (d : View) (j : JournalState) (s : State) (base : List ℕ) → IsBaseOf s base → IsOn d j s
    → state_in j.guid (After j.count base) [] ≡ Some (durable s)
base_state begins own d j s base of on = subst (λ (bytes : List ℕ). state_in j.guid (After j.count bytes) [] ≡ Some (durable s)) (sym of.is)
    (begins j.guid j.count s of.again (own_guid own d j s on))

-- with the old base and entries or with the new base an image opens to the state
opens_either : BasesBegin → StatesAreOwn → (d : View) (j : JournalState) (s : State) (base : List ℕ) → IsBaseOf s base → (on : IsOn d j s)
    → Each (IsOldOrNew j.guid.0 on.base (After j.count base) on.entries) (Opens j s None)
opens_either begins own d j s base of on c stands = ⊎_elim
    (λ old. record { base = on.base; entries = on.entries; stands = old; counted = sym on.goes_on.count; state = on.state })
    (λ new. record { base = After j.count base; entries = []; stands = new; counted = omega arith; state = base_state begins own d j s base of on })
    stands

-- at each moment while it is written
pub moments_based : BasesBegin → StatesAreOwn → (d e : View) (j : JournalState) (s : State) (base : List ℕ) → IsBaseOf s base → IsOn d j s
    → ((old : Base) (records : List (List ℕ)) → GoesOn d j old records → IsSettled d → LeavesOnly d e (IsOldOrNew j.guid.0 old (After j.count base) records))
    → IsSettled d → LeavesOnly d e (Opens j s None)
moments_based begins own d e j s base of on moments settled =
    weaker d e _ _ (moments on.base on.entries on.goes_on settled) (opens_either begins own d j s base of on)

-- once it is written
pub on_based : BasesBegin → StatesAreOwn → (d e : View) (j k : JournalState) (s : State) (base : List ℕ) (r : Result (Unit {0}) CheckpointFault) → IsBaseOf s base → IsOn d j s
    → ((old : Base) (records : List (List ℕ)) → GoesOn d j old records → OnOk r (GoesOn e k (After j.count base) []))
    → OnOk r (k ≡ checkpointed j (length base)) → OnOk r (IsOn e k s)
on_based begins own d e j k s base (Ok done) of on goes after = record {
  base = After j.count base;
  entries = [];
  goes_on = goes on.base on.entries on.goes_on;
  state = subst (λ (g : Guid). state_in g (After j.count base) [] ≡ Some (durable s)) (sym (ap (λ (i : JournalState). i.guid) after)) (base_state begins own d j s base of on);
}
on_based begins own d e j k s base (Err why) of on goes after = tt

-- How long the base is.

pub large_by : (s : State) (base : List ℕ) → base ≡ snapshot s → MAX_BASE < length base → is_large s ≡ true
unfolding is_large
large_by s base is over = let longer : MAX_BASE < length (snapshot s) = subst (λ (bytes : List ℕ). MAX_BASE < length bytes) is over in grind (arith, nat_tests)

over_by : (s : State) (base : List ℕ) → base ≡ snapshot s → is_large s ≡ true → MAX_BASE < length base
unfolding is_large
over_by s base is large = let longer : MAX_BASE < length (snapshot s) = grind (arith, nat_tests) in subst (λ (bytes : List ℕ). MAX_BASE < length bytes) (sym is) longer

-- Why a journal says that a base is too large.
abbrev pub SaysLarge : JournalState → List ℕ → Result (Unit {0}) CheckpointFault → Type 0
SaysLarge j base r = (r ≡ Err fault.TooLarge) ↔ ((j.down ≡ false) × (is_too_far j ≡ false) × (MAX_BASE < length base))

-- it is not where that does not
pub small_by : (j : JournalState) (s : State) (base : List ℕ) (r : Result (Unit {0}) CheckpointFault) → base ≡ snapshot s → SaysLarge j base r → j.down ≡ false
    → is_too_far j ≡ false → (r ≡ Err fault.TooLarge → ⊥) → is_large s ≡ false
small_by j s base r is says up near not = at (is_large s) refl
  where
    at : (b : Bool) → is_large s ≡ b → is_large s ≡ false
    at true large = absurd (not (says.1 (up, near, over_by s base is large)))
    at false small = small

pub small_where_ok : (j : JournalState) (s : State) (base : List ℕ) (r : Result (Unit {0}) CheckpointFault) → base ≡ snapshot s → SaysLarge j base r → j.down ≡ false
    → is_too_far j ≡ false → OnOk r (is_large s ≡ false)
small_where_ok j s base (Ok done) is says up near = small_by j s base (Ok done) is says up near (λ same. let none : ⊥ = cc in none)
small_where_ok j s base (Err why) is says up near = tt
