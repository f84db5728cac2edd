-- What a base stands for, and whose states a store has.
use Rattle.std.proofs.Common.{refl, ◌∙◌, ap, subst}
use Rattle.std.specs.Prelude.{[], ◌∷◌, ◌≡◌, Bool, IfSome, List, None, Option, Some, cond, false, fold, option_and_then, true}
use Rattle.std.specs.Result.{result_ok}
use Rattle.mqb_base.specs.Same.{same_guid}
use Rattle.mqb_base.specs.declared.ids.Guid.{Guid}
use Rattle.mqb_base.specs.declared.ids.Identity.{Identity}
use Rattle.mqb_journal.specs.Store.{After, Base, Nothing}
use Rattle.mqb_model.specs.laws.Keeping.{RecordsKeepIdentities}
use Rattle.mqb_model.specs.records.Applying.{apply, fits}
use Rattle.mqb_model.specs.records.Folding.{applied_after, state_of}
use Rattle.mqb_model.specs.records.Record.{Record}
use Rattle.mqb_model.specs.records.Record as entry
use Rattle.mqb_model.specs.state.Durable.{durable}
use Rattle.mqb_model.specs.state.State.{State, empty}
use Rattle.mqb_store_laws.specs.Images.{begins_as, of_guid, records_in, state_at, state_by}
use Rattle.mqb_store_laws.specs.Laws.{BasesBegin, StatesAreOwn}

pub bases_begin : BasesBegin
bases_begin guid count s back own =
    ap (λ r. option_and_then (of_guid guid) (result_ok r)) back ∙ ap (λ (b : Bool). cond b (Some (durable s)) None) own

-- a state is that of the manager with this GUID
abbrev HasGuid : Guid → State → Type 0
HasGuid guid s = same_guid s.identity.guid guid ≡ true

-- a record leaves it so
step_own : RecordsKeepIdentities → (guid : Guid) (o : Option State) (r : Record) → IfSome o (HasGuid guid) → IfSome (applied_after o r) (HasGuid guid)
step_own law guid None r h = tt
step_own law guid (Some s) r h = at (fits s r)
  where
    at : (b : Bool) → IfSome (cond b (Some (apply s r)) None) (HasGuid guid)
    at true = ap (λ (i : Identity). same_guid i.guid guid) (law s r) ∙ h
    at false = tt

folded_own : RecordsKeepIdentities → (guid : Guid) (o : Option State) (records : List Record) → IfSome o (HasGuid guid)
    → IfSome (fold applied_after o records) (HasGuid guid)
folded_own law guid o [] h = h
folded_own law guid o (r ∷ records) h = folded_own law guid (applied_after o r) records (step_own law guid o r h)

begun_own : RecordsKeepIdentities → (guid : Guid) (records : List Record) (s : State) → begins_as guid records ≡ true → state_of records ≡ Some s → HasGuid guid s
begun_own law guid (entry.Identity identity ∷ records) s first is =
    subst (λ (o : Option State). IfSome o (HasGuid guid)) is (folded_own law guid (Some (empty identity)) records first)
begun_own law guid records s first is = absurd (let none : ⊥ = cc in none)

-- the state of a base is
based_own : (guid : Guid) (o : Option State) → IfSome (option_and_then (of_guid guid) o) (HasGuid guid)
based_own guid None = tt
based_own guid (Some s) = at (same_guid s.identity.guid guid) refl
  where
    at : (b : Bool) → same_guid s.identity.guid guid ≡ b → IfSome (cond b (Some s) None) (HasGuid guid)
    at true own = own
    at false other = tt

by_own : RecordsKeepIdentities → (guid : Guid) (base : Base) (records : List Record) (s : State) → state_by guid base records ≡ Some s → HasGuid guid s
by_own law guid Nothing records s is = at (begins_as guid records) refl is
  where
    at : (b : Bool) → begins_as guid records ≡ b → cond b (state_of records) None ≡ Some s → HasGuid guid s
    at true first of = begun_own law guid records s first of
    at false first none = absurd (let no : None ≡ Some s = none in cc)
by_own law guid (After count bytes) records s is = subst (λ (o : Option State). IfSome o (HasGuid guid)) is
    (folded_own law guid (option_and_then (of_guid guid) (state_at bytes)) records (based_own guid (state_at bytes)))

pub states_are_own : RecordsKeepIdentities → StatesAreOwn
states_are_own law guid base entries s is = at (records_in entries) is
  where
    at : (o : Option (List Record)) → option_and_then (state_by guid base) o ≡ Some s → HasGuid guid s
    at None none = absurd (let no : None ≡ Some s = none in cc)
    at (Some records) by = by_own law guid base records s by
