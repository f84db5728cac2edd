-- What is prepared of a record leads to a valid state.
use Rattle.std.proofs.Common.{refl}
use Rattle.std.specs.Prelude.{◌≡◌, IfSome, None, Option, Some, true}
use Rattle.mqb_entries.specs.declared.entry.Entry.{Entry}
use Rattle.mqb_model.specs.laws.Keeping.{AppliedIsValid}
use Rattle.mqb_model.specs.managers.Beside as beside
use Rattle.mqb_model.specs.records.Applying.{apply, fits}
use Rattle.mqb_model.specs.records.Carrying.{IsRead}
use Rattle.mqb_model.specs.records.Reading.{record_in}
use Rattle.mqb_model.specs.records.Record.{Record}
use Rattle.mqb_model.specs.state.State.{State}
use Rattle.mqb_model.specs.state.Valid.{IsValidState}
use Rattle.mqb_state.specs.Together.{LeavesValid}

pub where_some : {X : Type 0} (P : X → Type 0) → (o : Option X) → ((x : X) → o ≡ Some x → P x) → IfSome o P
where_some P (Some x) each = each x refl
where_some P None each = tt

-- a record that was read does, with nothing beside it
pub read_leaves : (law : AppliedIsValid) (s : State) (e : Entry) → IsValidState s → IfSome (record_in e) IsRead → LeavesValid s (Some e) beside.Nothing
read_leaves law s e valid read = by (record_in e) read
  where
    by : (o : Option Record) → IfSome o IsRead → IfSome o (λ r. fits s r ≡ true → IsValidState (apply s r))
    by None read = tt
    by (Some r) read = λ fit. law s r valid read fit
