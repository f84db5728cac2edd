-- What is kept by a write.
use Rattle.std.proofs.Common.{◌∙◌, ap}
use Rattle.std.specs.Prelude.{[], ◌++◌, ◌≡◌, ◌∷◌, IsSomeAnd, List, None, Option, Some, true, ℕ}
use Rattle.mqb_outside.specs.Disk.{IsSettled, LeavesOnly, View}
use Rattle.mqb_journal.specs.Journals.{GoesOn}
use Rattle.mqb_journal.specs.States.{JournalState}
use Rattle.mqb_journal.specs.Store.{Base, IsBeforeOrAfter}
use Rattle.mqb_model.specs.managers.Beside.{Beside, beside_done}
use Rattle.mqb_model.specs.managers.Outcomes.{recorded}
use Rattle.mqb_model.specs.records.Applying.{apply, fits}
use Rattle.mqb_model.specs.records.Reading.{record_of}
use Rattle.mqb_model.specs.records.Record.{Record}
use Rattle.mqb_model.specs.state.Durable.{durable}
use Rattle.mqb_model.specs.state.State.{State}
use Rattle.mqb_model.specs.state.Valid.{IsValidState}
use Rattle.mqb_store_laws.specs.lemmas.Carrying.{moments_open, on_beside, on_written}
use Rattle.mqb_store_laws.specs.Images.{IsOn, Opens}
use Rattle.mqb_store_laws.specs.Laws.{RecordsJoin}

-- A spelled entry is a record that fits a valid state.
pub record CanJoin (s : State) (entry : List ℕ) (o : Option Record) : Type 0 where
  pub valid : IsValidState s
  pub reads : record_of entry ≡ o
  pub fit : IsSomeAnd o (λ r. fits s r ≡ true)

-- after a record, and what is done beside it
pub written_on : RecordsJoin → (d e : View) (j k : JournalState) (s t : State) (entry : List ℕ) (o : Option Record) (b : Beside) → IsOn d j s → CanJoin s entry o
    → ((base : Base) (entries : List (List ℕ)) → GoesOn d j base entries → GoesOn e k base (entries ++ entry ∷ [])) → k.guid ≡ j.guid
    → durable (beside_done b (recorded s o)) ≡ durable (recorded s o) → t ≡ beside_done b (recorded s o) → IsOn e k t
written_on join d e j k s t entry None b on new goes guid stored gives = absurd new.fit
written_on join d e j k s t entry (Some r) b on new goes guid stored gives =
    on_beside e k (apply s r) t (ap durable gives ∙ stored)
    (on_written join d e j k s entry r on (record { valid = new.valid; reads = new.reads; fits = new.fit }) goes guid)

-- at each moment of the write
pub written_moments : RecordsJoin → (d e : View) (j : JournalState) (s : State) (entry : List ℕ) (o : Option Record) → IsOn d j s → CanJoin s entry o
    → ((base : Base) (entries : List (List ℕ)) → GoesOn d j base entries → IsSettled d → LeavesOnly d e (IsBeforeOrAfter j.guid.0 base entries entry))
    → IsSettled d → LeavesOnly d e (Opens j s o)
written_moments join d e j s entry None on new moments settled = absurd new.fit
written_moments join d e j s entry (Some r) on new moments settled =
    moments_open join d e j s entry r on (record { valid = new.valid; reads = new.reads; fits = new.fit }) moments settled
