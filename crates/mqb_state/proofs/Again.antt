-- Bytes that spell a state are read as what a store of it stands for.
use Rattle.std.proofs.Common.{◌≡◌, ℕ, List, Result, Err, Ok, ap, subst, sym, ◌∙◌}
use Rattle.std.specs.Prelude.{OnOk}
use Rattle.mqb_base.specs.Rooms.{WithRooms}
use Rattle.mqb_contents.specs.Rooms.{StateRooms}
use Rattle.mqb_entries.specs.declared.faults.EntryFault.{EntryFault}
use Rattle.mqb_model.specs.state.Durable.{durable}
use Rattle.mqb_model.specs.state.State.{State}
use Rattle.mqb_model.specs.state.Valid.{IsValidState}
use Rattle.mqb_read_back.specs.Answers.{IsReadBack}
use Rattle.mqb_read_back.specs.declared.faults.BackFault.{BackFault}
use Rattle.mqb_snapshot.specs.Laws.{SnapshotsAreReadBack}
use Rattle.mqb_snapshot.specs.Reading.{state_of}
use Rattle.mqb_snapshot.specs.Snapshot.{snapshot}
use Rattle.mqb_snapshot.specs.Values.{IsState}

pub again : SnapshotsAreReadBack → (bytes : List ℕ) (result : Result (WithRooms State StateRooms) BackFault) → IsReadBack (state_of bytes) result
    → (s : State) → IsValidState s → IsState s → bytes ≡ snapshot s → IsReadBack (Ok (durable s)) result
again law bytes result exact s valid is spelled = subst (λ (given : Result State EntryFault). IsReadBack given result) (ap state_of spelled ∙ law s valid is) exact

-- where it was spelled, and so fits its types
pub spelled_again : SnapshotsAreReadBack → {T E : Type 0} (result : Result T E) (s : State) → IsValidState s → OnOk result (IsState s)
    → OnOk result (state_of (snapshot s) ≡ Ok (durable s))
spelled_again law (Ok x) s valid is = law s valid is
spelled_again law (Err e) s valid is = tt

-- of contents that were kept as they were read
pub read_as : (given : Result State EntryFault) (read kept : WithRooms State StateRooms) → kept ≡ read → IsReadBack given (Ok read) → IsReadBack given (Ok kept)
read_as given read kept same exact = subst (λ (w : WithRooms State StateRooms). IsReadBack given (Ok w)) (sym same) exact
