-- What calls that read a state answer, beside what its grammar gives.
use Rattle.std.specs.Prelude.{◌≡◌, Err, Ok, Result}
use Rattle.mqb_base.specs.Rooms.{WithRooms}
use Rattle.mqb_contents.specs.Rooms.{StateRooms}
use Rattle.mqb_entries.specs.declared.faults.EntryFault.{EntryFault}
use Rattle.mqb_fields.specs.Reading.{Reading}
use Rattle.mqb_model.specs.state.State.{State}
use Rattle.mqb_snapshot.specs.Parts.{Parts}
use Rattle.mqb_read_back.specs.declared.faults.BackFault.{BackFault}
use Rattle.mqb_read_back.specs.declared.faults.BackFault.TheVariants.{Bad, Memory}

-- What a call that joined a part answered, and what it left, is what reading gives.
abbrev pub Joins : (Parts → Reading → Result (Parts × Reading) EntryFault) → Parts → Reading → Parts
    → Reading → Result (Unit {0}) BackFault → Type 0
Joins part old start new end (Ok _) = part old start ≡ Ok (new, end)
Joins part old start new end (Err (Bad at)) = part old start ≡ Err (record { at = at })
Joins part old start new end (Err Memory) = Unit {0}

-- What a call that read a value answered, seen by view, is what reading gives.
abbrev pub GivesAs : {X Y : Type 0} → (X → Y) → (Reading → Result (Y × Reading) EntryFault)
    → Reading → Reading → Result X BackFault → Type 0
GivesAs view read start end (Ok x) = read start ≡ Ok (view x, end)
GivesAs view read start end (Err (Bad at)) = read start ≡ Err (record { at = at })
GivesAs view read start end (Err Memory) = Unit {0}

abbrev pub Gives : {X : Type 0} → (Reading → Result (X × Reading) EntryFault) → Reading → Reading
    → Result X BackFault → Type 0
Gives = GivesAs (λ x. x)

-- What a call that read a state back answered is what its bytes are.
abbrev pub IsReadBack : Result State EntryFault → Result (WithRooms State StateRooms) BackFault
    → Type 0
IsReadBack given (Ok contents) = given ≡ Ok contents.lists
IsReadBack given (Err (Bad at)) = given ≡ Err (record { at = at })
IsReadBack given (Err Memory) = Unit {0}
