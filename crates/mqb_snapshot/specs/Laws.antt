-- What snapshots are read as.
use Rattle.std.specs.Prelude.{◌≡◌, Ok}
use Rattle.mqb_model.specs.state.Durable.{durable}
use Rattle.mqb_model.specs.state.State.{State}
use Rattle.mqb_model.specs.state.Valid.{IsValidState}
use Rattle.mqb_snapshot.specs.Reading.{state_of}
use Rattle.mqb_snapshot.specs.Snapshot.{snapshot}
use Rattle.mqb_snapshot.specs.Values.{IsState}

-- The bytes of a valid state are read as what a store of it stands for.
abbrev pub SnapshotsAreReadBack : Type 0
SnapshotsAreReadBack =
    (s : State) → IsValidState s → IsState s → state_of (snapshot s) ≡ Ok (durable s)
