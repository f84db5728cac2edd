-- Which states bytes are read as.
use Rattle.std.specs.Prelude.{◌≡◌, ◌<◌, All, List, Ok, ℕ}
use Rattle.mqb_model.specs.state.Durable.{durable}
use Rattle.mqb_model.specs.state.State.{State}
use Rattle.mqb_model.specs.state.Valid.{IsValidState}
use Rattle.mqb_snapshot.specs.Reading.{state_of}
use Rattle.mqb_snapshot.specs.Snapshot.{snapshot}
use Rattle.mqb_snapshot.specs.Values.{IsState}

-- What bytes are read as is valid.
abbrev pub ReadStatesAreValid : Type 0
ReadStatesAreValid =
    (bytes : List ℕ) (s : State) → All (λ b. b < 256) bytes → state_of bytes ≡ Ok s → IsValidState s

-- Its numbers fit their types, and its names are names.
abbrev pub ReadStatesFit : Type 0
ReadStatesFit =
    (bytes : List ℕ) (s : State) → All (λ b. b < 256) bytes → state_of bytes ≡ Ok s → IsState s

-- It has nothing beside what a store of it stands for.
abbrev pub ReadStatesAreDurable : Type 0
ReadStatesAreDurable =
    (bytes : List ℕ) (s : State) → All (λ b. b < 256) bytes → state_of bytes ≡ Ok s → durable s ≡ s

-- Its own bytes are read as it.
abbrev pub ReadStatesAreSpelled : Type 0
ReadStatesAreSpelled = (bytes : List ℕ) (s : State) → All (λ b. b < 256) bytes
    → state_of bytes ≡ Ok s → state_of (snapshot s) ≡ Ok s
