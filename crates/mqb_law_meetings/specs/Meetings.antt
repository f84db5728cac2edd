-- What two managers do once faults are over: both are started anew, and then they meet.
use Rattle.std.specs.Prelude.{[], ◌++◌, ◌∷◌, Bool, List, false, suc, true, zero, ℕ}
use Rattle.mqb_network.specs.Choices.{Choice, Fails, Unread}
use Rattle.mqb_network.specs.Events.{Event}
use Rattle.mqb_network.specs.Events as event

-- No disk fails. A manager that was down is started over what its store has, with the record in
-- doubt or without it.
abbrev pub is_good : Choice → Bool
is_good (Fails before how) = false
is_good Unread = false
is_good _ = true

-- Both are started. That ends their connections, and whatever was express is gone.
abbrev pub starts : ℕ → ℕ → List Event
starts a b = event.Restart a ∷ event.Restart b ∷ []

-- They meet: in a new connection, with one packet at a time each, they flow in turn.
abbrev pub meeting : ℕ → ℕ → ℕ → List Event
meeting a b now = event.Connect a b now 1 1
    ∷ event.Flow a now ∷ event.Flow b now ∷ event.Flow a now ∷ event.Flow b now ∷ event.Flow a now
    ∷ event.Disconnect a ∷ []

-- so often
abbrev pub meetings : ℕ → ℕ → ℕ → ℕ → List Event
meetings a b now zero = []
meetings a b now (suc count) = meeting a b now ++ meetings a b now count
