-- Two managers that know one another.
use Rattle.std.specs.Prelude.{[], ◌∷◌, ◌≡◌}
use Rattle.mqb_model.specs.state.State.{State}

-- Each is the other's only peer.
pub record KnowEachOther (a b : State) : Type 0 where
  pub first : a.peers ≡ b.identity ∷ []
  pub second : b.peers ≡ a.identity ∷ []
