-- Whether two managers have something for one another.
use Rattle.std.specs.Option.{option_map_or}
use Rattle.std.specs.Prelude.{◌≡◌, Bool, false, ℕ}
use Rattle.mqb_model.specs.managers.Manager.{is_down, unlinked}
use Rattle.mqb_model.specs.managers.Readers.{is_outstanding_to}
use Rattle.mqb_model.specs.state.Resolving.{peer_known}
use Rattle.mqb_network.specs.Network.{Network, manager_at}

-- a manager is up, and nothing is known of a connection
abbrev pub IsAlone : Network → ℕ → Type 0
IsAlone n i = manager_at n i ≡ unlinked (manager_at n i).state

-- something that a manager has for another one is not acknowledged
abbrev pub has_for : Network → ℕ → ℕ → Bool
has_for n i j = option_map_or (is_outstanding_to (manager_at n i).state)
    (peer_known (manager_at n i).state (manager_at n j).state.identity.guid) false

-- Both are up, and neither has anything for the other that is not acknowledged.
pub record IsDrained (n : Network) (a b : ℕ) : Type 0 where
  pub first_up : is_down (manager_at n a) ≡ false
  pub second_up : is_down (manager_at n b) ≡ false
  pub first : has_for n a b ≡ false
  pub second : has_for n b a ≡ false
