-- What a world is, and the network that it stands for.
use Rattle.std.specs.Prelude.{ℕ}
use Rattle.mqb_moves.specs.Seats.{SeatState, seated}
use Rattle.mqb_network.specs.Network.{Network}
use Rattle.mqb_script.specs.declared.managers.Which.{Which}
use Rattle.mqb_script.specs.declared.managers.Which.TheVariants.{Alpha, Beta}
use Rattle.mqb_traffic.specs.Networks.{network_with}
use Rattle.mqb_traffic.specs.States.{TrafficState}
use Rattle.mqb_turns.specs.Counts.{counts_with}

-- two managers with their disks, and the traffic between them
pub record WorldState : Type 0 where
  pub alpha : SeatState
  pub beta : SeatState
  pub traffic : TrafficState

abbrev pub network_of : WorldState → Network
network_of w = network_with (seated w.alpha) (seated w.beta) w.traffic

-- how many records their stores have had
abbrev pub counts_of : WorldState → ℕ → ℕ
counts_of w = counts_with w.alpha w.beta

-- one of the two
abbrev pub seat_at : WorldState → Which → SeatState
seat_at w Alpha = w.alpha
seat_at w Beta = w.beta
