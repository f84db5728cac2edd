-- A world as one of its managers sees it.
use Rattle.std.specs.Prelude.{◌≡◌, Bool, List, None, ℕ}
use Rattle.mqb_outside.specs.Disk.{View}
use Rattle.mqb_moves.specs.Seats.{SeatState, seated}
use Rattle.mqb_network.specs.Network.{Network}
use Rattle.mqb_script.specs.declared.managers.Which.{Which}
use Rattle.mqb_script.specs.declared.managers.Which.TheVariants.{Alpha, Beta}
use Rattle.mqb_turns.specs.mqb_seats.declared.packets.Pumped.{Pumped}
use Rattle.mqb_traffic.specs.States.{TrafficState}
use Rattle.mqb_turns.specs.Sends.{IsSent}
use Rattle.mqb_turns.specs.Sides.{Side, side}
use Rattle.mqb_world.specs.Worlds.{WorldState, network_of}

-- two managers with their disks, and the traffic between them
abbrev pub world : SeatState → SeatState → TrafficState → WorldState
world alpha beta traffic = record { alpha = alpha; beta = beta; traffic = traffic }

abbrev pub network_in : SeatState → SeatState → TrafficState → Network
network_in alpha beta traffic = network_of (world alpha beta traffic)

abbrev pub side_of : WorldState → Which → Side
side_of w Alpha = side w.alpha w.beta w.traffic
side_of w Beta = side w.beta w.alpha w.traffic

-- Where no connection stands, neither manager has a session.
pub record AreUnlinked (w : WorldState) : Type 0 where
  pub alpha : w.traffic.link ≡ None → (seated w.alpha).rest.session ≡ None
  pub beta : w.traffic.link ≡ None → (seated w.beta).rest.session ≡ None

-- The packets of a manager went, and the other one's disk was not called.
abbrev pub SentBy : Which → (w w_now : WorldState) → (first first_now second second_now : View)
    → (first_stopped second_stopped : Bool)
    → (strings strings_now : List (List ℕ)) → ℕ → Pumped → Type 0
SentBy Alpha w w_now first first_now second second_now first_stopped second_stopped strings
    strings_now now pumped =
    IsSent Alpha (side_of w Alpha) (side_of w_now Alpha) first first_now first_stopped strings
    strings_now now pumped × (second_now.faults ≡ second.faults)
SentBy Beta w w_now first first_now second second_now first_stopped second_stopped strings
    strings_now now pumped =
    IsSent Beta (side_of w Beta) (side_of w_now Beta) second second_now second_stopped strings
    strings_now now pumped × (first_now.faults ≡ first.faults)
