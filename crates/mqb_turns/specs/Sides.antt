-- Two managers with their disks and the traffic between them, as one of the two sees it, and the
-- network that they make.
use Rattle.mqb_seats.specs.Seats.{SeatState, seated}
use Rattle.mqb_network.specs.Network.{Network}
use Rattle.mqb_script.specs.declared.managers.Which.{Which}
use Rattle.mqb_script.specs.declared.managers.Which.TheVariants.{Alpha, Beta}
use Rattle.mqb_traffic.specs.Networks.{network_with}
use Rattle.mqb_traffic.specs.States.{TrafficState}

pub record Side : Type 0 where
  pub own : SeatState
  pub other : SeatState
  pub traffic : TrafficState

abbrev pub side : SeatState → SeatState → TrafficState → Side
side own other traffic = record { own = own; other = other; traffic = traffic }

-- where the one that sees it is this one
abbrev pub network_at : Which → Side → Network
network_at Alpha x = network_with (seated x.own) (seated x.other) x.traffic
network_at Beta x = network_with (seated x.other) (seated x.own) x.traffic
