-- The network of two managers and the traffic between them.
use Rattle.std.specs.Prelude.{[], ◌∷◌, Bool, List, None, Option, Some, if◌then◌else◌, map, true}
use Rattle.mqb_model.specs.managers.Manager.{Manager}
use Rattle.mqb_network.specs.Changes.{parted}
use Rattle.mqb_network.specs.Network as network
use Rattle.mqb_script.specs.Managers.{other}
pub use Rattle.mqb_script.specs.Managers.{index_of}
use Rattle.mqb_traffic.specs.States.{TrafficState}
use Rattle.mqb_traffic.specs.declared.notes.Link.{Link}
use Rattle.mqb_traffic.specs.declared.notes.Note.{Note}

-- a connection leads from the one who asked to the other
abbrev pub connection_of : Link → network.Connection
connection_of l = record {
  number = l.number;
  first = index_of l.initiator;
  second = index_of (other l.initiator);
}

-- the connections that stand
abbrev pub connections_of : Option Link → List network.Connection
connections_of None = []
connections_of (Some l) = connection_of l ∷ []

-- a packet goes to the one who did not send it
abbrev pub note_of : Note → network.Note
note_of n = record {
  sender = index_of n.sender;
  receiver = index_of (other n.sender);
  connection = n.connection;
  moment = n.moment;
  dropped = n.dropped;
}

-- a packet was dropped
abbrev pub marked : Note → Note
marked n = record n { dropped = true }

-- the notes of all packets
abbrev pub notes_of : TrafficState → List network.Note
notes_of t = map note_of t.notes

-- alpha, beta, and what is between them
abbrev pub network_with : Manager → Manager → TrafficState → network.Network
network_with alpha beta t = record {
  managers = alpha ∷ beta ∷ [];
  connections = connections_of t.link;
  connected = t.connected;
  notes = notes_of t;
  ledger = t.ledger;
}

-- a manager forgets its connection, where that ended
abbrev pub parted_where : Bool → Manager → Manager
parted_where ended m = if ended then parted m else m
