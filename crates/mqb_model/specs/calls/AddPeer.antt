-- The call add_peer.
use Rattle.std.specs.Prelude.{None, Ok, Option, Result, Some, if◌then◌else◌, length, nat_le, ℕ}
use Rattle.mqb_base.specs.declared.ids.Identity.{Identity}
use Rattle.mqb_model.specs.declared.faults.AddPeerFault.{AddPeerFault}
use Rattle.mqb_model.specs.declared.faults.AddPeerFault.TheVariants as fault
use Rattle.mqb_model.specs.declared.limits.TheConstants.{MAX_PEERS}
use Rattle.mqb_model.specs.managers.Manager.{Manager, is_down}
use Rattle.mqb_model.specs.managers.Outcomes.{Outcome, recording, unless}
use Rattle.mqb_model.specs.records.Peer.{peer_there}
use Rattle.mqb_model.specs.records.Record as entry

-- why no peer is added, by the first of these that holds
abbrev pub add_peer_refusal : Manager → Identity → Option AddPeerFault
add_peer_refusal m peer = if is_down m then Some fault.Down
    else if peer_there m.state peer then Some fault.PeerThere
    else if nat_le MAX_PEERS (length m.state.peers) then Some fault.TooManyPeers
    else None

-- it answers the peer's index
abbrev pub add_peer : Manager → Identity → Outcome (Result ℕ AddPeerFault)
add_peer m peer =
    unless m (add_peer_refusal m peer) (recording m (entry.Peer peer) (Ok (length m.state.peers)))
