-- Where the names of queues lead.
use Rattle.std.specs.Option.{option_map_or}
use Rattle.std.specs.Prelude.{◌&&◌, ◌||◌, Bool, List, Option, Some, codes, false, if◌then◌else◌}
use Rattle.std.specs.Prelude.{option_map, position, slice_get, true, ℕ}
use Rattle.mqb_base.specs.Same.{same_bytes, same_guid, same_ignoring_case}
use Rattle.mqb_base.specs.declared.ids.Guid.{Guid}
use Rattle.mqb_base.specs.declared.ids.Identity.{Identity}
use Rattle.mqb_base.specs.declared.queue_names.Host.{Host}
use Rattle.mqb_base.specs.declared.queue_names.Host.TheVariants.{Os, Tcp}
use Rattle.mqb_base.specs.declared.queue_names.QueueName.{QueueName}
use Rattle.mqb_base.specs.declared.queue_names.QueueName.TheVariants.{Direct, Private, Public}
use Rattle.mqb_fate.specs.Orders.{names_order_layer}
use Rattle.mqb_queue.specs.Places.{Queue, found, numbered}
use Rattle.mqb_model.specs.Lists.{number_at}
use Rattle.mqb_model.specs.declared.target.Target.{Target}
use Rattle.mqb_model.specs.declared.target.Target.TheVariants.{AtPeer, Here, Nowhere}
use Rattle.mqb_model.specs.state.State.{State}

-- the number of the queue with a name
abbrev pub queue_named : State → List ℕ → Option ℕ
queue_named s name = number_at (found s.places.queues name)

-- a queue is registered under a GUID
abbrev pub is_registered : Guid → Queue → Bool
is_registered guid q = option_map_or (same_guid guid) q.plan.public false

-- the number of the queue that is
abbrev pub queue_registered : State → Guid → Option ℕ
queue_registered s guid = number_at (position (is_registered guid) s.places.queues)

-- a number, where a queue has it
abbrev pub queue_numbered : State → ℕ → Option ℕ
queue_numbered s number = option_map (λ q. number) (numbered s.places.queues number)

-- the index of the peer with a GUID
abbrev pub peer_known : State → Guid → Option ℕ
peer_known s guid = position (λ p. same_guid p.guid guid) s.peers

-- a host is the manager's own: by its name or a dot, or by its address
abbrev pub is_own_host : Identity → Host → Bool
is_own_host own (Os name) = same_bytes name (codes ".") || same_ignoring_case name own.host
is_own_host own (Tcp address) = same_bytes address own.address

-- a host is a peer's, by its name or its address
abbrev pub is_host_of : Host → Identity → Bool
is_host_of (Os name) peer = same_ignoring_case name peer.host
is_host_of (Tcp address) peer = same_bytes address peer.address

-- the index of the first peer of a host
abbrev pub peer_at : State → Host → Option ℕ
peer_at s host = position (is_host_of host) s.peers

-- to a peer that is there, or nowhere
abbrev pub at_peer : Option ℕ → Target
at_peer peer = option_map_or (λ k. AtPeer k) peer Nowhere

-- to a queue that is there, or nowhere
abbrev pub at_queue : Option ℕ → Target
at_queue queue = option_map_or (λ number. Here (Some number)) queue Nowhere

-- where a name leads
abbrev pub resolved : State → QueueName → Target
resolved s (Public guid false) = at_queue (queue_registered s guid)
resolved s (Private qm number false) = if same_guid qm s.identity.guid
    then Here (queue_numbered s number)
    else at_peer (peer_known s qm)
resolved s (Direct host queue false) = if is_own_host s.identity host
    then Here (queue_named s queue)
    else at_peer (peer_at s host)
resolved s _ = Nowhere

-- to this manager
abbrev pub is_here : Target → Bool
is_here (Here queue) = true
is_here _ = false

-- to a queue here or to a peer
abbrev pub is_found : Target → Bool
is_found (Here (Some number)) = true
is_found (AtPeer k) = true
is_found _ = false

-- the name of this manager's order layer
abbrev pub is_for_order_layer : State → QueueName → Bool
is_for_order_layer s name = names_order_layer name && is_here (resolved s name)

-- the GUID of the manager to which a message for a target goes
abbrev pub guid_at : State → Target → Guid
guid_at s (AtPeer k) = option_map_or (λ p. p.guid) (slice_get s.peers k) s.identity.guid
guid_at s _ = s.identity.guid
