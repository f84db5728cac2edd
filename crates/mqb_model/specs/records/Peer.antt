-- The records Peer and CreateQueue: what they do, and when they fit. The calls that make them are
-- refused by the same words.
use Rattle.std.specs.List.{list_any}
use Rattle.std.specs.Option.{option_map_or}
use Rattle.std.specs.Prelude.{[], ◌&&◌, ◌++◌, ◌+◌, ◌==◌, ◌||◌, ◌∷◌, Bool, false, length, nat_lt}
use Rattle.std.specs.Prelude.{not, ℕ}
use Rattle.mqb_base.specs.Same.{same_guid, same_ignoring_case}
use Rattle.mqb_base.specs.declared.ids.Identity.{Identity}
use Rattle.mqb_base.specs.declared.queues.QueuePlan.{QueuePlan}
use Rattle.mqb_fate.specs.Orders.{is_order_name}
use Rattle.mqb_plain.specs.Plain.{no_plain}
use Rattle.mqb_queue.specs.Places.{Queue, with_queue}
use Rattle.mqb_model.specs.declared.limits.TheConstants.{MAX_PEERS, MAX_QUEUES}
use Rattle.mqb_model.specs.state.Resolving.{is_registered}
use Rattle.mqb_model.specs.state.State.{State}

-- two managers have the same GUID or host
abbrev pub is_met : Identity → Identity → Bool
is_met a b = same_guid a.guid b.guid || same_ignoring_case a.host b.host

-- a manager is this one or a peer
abbrev pub peer_there : State → Identity → Bool
peer_there s identity =
    is_met s.identity identity || list_any (λ peer. is_met peer identity) s.peers

-- a peer joins the others, and no message waits for it
abbrev pub with_peer : State → Identity → State
with_peer s peer = record s { peers = s.peers ++ peer ∷ []; plain = s.plain ++ no_plain ∷ [] }

-- it is new, and there is room for one more
abbrev pub peer_fits : State → Identity → Bool
peer_fits s peer = not (peer_there s peer) && nat_lt (length s.peers) MAX_PEERS

-- two queues are registered under the same GUID
abbrev pub shares_guid : QueuePlan → Queue → Bool
shares_guid plan q = option_map_or (λ guid. is_registered guid q) plan.public false

-- a queue has the name or the GUID that is planned
abbrev pub is_taken_by : QueuePlan → Queue → Bool
is_taken_by plan q = same_ignoring_case q.plan.name plan.name || shares_guid plan q

-- a queue's name is the order layer's or another's, or its GUID is another's
abbrev pub queue_there : State → QueuePlan → Bool
queue_there s plan = is_order_name plan.name || list_any (is_taken_by plan) s.places.queues

-- a queue without messages joins the others
abbrev pub with_new_queue : State → QueuePlan → State
with_new_queue s plan = record s { places = with_queue plan s.places }

-- the number of the next queue, from 1
abbrev pub next_queue : State → ℕ
next_queue s = length s.places.queues + 1

-- it is new, its number is the next, and there is room for one more
abbrev pub queue_fits : State → ℕ → QueuePlan → Bool
queue_fits s number plan =
    number == next_queue s && not (queue_there s plan) && nat_lt (length s.places.queues) MAX_QUEUES
