-- The events connect, disconnect and resend.
use Rattle.std.specs.Prelude.{◌-◌, ◌||◌, Bool, if◌then◌else◌, length, unwrap_or, ℕ}
use Rattle.mqb_base.specs.declared.ids.Guid.{Guid}
use Rattle.mqb_model.specs.calls.Link.{link, resend}
use Rattle.mqb_model.specs.declared.answers.Role.{Role}
use Rattle.mqb_model.specs.declared.answers.Role.TheVariants as role
use Rattle.mqb_model.specs.managers.Manager.{is_down}
use Rattle.mqb_model.specs.state.Resolving.{peer_known}
use Rattle.mqb_model.specs.state.State.{State}
use Rattle.mqb_network.specs.Answers.{Answer, only}
use Rattle.mqb_network.specs.Changes.{begun, ended, succeeded_at}
use Rattle.mqb_network.specs.Choices.{Well}
use Rattle.mqb_network.specs.Courses.{Course, moved}
use Rattle.mqb_network.specs.Network.{Network, is_connected, manager_at}
use Rattle.mqb_network.specs.Replies as reply
use Rattle.mqb_network.specs.Sending.{flow, numbers_behind}

-- a manager asks the one with this GUID
abbrev pub asking : State → Guid → Role
asking s guid = role.Initiator (unwrap_or (peer_known s guid) (length s.peers))

-- a manager is linked
abbrev pub linked_as : ℕ → Role → ℕ → Network → Network
linked_as i end window n = succeeded_at i (link (manager_at n i) end window) n

-- the one that connects asks the other
abbrev pub linked_to : ℕ → ℕ → ℕ → Network → Network
linked_to a b window n =
    linked_as a (asking (manager_at n a).state (manager_at n b).state.identity.guid) window n

-- both are linked, and a connection begins
abbrev pub both_linked : ℕ → ℕ → ℕ → ℕ → Network → Network
both_linked a b window_a window_b n =
    begun a b (linked_as b role.Acceptor window_b (linked_to a b window_a n))

-- each in turn sends what it owes, and is heard
abbrev pub exchanged : ℕ → ℕ → ℕ → Course → Course
exchanged a b now c = (flow b now Well (flow a now Well c).after).after

-- the session is set up by four packets
abbrev pub set_up : ℕ → ℕ → ℕ → Course → Course
set_up a b now c = exchanged a b now (exchanged a b now c)

-- the reply has the numbers of the packets that were sent meanwhile
abbrev pub connected : ℕ → Course → Answer
connected before c = record {
  reply = reply.Connected (numbers_behind before (length c.network.notes - before));
  after = c;
}

-- two managers are connected
abbrev pub connecting : ℕ → ℕ → ℕ → ℕ → ℕ → Course → Answer
connecting a b now window_a window_b c = connected (length c.network.notes)
    (set_up a b now (moved (both_linked a b window_a window_b) c))

-- one of two managers is down
abbrev pub any_down : Network → ℕ → ℕ → Bool
any_down n a b = is_down (manager_at n a) || is_down (manager_at n b)

-- one of them has a connection
abbrev pub any_connected : Network → ℕ → ℕ → Bool
any_connected n a b = is_connected n a || is_connected n b

-- the event
abbrev pub connect : ℕ → ℕ → ℕ → ℕ → ℕ → Course → Answer
connect a b now window_a window_b c = if any_down c.network a b then only c reply.NotUp
    else if any_connected c.network a b then only c reply.Linked
    else connecting a b now window_a window_b c

-- a manager's connection ends
abbrev pub disconnect : ℕ → Course → Answer
disconnect i c = if is_connected c.network i
    then record { reply = reply.Disconnected; after = moved (ended i) c }
    else only c reply.Unlinked

-- its rows begin anew
abbrev pub resend_by : ℕ → Course → Answer
resend_by i c = if is_connected c.network i
    then record {
      reply = reply.Resent;
      after = moved (succeeded_at i (resend (manager_at c.network i))) c;
    }
    else only c reply.Unlinked
