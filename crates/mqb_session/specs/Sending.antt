-- The numbers of the packets that a session sends.
use Rattle.std.specs.Prelude.{◌+◌, ◌-◌, Bool, true, false, not, ◌&&◌, ◌==◌, nat_lt}
use Rattle.mqb_base.specs.declared.heads.SessionHead.{SessionHead}
use Rattle.mqb_session.specs.declared.heads.Kind.{Kind}
use Rattle.mqb_session.specs.declared.heads.Kind.TheVariants.{Plain, Recoverable, Ack}
use Rattle.mqb_session.specs.declared.phase.Phase.{Phase}
use Rattle.mqb_session.specs.declared.phase.Phase.TheVariants.{Ready}
use Rattle.mqb_session.specs.State.{State}

abbrev pub is_ready : Phase → Bool
is_ready Ready = true
is_ready _ = false

-- all numbers were used
abbrev pub is_used_up : State → Bool
is_used_up s = s.sent == 65535

abbrev pub may_send : State → Bool
may_send s = is_ready s.phase && (not (is_used_up s) && nat_lt (s.sent - s.acked) s.peer_window)

abbrev pub is_spent : State → Bool
is_spent s = is_ready s.phase && is_used_up s

-- a packet of this kind may go: an acknowledgement always
abbrev pub may_go : Kind → State → Bool
may_go Ack s = true
may_go _ s = may_send s

-- a packet of this kind takes the next numbers
abbrev pub numbered : Kind → State → State
numbered Plain s = record s { sent = s.sent + 1 }
numbered Recoverable s = record s { sent = s.sent + 1; recoverable_sent = s.recoverable_sent + 1 }
numbered Ack s = s

-- the header that tells what was got, and the numbers that were taken last
abbrev pub head_of : State → SessionHead
head_of s = record {
  ack = s.got;
  stored = s.stored;
  stored_flags = 0;
  user = s.sent;
  recoverable = s.recoverable_sent;
  window = s.window;
}

-- nothing is owed once it was told
abbrev pub stamped : Kind → State → SessionHead × State
stamped kind s = (head_of (numbered kind s), record (numbered kind s) { owes = false })

abbrev pub noted_stored : State → State
noted_stored s = record s { stored = s.stored + 1; owes = true }
