-- What a session makes of the packets that it hears, and of a set-up packet that it sends.
use Rattle.std.specs.Prelude.{ℕ, ◌+◌, Bool, true, not, ◌&&◌, ◌||◌, ◌==◌, nat_lt, max, Option}
use Rattle.std.specs.Prelude.{Some, if◌then◌else◌}
use Rattle.mqb_base.specs.declared.heads.SessionHead.{SessionHead}
use Rattle.mqb_base.specs.declared.ids.Guid.{Guid}
use Rattle.mqb_base.specs.declared.heard.Cause.{Cause}
use Rattle.mqb_base.specs.declared.heard.Cause.TheVariants.{Early, BadAck}
use Rattle.mqb_base.specs.Same.{same_guid}
use Rattle.mqb_setup.specs.declared.internal.Establish.{Establish}
use Rattle.mqb_setup.specs.declared.internal.Parameters.{Parameters}
use Rattle.mqb_session.specs.declared.heads.HeadHeard.{HeadHeard}
use Rattle.mqb_session.specs.declared.heads.HeadHeard.TheVariants as heard
use Rattle.mqb_session.specs.declared.phase.Phase.{Phase}
use Rattle.mqb_session.specs.declared.phase.Phase.TheVariants.{Start, WaitEstablish, WaitParameters}
use Rattle.mqb_session.specs.declared.phase.Phase.TheVariants.{Ready, Closed}
use Rattle.mqb_session.specs.declared.phase.Role.{Role}
use Rattle.mqb_session.specs.declared.phase.Role.TheVariants.{Initiator, Acceptor}
use Rattle.mqb_session.specs.State.{State, no_guid}
use Rattle.mqb_session.specs.Phases.{phase_after_owed, phase_after_establish}
use Rattle.mqb_session.specs.Phases.{phase_after_parameters}

-- The initiator wants the answer to its own Establish, which is not refused and has the same GUIDs.
-- The acceptor wants one of a client that is known, for itself or for no server by name.
abbrev pub is_wanted : Role → Establish → Bool → State → Bool
is_wanted Initiator e known s = not e.refused
    && (same_guid e.client s.establish.client && same_guid e.server s.establish.server)
is_wanted Acceptor e known s = known && (same_guid e.server s.own || same_guid e.server no_guid)

-- the acceptor keeps the Establish that it hears first
abbrev pub establish_after : Phase → Role → Establish → Establish → Establish
establish_after WaitEstablish Acceptor heard kept = heard
establish_after _ _ heard kept = kept

-- and its client as the peer, where it wants it
abbrev pub peer_after : Phase → Role → Bool → Guid → Option Guid → Option Guid
peer_after WaitEstablish Acceptor true client kept = Some client
peer_after _ _ _ client kept = kept

abbrev pub on_establish : Establish → Bool → State → State
on_establish e known s = let wanted = is_wanted s.role e known s in record s {
  phase = phase_after_establish s.phase s.role wanted;
  establish = establish_after s.phase s.role e s.establish;
  peer = peer_after s.phase s.role wanted e.client s.peer;
}

-- the peer's window is the one in the Parameters that are waited for
abbrev pub window_after : Phase → ℕ → ℕ → ℕ
window_after WaitParameters heard window = heard
window_after _ heard window = window

abbrev pub on_parameters : Parameters → State → State
on_parameters p s = record s {
  phase = phase_after_parameters s.phase s.role;
  peer_window = window_after s.phase p.window s.peer_window;
}

-- the moment of an Establish is that at which it is first sent
abbrev pub stamp_after : Phase → ℕ → ℕ → ℕ
stamp_after Start now stamp = now
stamp_after _ now stamp = stamp

abbrev pub after_owed : ℕ → State → State
after_owed now s = record s {
  phase = phase_after_owed s.phase s.role;
  establish = record s.establish { stamp = stamp_after s.phase now s.establish.stamp };
}

-- the phase of a session that is closed by this cause: a closed one keeps its own
abbrev pub closed_by : Cause → Phase → Phase
closed_by cause (Closed kept) = Closed kept
closed_by cause _ = Closed cause

abbrev pub on_close : Cause → State → State
on_close cause s = record s { phase = closed_by cause s.phase }

-- more was acknowledged than was sent
abbrev pub is_bad_ack : SessionHead → State → Bool
is_bad_ack h s = nat_lt s.sent h.ack || nat_lt s.recoverable_sent h.stored

-- the acknowledgements of a header: smaller ones than before change nothing
abbrev pub acknowledged : SessionHead → State → State
acknowledged h s =
    record s { acked = max s.acked h.ack; recoverable_acked = max s.recoverable_acked h.stored }

-- the user packet of a header is none, the next one, or another
abbrev pub order_of : SessionHead → State → HeadHeard
order_of h s = if h.user == 0 then heard.AckOnly else if h.user == s.got + 1 then heard.InOrder
    else heard.OutOfOrder

-- the next one counts as got, and that is to be acknowledged
abbrev pub counted : HeadHeard → State → State
counted heard.InOrder s = record s { got = s.got + 1; owes = true }
counted _ s = s

abbrev pub closing : Cause → State → HeadHeard × State
closing cause s = (heard.Closed cause, record s { phase = Closed cause })

-- what a header is heard as in this phase, and what it leaves
abbrev pub head_in : Phase → SessionHead → State → HeadHeard × State
head_in (Closed cause) h s = (heard.Closed cause, s)
head_in Ready h s = if is_bad_ack h s then closing BadAck s
    else (order_of h s, counted (order_of h s) (acknowledged h s))
head_in _ h s = closing Early s

abbrev pub heard_head : SessionHead → State → HeadHeard × State
heard_head h s = head_in s.phase h s
