-- How a manager's own messages are sent.
use Rattle.std.specs.Prelude.{◌+◌, if◌then◌else◌, ℕ}
use Rattle.mqb_base.specs.Bits.{keeps_copy}
use Rattle.mqb_base.specs.declared.class.TheConstants.Class.{REACHED_QUEUE}
use Rattle.mqb_base.specs.declared.ledger.Line.{Line}
use Rattle.mqb_base.specs.declared.ledger.Line.TheVariants as line
use Rattle.mqb_base.specs.declared.message.Message.{Message}
use Rattle.mqb_base.specs.declared.queues.EntryPlace.TheVariants as place
use Rattle.mqb_orders.specs.Rows.{Row}
use Rattle.mqb_model.specs.declared.target.Target.{Target}
use Rattle.mqb_model.specs.declared.target.Target.TheVariants.{AtPeer}
use Rattle.mqb_model.specs.rules.Effects.{Effect, with_line}
use Rattle.mqb_model.specs.rules.Notices.{meets}
use Rattle.mqb_model.specs.rules.Sequences.{join, sequence_for}
use Rattle.mqb_model.specs.state.Places.{placed, put_at}
use Rattle.mqb_model.specs.state.Resolving.{resolved}
use Rattle.mqb_model.specs.state.Rows.{stream_of}
use Rattle.mqb_model.specs.state.State.{State}

-- the computer's journal keeps a copy of a message that asks for it
abbrev pub journalled : State → Message → State
journalled s m = if keeps_copy m then put_at s place.Journal m else s

-- a message is put into a queue here and meets the class of that, or joins the
-- plain messages for a peer
abbrev pub delivered : State → Target → Message → ℕ → State
delivered s (AtPeer k) m now = placed s (AtPeer k) m
delivered s target m now = meets (placed s target m) m REACHED_QUEUE now

-- a message that is not transactional is sent, and has its number
abbrev pub plain_sent : State → Message → ℕ → State
plain_sent s m now = delivered (journalled s m) (resolved s m.destination) m now

-- the line of a message that joins a sequence
abbrev pub committed_line : State → Row → Message → Line
committed_line s row m = line.Committed (stream_of s row) (row.committed + 1) m.id

-- a message of a transaction goes to a target: it joins its sequence, or is put here
abbrev pub committed_to : ℕ → State → Target → Message → Effect
committed_to now s (AtPeer k) m =
    with_line (committed_line s (sequence_for s k m.destination now) m) (join s k now m)
committed_to now s target m = with_line (line.Local m.id) (delivered s target m now)

-- a message of a transaction is sent, and has its number
abbrev pub message_sent : ℕ → State → Message → Effect
message_sent now s m = committed_to now (journalled s m) (resolved s m.destination) m
