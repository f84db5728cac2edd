-- Messages that arrive by a record: transactional ones are decided, and recoverable ones stored.
use Rattle.std.specs.Option.{option_map_or}
use Rattle.std.specs.Prelude.{[], ◌&&◌, ◌++◌, ◌∷◌, Bool, None, Option, Some, false, slice_set}
use Rattle.std.specs.Prelude.{true, ℕ}
use Rattle.mqb_base.specs.declared.class.Class.{Class}
use Rattle.mqb_base.specs.declared.heads.TxHead.{TxHead}
use Rattle.mqb_base.specs.declared.ledger.Line.{Line}
use Rattle.mqb_base.specs.declared.ledger.Line.TheVariants as line
use Rattle.mqb_base.specs.declared.ledger.Stream.{Stream}
use Rattle.mqb_base.specs.declared.message.Message.{Message}
use Rattle.mqb_fate.specs.Asking.{is_ordinary, is_transactional}
use Rattle.mqb_orders.specs.Judging.{verdict_of}
use Rattle.mqb_orders.specs.declared.judging.Verdict.{Verdict}
use Rattle.mqb_orders.specs.declared.judging.Verdict.TheVariants.{Next}
use Rattle.mqb_orders.specs.declared.rows.InRow.{InRow}
use Rattle.mqb_packet.specs.declared.packet.UserPacket.{UserPacket}
use Rattle.mqb_model.specs.rules.Arrivals.{refusal_of, storing_refusal}
use Rattle.mqb_model.specs.rules.Effects.{Effect, with_line}
use Rattle.mqb_model.specs.rules.Notices.{arrived}
use Rattle.mqb_model.specs.state.Rows.{in_index, in_row}
use Rattle.mqb_model.specs.state.State.{State}

-- the incoming row once a message was decided
abbrev pub decided_row : Message → TxHead → InRow
decided_row m tx = record {
  source = m.id.qm;
  destination = m.destination;
  sequence = tx.sequence;
  last = tx.number;
}

-- it stands in the place of the row before it, or behind the others
abbrev pub with_decided : State → Message → TxHead → State
with_decided s m tx = record s {
  ins = option_map_or (λ k. slice_set s.ins k (decided_row m tx)) (in_index s m)
      (s.ins ++ decided_row m tx ∷ []);
}

-- the stream of a message that is heard
abbrev pub stream_heard : Message → TxHead → Stream
stream_heard m tx = record { source = m.id.qm; destination = m.destination; sequence = tx.sequence }

-- the line of a decision
abbrev pub decided_line : Message → TxHead → Option Class → Line
decided_line m tx None = line.Put (stream_heard m tx) tx.number m.id
decided_line m tx (Some class) = line.Refused (stream_heard m tx) tx.number class m.id

-- a message that is next is decided, and put or refused
abbrev pub message_decided : ℕ → State → UserPacket → TxHead → Effect
message_decided now s p tx = with_line (decided_line p.message tx (refusal_of s p))
    (arrived (with_decided s p.message tx) p.message now (refusal_of s p))

-- the line of a recoverable message that arrived
abbrev pub stored_line : Message → Option Class → Line
stored_line m None = line.Stored m.id
stored_line m (Some class) = line.Bounced class m.id

-- a recoverable message is put or refused
abbrev pub message_stored : ℕ → State → UserPacket → Effect
message_stored now s p = with_line (stored_line p.message (storing_refusal s p))
    (arrived s p.message now (storing_refusal s p))

-- a message is next
abbrev pub is_next : Verdict → Bool
is_next Next = true
is_next _ = false

-- a message that is decided is transactional, ordinary and next
abbrev pub decided_fits : State → UserPacket → Bool
decided_fits s p = is_transactional p.message.delivery && is_ordinary p.message
    && option_map_or (λ tx. is_next (verdict_of (in_row s p.message) tx)) p.tx false
