-- Messages of streams are judged, whether or not they are in order (7), and those of another
-- class than the ordinary one are discarded (8). Order acknowledgements are heard, whether or not
-- they are in order (9).
use Rattle.std.specs.List.{list_any}
use Rattle.std.specs.Option.{option_map_or}
use Rattle.std.specs.Prelude.{◌&&◌, ◌+◌, ◌==◌, Bool, None, Option, Some, false, if◌then◌else◌}
use Rattle.std.specs.Prelude.{length, slice_set, true, unwrap_or, ℕ}
use Rattle.mqb_base.specs.Sequences.{same_sequence}
use Rattle.mqb_base.specs.declared.class.Class.{Class}
use Rattle.mqb_base.specs.declared.class.TheConstants.Class.{ORDER_ACKNOWLEDGEMENT}
use Rattle.mqb_base.specs.declared.heads.TxHead.{TxHead}
use Rattle.mqb_base.specs.declared.heard.Heard.{Heard}
use Rattle.mqb_base.specs.declared.heard.Heard.TheVariants as heard
use Rattle.mqb_base.specs.declared.message.Message.{Message}
use Rattle.mqb_fate.specs.Asking.{is_ordinary}
use Rattle.mqb_fate.specs.Orders.{acked_by}
use Rattle.mqb_fate.specs.declared.orders.OrderAck.{OrderAck}
use Rattle.mqb_orders.specs.Judging.{verdict_of}
use Rattle.mqb_orders.specs.Rows.{Row}
use Rattle.mqb_orders.specs.declared.judging.Verdict.{Verdict}
use Rattle.mqb_orders.specs.declared.judging.Verdict.TheVariants as verdict
use Rattle.mqb_packet.specs.declared.packet.UserPacket.{UserPacket}
use Rattle.mqb_model.specs.Lists.{grown}
use Rattle.mqb_model.specs.calls.hear.Session.{HeardOutcome, Listening, discarded}
use Rattle.mqb_model.specs.calls.hear.Session.{heard_as, peer_heard}
use Rattle.mqb_model.specs.managers.Manager.{Rest}
use Rattle.mqb_model.specs.records.Arrived.{raises_ack}
use Rattle.mqb_model.specs.records.Record.{Decided, Nothing, OrderAcknowledged}
use Rattle.mqb_model.specs.rules.Arrivals.{refusal_of}
use Rattle.mqb_model.specs.state.Places.{is_express}
use Rattle.mqb_model.specs.state.Resolving.{is_for_order_layer}
use Rattle.mqb_model.specs.state.Rows.{in_index, in_row}
use Rattle.mqb_model.specs.state.State.{State}

-- the incoming row at an index owes an acknowledgement
abbrev pub with_owed : ℕ → Rest → Rest
with_owed k rest = record rest { owes = slice_set (grown false (k + 1) rest.owes) k true }

-- it does, besides
abbrev pub owing : ℕ → HeardOutcome → HeardOutcome
owing k outcome = record outcome { rest = with_owed k outcome.rest }

-- how a decision is answered
abbrev pub decided_answer : TxHead → Option Class → Heard
decided_answer tx None = heard.Put tx.sequence tx.number
decided_answer tx (Some class) = heard.Refused tx.sequence tx.number class

-- the index of the row to which a message belongs, or will
abbrev pub index_for : State → Message → ℕ
index_for s m = unwrap_or (in_index s m) (length s.ins)

-- the row is there, and has this sequence
abbrev pub has_sequence : State → Message → TxHead → Bool
has_sequence s m tx =
    option_map_or (λ row. same_sequence row.sequence tx.sequence) (in_row s m) false

-- a message that is next is decided, and its row owes
abbrev pub hear_next : Listening → UserPacket → TxHead → HeardOutcome
hear_next l p tx = owing (index_for l.manager.state p.message)
    (heard_as l (Decided p) (decided_answer tx (refusal_of l.manager.state p)))

-- one that was decided comes again
abbrev pub duplicate_heard : Listening → TxHead → HeardOutcome
duplicate_heard l tx = heard_as l Nothing (heard.Duplicate tx.sequence tx.number)

-- its row owes again, where it still has that sequence
abbrev pub hear_duplicate : Listening → Message → TxHead → HeardOutcome
hear_duplicate l m tx = if has_sequence l.manager.state m tx
    then owing (index_for l.manager.state m) (duplicate_heard l tx)
    else duplicate_heard l tx

-- a message of this verdict is heard
abbrev pub judged : Listening → UserPacket → TxHead → Verdict → HeardOutcome
judged l p tx verdict.Next = hear_next l p tx
judged l p tx verdict.Duplicate = hear_duplicate l p.message tx
judged l p tx verdict.Gap = heard_as l Nothing (heard.Gap tx.sequence tx.number)
judged l p tx verdict.Stale = heard_as l Nothing (heard.Stale tx.sequence tx.number)

-- a message of a stream is heard
abbrev pub hear_in_stream : Listening → UserPacket → TxHead → HeardOutcome
hear_in_stream l p tx = if is_ordinary p.message
    then judged l p tx (verdict_of (in_row l.manager.state p.message) tx)
    else discarded l

-- an express message for the order layer, of the class of order acknowledgements
abbrev pub may_acknowledge : State → Message → Bool
may_acknowledge s m = is_express m.delivery && m.class.0 == ORDER_ACKNOWLEDGEMENT.0
    && is_for_order_layer s m.destination

-- what a message acknowledges, where it is an order acknowledgement
abbrev pub acknowledged_in : State → Message → Option OrderAck
acknowledged_in s m = if may_acknowledge s m then acked_by m.body else None

-- it raises the mark of a row to a peer
abbrev pub raises : ℕ → OrderAck → Row → Bool
raises peer ack row =
    row.peer == peer && same_sequence row.sequence ack.sequence && raises_ack ack.number row

-- the part of a record, and the answer
abbrev pub order_acked : Listening → OrderAck → HeardOutcome
order_acked l ack = heard_as l (OrderAcknowledged ack.sequence.ordinal ack.number)
    (heard.OrderAcked ack.sequence.ordinal ack.number)

-- one that raises a mark is recorded
abbrev pub hear_order_ack : Listening → OrderAck → HeardOutcome
hear_order_ack l ack = if list_any (raises (peer_heard l) ack) l.manager.state.outs
    then order_acked l ack
    else heard_as l Nothing heard.OldAck
