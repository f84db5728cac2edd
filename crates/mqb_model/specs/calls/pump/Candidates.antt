-- The packets that could go to a peer, in the order in which they go.
use Rattle.std.specs.List.{enumerate_from}
use Rattle.std.specs.Prelude.{[], ◌&&◌, ◌++◌, ◌==◌, ◌∷◌, Bool, List, None, Option, Some, filter}
use Rattle.std.specs.Prelude.{filter_map, flat_map, if◌then◌else◌, is_none, map, max, nat_lt}
use Rattle.std.specs.Prelude.{zip, ℕ}
use Rattle.mqb_base.specs.Same.{same_guid}
use Rattle.mqb_base.specs.declared.heads.TxHead.{TxHead}
use Rattle.mqb_base.specs.declared.ids.Guid.{Guid}
use Rattle.mqb_base.specs.declared.ids.Identity.{Identity}
use Rattle.mqb_base.specs.declared.message.Message.{Message}
use Rattle.mqb_fate.specs.Orders.{order_acknowledgement}
use Rattle.mqb_fate.specs.declared.orders.OrderAck.{OrderAck}
use Rattle.mqb_orders.specs.Rows.{Row, is_open, link_before}
use Rattle.mqb_orders.specs.declared.kept.Kept.{Kept}
use Rattle.mqb_orders.specs.declared.rows.InRow.{InRow}
use Rattle.mqb_plain.specs.Plain.{PlainLists}
use Rattle.mqb_plain.specs.declared.outgoing.Outgoing.{Outgoing}
use Rattle.mqb_model.specs.managers.Beside.{OfExpress, OfRecoverable, OfRow, Origin, Owed}
use Rattle.mqb_model.specs.managers.Manager.{Rest}
use Rattle.mqb_model.specs.rules.Numbers.{express_after, own_id}
use Rattle.mqb_model.specs.state.State.{State}

-- a packet that could go: its message, and its place in a stream
pub record Candidate : Type 0 where
  pub origin : Origin
  pub message : Message
  pub tx : Option TxHead

-- First, order acknowledgements: one for each incoming row of the peer that owes one, in row order.

-- what an incoming row acknowledges
abbrev pub ack_of : InRow → OrderAck
ack_of row = record { sequence = row.sequence; number = row.last }

-- a row of the peer that owes, and its index
abbrev pub owed_to : Guid → ℕ × (InRow × Bool) → Option (ℕ × InRow)
owed_to peer given =
    if given.1.1 && same_guid given.1.0.source peer then Some (given.0, given.1.0) else None

-- all of them
abbrev pub rows_owing : State → Rest → Guid → List (ℕ × InRow)
rows_owing s rest peer = filter_map (owed_to peer) (enumerate_from 0 (zip s.ins rest.owes))

-- the acknowledgement of a row, under an express number
abbrev pub ack_candidate : State → Identity → ℕ → ℕ → ℕ × InRow → Candidate
ack_candidate s peer now number row = record {
  origin = Owed row.0;
  message = order_acknowledgement (ack_of row.1) peer.host (own_id s number) now;
  tx = None;
}

-- those of all rows, numbered one after another
abbrev pub acks : State → Identity → ℕ → ℕ → List (ℕ × InRow) → List Candidate
acks s peer now number [] = []
acks s peer now number (row ∷ rows) =
    ack_candidate s peer now number row ∷ acks s peer now (express_after number) rows

-- Then plain messages that were not sent in this connection, recoverable ones before express ones.

-- a plain message that waits
abbrev pub unsent_from : Origin → Outgoing → Option Candidate
unsent_from origin o = if is_none o.mark
    then Some (record { origin = origin; message = o.message; tx = None })
    else None

-- those of a peer
abbrev pub plain_candidates : PlainLists → List Candidate
plain_candidates p = filter_map (unsent_from OfRecoverable) p.recoverable
    ++ filter_map (unsent_from OfExpress) p.express

-- Then messages of streams, row by row.

-- the transaction header of a kept message, which names the kept one before it
abbrev pub tx_of : Row → Kept → TxHead
tx_of row k = record {
  sequence = row.sequence;
  number = k.number;
  previous = link_before row.acked row.kept k.number;
}

-- a kept number of the row at an index
abbrev pub of_row : ℕ → Row → Kept → Candidate
of_row index row k =
    record { origin = OfRow index k.number; message = k.message; tx = Some (tx_of row k) }

-- the kept numbers above the acknowledged one and the one that was sent last
abbrev pub unsent_of : Row → ℕ → List Kept
unsent_of row cursor = filter (λ k. nat_lt (max row.acked cursor) k.number) row.kept

-- what waits in a row of the peer that is open
abbrev pub waiting : State → ℕ → ℕ × (Row × ℕ) → List Candidate
waiting s peer given = if given.1.0.peer == peer && is_open s.outs given.0
    then map (of_row given.0 given.1.0) (unsent_of given.1.0 given.1.1)
    else []

-- what waits in all rows
abbrev pub row_candidates : State → Rest → ℕ → List Candidate
row_candidates s rest peer = flat_map (waiting s peer) (enumerate_from 0 (zip s.outs rest.cursors))

-- Whatever could go now to the peer at an index.
abbrev pub candidates : State → Rest → ℕ → ℕ → Identity → PlainLists → List Candidate
candidates s rest now k peer p = acks s peer now s.next_express (rows_owing s rest peer.guid)
    ++ plain_candidates p ++ row_candidates s rest k
