-- The rows of a state: outgoing ones by their ordinals, incoming ones by their
-- sources and destinations.
use Rattle.std.specs.List.{last_or}
use Rattle.std.specs.Prelude.{◌&&◌, ◌==◌, Bool, None, Option, filter, option_and_then, position}
use Rattle.std.specs.Prelude.{slice_get, ℕ}
use Rattle.mqb_base.specs.Same.{same_guid, same_name}
use Rattle.mqb_base.specs.declared.ids.Guid.{Guid}
use Rattle.mqb_base.specs.declared.ledger.Stream.{Stream}
use Rattle.mqb_base.specs.declared.message.Message.{Message}
use Rattle.mqb_base.specs.declared.queue_names.QueueName.{QueueName}
use Rattle.mqb_orders.specs.Rows.{Row, leads_to}
use Rattle.mqb_orders.specs.declared.rows.InRow.{InRow}
use Rattle.mqb_model.specs.Lists.{first_where, with_first_changed}
use Rattle.mqb_model.specs.state.State.{State}

-- a row has an ordinal
abbrev pub has_ordinal : ℕ → Row → Bool
has_ordinal ordinal row = row.sequence.ordinal == ordinal

-- the row of an ordinal
abbrev pub row_of_ordinal : State → ℕ → Option Row
row_of_ordinal s ordinal = first_where (has_ordinal ordinal) s.outs

-- it is changed, and the others stay
abbrev pub with_row : (Row → Row) → State → ℕ → State
with_row change s ordinal =
    record s { outs = with_first_changed change (has_ordinal ordinal) s.outs }

-- the stream of an outgoing row
abbrev pub stream_of : State → Row → Stream
stream_of s row =
    record { source = s.identity.guid; destination = row.destination; sequence = row.sequence }

-- the last sequence to a destination at a peer
abbrev pub last_sequence : State → ℕ → QueueName → Option Row
last_sequence s peer destination = last_or None (filter (leads_to peer destination) s.outs)

-- an incoming row of a source and a destination
abbrev pub is_row_of : Guid → QueueName → InRow → Bool
is_row_of source destination row =
    same_guid row.source source && same_name row.destination destination

-- the index of the incoming row to which a message belongs
abbrev pub in_index : State → Message → Option ℕ
in_index s m = position (is_row_of m.id.qm m.destination) s.ins

-- and the row
abbrev pub in_row : State → Message → Option InRow
in_row s m = option_and_then (slice_get s.ins) (in_index s m)
