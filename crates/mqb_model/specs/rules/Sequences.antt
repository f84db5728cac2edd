-- How messages join their sequences.
use Rattle.std.specs.Option.{option_map_or}
use Rattle.std.specs.Prelude.{[], ◌++◌, ◌+◌, ◌||◌, ◌∷◌, Bool, None, Option, Some, if◌then◌else◌}
use Rattle.std.specs.Prelude.{is_some, nat_le, nat_lt, option_and_then, unwrap_or, ℕ}
use Rattle.mqb_base.specs.declared.message.Message.{Message}
use Rattle.mqb_base.specs.declared.queue_names.QueueName.{QueueName}
use Rattle.mqb_orders.specs.Rows.{Row}
use Rattle.mqb_model.specs.declared.limits.TheConstants.{MAX_ORDINAL}
use Rattle.mqb_model.specs.state.Rows.{last_sequence, with_row}
use Rattle.mqb_model.specs.state.State.{State}

-- the sequence to a destination that takes another message: the last one, unless it is full
abbrev pub sequence_in_use : State → ℕ → QueueName → Option Row
sequence_in_use s peer destination =
    option_and_then (λ row. if nat_lt row.committed s.roll then Some row else None)
    (last_sequence s peer destination)

-- a sequence that begins
abbrev pub new_sequence : State → ℕ → QueueName → ℕ → Row
new_sequence s peer destination now = record {
  peer = peer;
  destination = destination;
  sequence = record { ordinal = s.next_ordinal; stamp = now };
  committed = 0;
  offered = 0;
  acked = 0;
  kept = [];
}

-- the sequence that the next message to a destination joins
abbrev pub sequence_for : State → ℕ → QueueName → ℕ → Row
sequence_for s peer destination now =
    unwrap_or (sequence_in_use s peer destination) (new_sequence s peer destination now)

-- a row with one message more
abbrev pub with_kept : Message → Row → Row
with_kept m row = record row {
  committed = row.committed + 1;
  kept = row.kept ++ record { number = row.committed + 1; message = m } ∷ [];
}

-- a new sequence takes an ordinal
abbrev pub with_sequence : State → Row → State
with_sequence s row = record s { outs = s.outs ++ row ∷ []; next_ordinal = s.next_ordinal + 1 }

-- a message joins the sequence in use, or begins a new one
abbrev pub join : State → ℕ → ℕ → Message → State
join s peer now m = option_map_or (λ row. with_row (with_kept m) s row.sequence.ordinal)
    (sequence_in_use s peer m.destination)
    (with_sequence s (with_kept m (new_sequence s peer m.destination now)))

-- a sequence is in use, or an ordinal is left for a new one
abbrev pub may_join : State → ℕ → QueueName → Bool
may_join s peer destination =
    is_some (sequence_in_use s peer destination) || nat_le s.next_ordinal MAX_ORDINAL
