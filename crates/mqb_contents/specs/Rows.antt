-- Rows and peers that join a state, and what is written in a row.
use Rattle.std.specs.Option.{option_map_or}
use Rattle.std.specs.Prelude.{[], ◌≡◌, ◌≤◌, All, List, None, Option, Some, if◌then◌else◌, insert}
use Rattle.std.specs.Prelude.{length, nat_lt, slice_get, ℕ}
use Rattle.mqb_base.specs.declared.ids.Identity.{Identity}
use Rattle.mqb_base.specs.declared.ids.SequenceId.{SequenceId}
use Rattle.mqb_base.specs.declared.queue_names.QueueName.{QueueName}
use Rattle.mqb_orders.specs.KeptLists.{Rises}
use Rattle.mqb_orders.specs.Rows.{Row}
use Rattle.mqb_orders.specs.declared.kept.Kept.{Kept}
use Rattle.mqb_orders.specs.declared.rows.InRow.{InRow}
use Rattle.mqb_plain.specs.Plain.{PlainRooms}
use Rattle.mqb_tables.specs.mqb_model.Lists.{with_changed}
use Rattle.mqb_tables.specs.mqb_model.state.State.{State}
use Rattle.mqb_contents.specs.declared.marks.RowMarks.{RowMarks}

-- an outgoing row without messages, and how many it can keep without memory
pub record EmptyRow : Type 0 where
  pub peer : ℕ
  pub destination : QueueName
  pub sequence : SequenceId
  pub room : ℕ

-- a peer for which no plain message waits, and the rooms of its plain messages
pub record EmptyPeer : Type 0 where
  pub identity : Identity
  pub rooms : PlainRooms

-- an outgoing row in which nothing was committed
abbrev pub begun_row : ℕ → QueueName → SequenceId → Row
begun_row peer destination sequence = record {
  peer = peer;
  destination = destination;
  sequence = sequence;
  committed = 0;
  offered = 0;
  acked = 0;
  kept = [];
}

-- Nothing was committed in a row.
abbrev pub IsBegun : Row → Type 0
IsBegun row = row ≡ begun_row row.peer row.destination row.sequence

-- each kept message has a number that was committed
abbrev pub KeepsCommitted : Row → Type 0
KeepsCommitted row = All (λ k. k.number ≤ row.committed) row.kept

-- A row can keep a message before the one at an index, or at the end: the numbers rise, and
-- its own was committed.
abbrev pub CanKeep : ℕ → Kept → Row → Type 0
CanKeep k kept row =
    (k ≤ length row.kept) × Rises (insert row.kept k kept) × (kept.number ≤ row.committed)

-- how many messages the outgoing row at an index keeps
abbrev pub kept_count : List Row → ℕ → ℕ
kept_count rows k = option_map_or (λ r. length r.kept) (slice_get rows k) 0

-- the row, if it is not full: it has less than so many messages
abbrev pub unless_full : ℕ → Row → Option Row
unless_full roll row = if nat_lt row.committed roll then Some row else None

abbrev pub marks_of : Row → RowMarks
marks_of row = record { committed = row.committed; offered = row.offered; acked = row.acked }

-- a row has these marks
abbrev pub with_marks : RowMarks → Row → Row
with_marks marks row =
    record row { committed = marks.committed; offered = marks.offered; acked = marks.acked }

-- a row keeps these messages
abbrev pub keeping : List Kept → Row → Row
keeping kept row = record row { kept = kept }

-- the outgoing row at an index is changed, and all else stays
abbrev pub with_out : (Row → Row) → State → ℕ → State
with_out change s k = record s { outs = with_changed change s.outs k }

-- an incoming row has this sequence and this last number
abbrev pub deciding : SequenceId → ℕ → InRow → InRow
deciding sequence last row = record row { sequence = sequence; last = last }

-- the incoming row at an index is changed, and all else stays
abbrev pub with_in : (InRow → InRow) → State → ℕ → State
with_in change s k = record s { ins = with_changed change s.ins k }
