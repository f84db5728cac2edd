-- What is noted of the ops that were tried, in the place of a changed state.
use Rattle.std.specs.Prelude.{[], ◌≡◌, List, ℕ}
use Rattle.mqb_base.specs.Messages.{IsWellFormed}
use Rattle.mqb_base.specs.declared.message.Delivery.TheVariants as delivery
use Rattle.mqb_base.specs.declared.message.Message.{Message}
use Rattle.mqb_entries.specs.Packets.{packet_of}
use Rattle.mqb_model.specs.declared.answers.Done.{Done}
use Rattle.mqb_model.specs.records.Record.{RecordOp}
use Rattle.mqb_model.specs.records.Record as entry
use Rattle.mqb_model.specs.state.State.{State}
use Rattle.mqb_trying.specs.declared.notes.PlannedOp.{PlannedOp}
use Rattle.mqb_trying.specs.declared.notes.PlannedOp.TheVariants.{Send, Take}
use Rattle.mqb_trying.specs.declared.notes.SequenceEnd.{SequenceEnd}
use Rattle.mqb_trying.specs.declared.notes.Take as take

-- what was taken, for each message that was put here the number of its queue, how far sequences
-- came, the next numbers, and what the record and the answer have of the ops
pub record Noted : Type 0 where
  pub takes : List take.Take
  pub puts : List ℕ
  pub ends : List SequenceEnd
  pub next_number : ℕ
  pub next_ordinal : ℕ
  pub ops : List PlannedOp
  pub done : List Done

-- nothing was tried yet
abbrev pub nothing_noted : State → Noted
nothing_noted s = record {
  takes = [];
  puts = [];
  ends = [];
  next_number = s.next_number;
  next_ordinal = s.next_ordinal;
  ops = [];
  done = [];
}

-- an op as the record has it
abbrev pub record_op : PlannedOp → RecordOp
record_op (Send m to) = entry.Send (packet_of m to)
record_op (Take queue id) = entry.Take queue id

-- a message that is sent is well formed, and is told of as a recoverable one
abbrev pub IsWritable : PlannedOp → Type 0
IsWritable (Send m to) = IsWellFormed m × (m.delivery ≡ delivery.Recoverable)
IsWritable (Take queue id) = Unit {0}
