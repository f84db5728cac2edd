-- A trial as contracts see it: the ops of its record as an entry shows them, and
-- what becomes of each.
use Rattle.std.specs.Prelude.{List, map}
use Rattle.mqb_entries.specs.Packets.{CanTell}
use Rattle.mqb_entries.specs.declared.members.OpView.{OpView}
use Rattle.mqb_entries.specs.declared.members.OpView.TheVariants as view
use Rattle.mqb_model.specs.calls.Commit.{Trial}
use Rattle.mqb_model.specs.declared.answers.Done.{Done}
use Rattle.mqb_model.specs.records.Record.{RecordOp}
use Rattle.mqb_model.specs.records.Record as entry
use Rattle.mqb_packet.specs.Plain.{plain_spelling}
use Rattle.mqb_packet.specs.declared.packet.Packet.TheVariants as packet
use Rattle.mqb_trying.specs.declared.notes.PlannedOp.{PlannedOp}
use Rattle.mqb_trying.specs.declared.notes.PlannedOp.TheVariants.{Send, Take}
use Rattle.mqb_trying.specs.Notes.{record_op}

pub record Planned : Type 0 where
  pub ops : List OpView
  pub done : List Done

-- an op of a record as its entry shows it: a packet is spelled plainly
abbrev pub op_view : RecordOp → OpView
op_view (entry.Send p) = view.Send (plain_spelling (packet.User p))
op_view (entry.Take queue id) = view.Take queue id

-- what a trial plans
abbrev pub planned : Trial → Planned
planned t = record { ops = map op_view t.ops; done = t.done }

-- ops as an entry shows them
abbrev pub shown_ops : List PlannedOp → List OpView
shown_ops ops = map op_view (map record_op ops)

-- a record can tell of a message that is sent
abbrev pub CanTellOp : PlannedOp → Type 0
CanTellOp (Send m to) = CanTell m
CanTellOp (Take queue id) = Unit {0}
