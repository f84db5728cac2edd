-- How many messages a record names, and how many bytes it has.
use Rattle.std.specs.Prelude.{◌+◌, ◌≤◌, IsTrue, List, if◌then◌else◌, length, sum_by, ℕ}
use Rattle.mqb_base.specs.declared.message.Lane.TheVariants as lane
use Rattle.mqb_packet.specs.Plain.{message_size}
use Rattle.mqb_packet.specs.declared.packet.Headers.TheVariants as headers
use Rattle.mqb_model.specs.declared.limits.TheConstants.{MAX_OPS, MAX_PACKETS}
use Rattle.mqb_model.specs.declared.limits.TheConstants.{MAX_RECORD, MAX_RELEASED}
use Rattle.mqb_model.specs.records.Applying.{is_setting}
use Rattle.mqb_model.specs.records.Finals.{names_offered}
use Rattle.mqb_model.specs.records.Record.{Part, Record, RecordOp}
use Rattle.mqb_model.specs.records.Record as entry
use Rattle.mqb_model.specs.records.Releases.{releases_made}
use Rattle.mqb_model.specs.rules.Purges.{count_at}
use Rattle.mqb_model.specs.rules.Timeouts.{durable_due}
use Rattle.mqb_model.specs.state.State.{State}

-- the packets and the messages of a part
abbrev pub named_in : State → Part → ℕ
named_in s entry.Nothing = 0
named_in s (entry.Decided p) = 1
named_in s (entry.Stored p) = 1
named_in s (entry.OrderAcknowledged ordinal number) = 0
named_in s (entry.Final p) = if names_offered s p.message then 2 else 1

-- How many messages a record names: its packets, the messages that it takes, releases, purges or
-- sweeps, those that expire or lapse in it, and the one that a final acknowledgement is about. What
-- a record makes is at most three times as many.
abbrev pub named_count : State → Record → ℕ
named_count s (entry.Commit now ops) = length ops
named_count s (entry.Plain now p) = 1
named_count s (entry.Arrived now numbers part) =
    length numbers + named_in (releases_made s numbers).state part
named_count s (entry.Taken now at id) = 1
named_count s (entry.Purged now at) = count_at lane.Durable s at
named_count s (entry.Ticked now) = durable_due s now
named_count s _ = 0

-- how many bytes an op has: a send its packet behind a length, a take a number and an identifier
abbrev pub op_size : RecordOp → ℕ
op_size (entry.Send p) = 5 + message_size headers.Bare p.message
op_size (entry.Take queue id) = 25

-- how many bytes the record of a transaction has
abbrev pub commit_size : List RecordOp → ℕ
commit_size ops = 6 + sum_by op_size ops

-- a record has a spelling: its counts are those that a record can have
abbrev pub IsSpellable : Record → Type 0
IsSpellable (entry.Commit now ops) =
    (1 ≤ length ops) × (length ops ≤ MAX_OPS) × (commit_size ops ≤ MAX_RECORD)
IsSpellable (entry.Offered marks) = (1 ≤ length marks) × (length marks ≤ MAX_PACKETS)
IsSpellable (entry.Arrived now numbers part) = length numbers ≤ MAX_RELEASED
IsSpellable (entry.Set setting) = IsTrue (is_setting setting)
IsSpellable _ = Unit {0}
