-- The record that bytes are.
use Rattle.std.specs.Prelude.{[], ◌∷◌, List, None, Option, Some, map, option_and_then}
use Rattle.std.specs.Prelude.{option_map, ℕ}
use Rattle.std.specs.Result.{result_ok}
use Rattle.mqb_base.specs.declared.ids.Identity.{Identity}
use Rattle.mqb_base.specs.declared.queues.QueuePlan.{QueuePlan}
use Rattle.mqb_entries.specs.Entries.{entry_of}
use Rattle.mqb_entries.specs.declared.entry.ArrivedPart.{ArrivedPart}
use Rattle.mqb_entries.specs.declared.entry.ArrivedPart.TheVariants as part
use Rattle.mqb_entries.specs.declared.entry.Entry.{Entry}
use Rattle.mqb_entries.specs.declared.entry.Entry.TheVariants as form
use Rattle.mqb_entries.specs.declared.entry.IdentityView.{IdentityView}
use Rattle.mqb_entries.specs.declared.entry.QueueView.{QueueView}
use Rattle.mqb_entries.specs.declared.members.OpView.{OpView}
use Rattle.mqb_entries.specs.declared.members.OpView.TheVariants as op
use Rattle.mqb_packet.specs.Parts.{packet_of}
use Rattle.mqb_packet.specs.Spelled.{packet_in}
use Rattle.mqb_packet.specs.declared.packet.Packet.{Packet}
use Rattle.mqb_packet.specs.declared.packet.Packet.TheVariants as packet
use Rattle.mqb_packet.specs.declared.packet.UserPacket.{UserPacket}
use Rattle.mqb_model.specs.records.Record.{Part, Record, RecordOp}
use Rattle.mqb_model.specs.records.Record as entry

-- a user packet
abbrev pub as_user : Packet → Option UserPacket
as_user (packet.User p) = Some p
as_user _ = None

-- the user packet that bytes spell, in whatever spelling
abbrev pub user_packet_of : List ℕ → Option UserPacket
user_packet_of bytes =
    option_and_then as_user (option_and_then packet_in (result_ok (packet_of bytes)))

-- the identity that an entry shows
abbrev pub identity_of : IdentityView → Identity
identity_of v = record { host = v.host; guid = v.guid; address = v.address }

-- the plan that an entry shows
abbrev pub plan_of : QueueView → QueuePlan
plan_of v = record {
  name = v.name;
  public = v.public;
  transactional = v.transactional;
  quota = v.quota;
  journal = v.journal;
}

-- the op that an entry shows
abbrev pub op_of : OpView → Option RecordOp
op_of (op.Send bytes) = option_map (λ p. entry.Send p) (user_packet_of bytes)
op_of (op.Take queue id) = Some (entry.Take queue id)

-- all of them, where each is there
abbrev pub all_some : {X : Type 0} → List (Option X) → Option (List X)
all_some [] = Some []
all_some (x ∷ xs) = option_and_then (λ x. option_map (λ xs. x ∷ xs) (all_some xs)) x

-- the part that an entry shows
abbrev pub part_of : ArrivedPart → Option Part
part_of part.Nothing = Some entry.Nothing
part_of (part.Decided bytes) = option_map (λ p. entry.Decided p) (user_packet_of bytes)
part_of (part.Stored bytes) = option_map (λ p. entry.Stored p) (user_packet_of bytes)
part_of (part.OrderAcknowledged ordinal number) = Some (entry.OrderAcknowledged ordinal number)
part_of (part.Final bytes) = option_map (λ p. entry.Final p) (user_packet_of bytes)

-- the record of an entry whose packets spell user packets
abbrev pub record_in : Entry → Option Record
record_in (form.Identity v) = Some (entry.Identity (identity_of v))
record_in (form.Peer v) = Some (entry.Peer (identity_of v))
record_in (form.CreateQueue v) = Some (entry.CreateQueue v.number (plan_of v))
record_in (form.Commit now ops) =
    option_map (λ ops. entry.Commit now ops) (all_some (map op_of ops))
record_in (form.Plain now bytes) = option_map (λ p. entry.Plain now p) (user_packet_of bytes)
record_in (form.Offered marks) = Some (entry.Offered marks)
record_in (form.Arrived now released part) =
    option_map (λ part. entry.Arrived now released part) (part_of part)
record_in (form.Taken now at id) = Some (entry.Taken now at id)
record_in (form.Purged now at) = Some (entry.Purged now at)
record_in (form.Ticked now) = Some (entry.Ticked now)
record_in (form.Roll count) = Some (entry.Set (entry.Roll count))

-- the record that bytes are, all of them
abbrev pub record_of : List ℕ → Option Record
record_of bytes = option_and_then record_in (result_ok (entry_of bytes))
