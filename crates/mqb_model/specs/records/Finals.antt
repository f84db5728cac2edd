-- Final acknowledgements, and what they do to the messages that they name.
use Rattle.std.specs.List.{list_any}
use Rattle.std.specs.Option.{option_map_or}
use Rattle.std.specs.Prelude.{◌&&◌, ◌==◌, Bool, Option, false, if◌then◌else◌, is_some, nat_le}
use Rattle.std.specs.Prelude.{option_and_then, position, slice_get, ℕ}
use Rattle.mqb_base.specs.Classes.{is_negative}
use Rattle.mqb_base.specs.Same.{same_id}
use Rattle.mqb_base.specs.declared.class.Class.{Class}
use Rattle.mqb_base.specs.declared.ids.MessageId.{MessageId}
use Rattle.mqb_base.specs.declared.ledger.Line.TheVariants as line
use Rattle.mqb_base.specs.declared.message.Message.{Message}
use Rattle.mqb_base.specs.declared.queues.EntryPlace.TheVariants as place
use Rattle.mqb_fate.specs.Orders.{is_final_class}
use Rattle.mqb_orders.specs.Rows.{Row, acknowledged}
use Rattle.mqb_orders.specs.declared.kept.Kept.{Kept}
use Rattle.mqb_model.specs.Lists.{first_where, with_changed, without_first}
use Rattle.mqb_model.specs.records.Packets.{is_recoverable}
use Rattle.mqb_model.specs.rules.Effects.{Effect, with_line}
use Rattle.mqb_model.specs.state.Places.{put_at}
use Rattle.mqb_model.specs.state.Resolving.{is_for_order_layer, peer_known}
use Rattle.mqb_model.specs.state.State.{State}

-- a recoverable message for the order layer here, of a final class
abbrev pub is_final : State → Message → Bool
is_final s m =
    is_recoverable m.delivery && is_final_class m.class && is_for_order_layer s m.destination

-- it names a message of a row
abbrev pub names_kept : MessageId → Kept → Bool
names_kept id k = same_id k.message.id id

-- the row to a peer that has the message
abbrev pub has_named : ℕ → MessageId → Row → Bool
has_named peer id row = row.peer == peer && list_any (names_kept id) row.kept

-- the message was offered
abbrev pub is_offered_as : MessageId → Row → Kept → Bool
is_offered_as id row k = names_kept id k && nat_le k.number row.offered

-- the message of a row that is named, where it was offered
abbrev pub kept_named : MessageId → Row → Option Kept
kept_named id row = first_where (is_offered_as id row) row.kept

-- it leaves the row, which is acknowledged up to it
abbrev pub finished_row : MessageId → ℕ → Row → Row
finished_row id number row =
    acknowledged number (record row { kept = without_first (is_offered_as id row) row.kept })

-- with a negative class it goes to the transactional dead-letter queue
abbrev pub dead_for : Class → State → Message → State
dead_for class s m = if is_negative class.0 then put_at s place.DeadXact m else s

-- the row at an index is finished with a message
abbrev pub with_finished : MessageId → State → ℕ → Kept → State
with_finished id s index k =
    record s { outs = with_changed (finished_row id k.number) s.outs index }

-- a message of the row at an index is finished, where it was offered
abbrev pub finished_at : State → Message → ℕ → State
finished_at s m index =
    option_map_or (λ k. dead_for m.class (with_finished m.correlation s index k) k.message)
    (option_and_then (kept_named m.correlation) (slice_get s.outs index)) s

-- the index of the row to a peer that has the message which an acknowledgement names
abbrev pub index_finished : State → ℕ → Message → Option ℕ
index_finished s peer m = position (has_named peer m.correlation) s.outs

-- the message that it names is finished, where it was offered
abbrev pub finished_by : State → ℕ → Message → State
finished_by s peer m = option_map_or (finished_at s m) (index_finished s peer m) s

-- An acknowledgement is stored. Where it names an offered message of a row to its source,
-- that one is done with.
abbrev pub final_stored : State → Message → Effect
final_stored s m = with_line (line.Stored m.id)
    (option_map_or (λ peer. finished_by s peer m) (peer_known s m.id.qm) s)

-- it names such a message
abbrev pub names_offered : State → Message → Bool
names_offered s m = option_map_or (λ peer. option_map_or (λ index.
    is_some (option_and_then (kept_named m.correlation) (slice_get s.outs index)))
    (index_finished s peer m) false)
    (peer_known s m.id.qm) false
