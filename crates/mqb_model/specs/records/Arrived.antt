-- The record Arrived: what it does, and when it fits.
use Rattle.std.specs.Option.{option_map_or}
use Rattle.std.specs.Prelude.{◌&&◌, Bool, List, false, is_some, nat_le, nat_lt, not, true, ℕ}
use Rattle.mqb_base.specs.declared.message.Message.{Message}
use Rattle.mqb_orders.specs.Rows.{Row, acknowledged}
use Rattle.mqb_model.specs.records.Decisions.{decided_fits, message_decided, message_stored}
use Rattle.mqb_model.specs.records.Finals.{final_stored, is_final}
use Rattle.mqb_model.specs.records.Packets.{is_recoverable}
use Rattle.mqb_model.specs.records.Record.{Decided, Final, Nothing, OrderAcknowledged, Part, Stored}
use Rattle.mqb_model.specs.records.Releases.{releases_fit, releases_made}
use Rattle.mqb_model.specs.rules.Effects.{Effect, begun, joined, without_line}
use Rattle.mqb_model.specs.state.Resolving.{peer_known}
use Rattle.mqb_model.specs.state.Rows.{row_of_ordinal, with_row}
use Rattle.mqb_model.specs.state.State.{State}

-- what follows a part
abbrev pub part_made : ℕ → Effect → Part → Effect
part_made now e Nothing = e
part_made now e (Decided p) =
    option_map_or (λ tx. joined e (message_decided now e.state p tx)) p.tx e
part_made now e (Stored p) = joined e (message_stored now e.state p)
part_made now e (OrderAcknowledged ordinal number) =
    without_line e (with_row (acknowledged number) e.state ordinal)
part_made now e (Final p) = joined e (final_stored e.state p.message)

-- The released messages leave, and then what arrived is dealt with.
abbrev pub arrived_effect : State → ℕ → List ℕ → Part → Effect
arrived_effect s now numbers part = part_made now (releases_made s numbers) part

-- an order acknowledgement raises a row's mark: its number is above the
-- acknowledged one and was offered
abbrev pub raises_ack : ℕ → Row → Bool
raises_ack number row = nat_lt row.acked number && nat_le number row.offered

-- a message comes from a peer
abbrev pub is_from_peer : State → Message → Bool
is_from_peer s m = is_some (peer_known s m.id.qm)

-- a part's packet is of its kind, and its acknowledgement raises a mark
abbrev pub part_fits : State → Part → Bool
part_fits s Nothing = true
part_fits s (Decided p) = is_from_peer s p.message && decided_fits s p
part_fits s (Stored p) =
    is_from_peer s p.message && is_recoverable p.message.delivery && not (is_final s p.message)
part_fits s (OrderAcknowledged ordinal number) =
    option_map_or (raises_ack number) (row_of_ordinal s ordinal) false
part_fits s (Final p) = is_from_peer s p.message && is_final s p.message

-- the released messages are there, and what arrived fits once they left
abbrev pub arrived_fits : State → List ℕ → Part → Bool
arrived_fits s numbers part =
    releases_fit (begun s) numbers && part_fits (releases_made s numbers).state part
