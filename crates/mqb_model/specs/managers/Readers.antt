-- What a manager tells of itself.
use Rattle.std.specs.List.{list_any}
use Rattle.std.specs.Option.{option_map_or}
use Rattle.std.specs.Prelude.{◌&&◌, ◌==◌, ◌||◌, Bool, Option, false, not, option_map, slice_get, ℕ}
use Rattle.mqb_orders.specs.Rows.{Row, has_unacknowledged}
use Rattle.mqb_plain.specs.Plain.{PlainLists, count}
use Rattle.mqb_session.specs.declared.phase.Phase.{Phase}
use Rattle.mqb_model.specs.managers.Manager.{Manager, linked_peer}
use Rattle.mqb_model.specs.state.State.{State}

-- the phase of its session, while it is linked
abbrev pub phase_of : Manager → Option Phase
phase_of m = option_map (λ session. session.phase) m.rest.session

-- plain messages wait for a peer
abbrev pub has_plain : PlainLists → Bool
has_plain p = not (count p == 0)

-- a row leads to the peer at an index, and has a number that was not acknowledged
abbrev pub awaits : ℕ → Row → Bool
awaits peer row = row.peer == peer && has_unacknowledged row

-- something for the peer at an index is not acknowledged yet
abbrev pub is_outstanding_to : State → ℕ → Bool
is_outstanding_to s k =
    option_map_or has_plain (slice_get s.plain k) false || list_any (awaits k) s.outs

-- something for the linked peer is
abbrev pub is_outstanding : Manager → Bool
is_outstanding m =
    option_map_or (λ session. is_outstanding_to m.state (linked_peer m.state session))
    m.rest.session false
