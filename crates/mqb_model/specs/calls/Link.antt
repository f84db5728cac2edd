-- The calls link, unlink and resend: how a connection begins and ends, and how it starts sending
-- anew. None writes a record.
use Rattle.std.specs.Option.{option_map_or}
use Rattle.std.specs.Prelude.{◌==◌, None, Ok, Option, Result, Some, if◌then◌else◌, is_none, is_some}
use Rattle.std.specs.Prelude.{map, option_map, slice_get, zip, ℕ}
use Rattle.mqb_orders.specs.Rows.{Row}
use Rattle.mqb_session.specs.State.{new_acceptor, new_initiator}
use Rattle.mqb_session.specs.State as one_end
use Rattle.mqb_model.specs.declared.answers.Role.{Role}
use Rattle.mqb_model.specs.declared.answers.Role.TheVariants as role
use Rattle.mqb_model.specs.declared.faults.LinkFault.{LinkFault}
use Rattle.mqb_model.specs.declared.faults.LinkFault.TheVariants as fault
use Rattle.mqb_model.specs.managers.Beside as beside
use Rattle.mqb_model.specs.managers.Manager.{Manager, Rest, is_down, linked_peer, no_rest}
use Rattle.mqb_model.specs.managers.Outcomes.{Outcome, resting, unless}
use Rattle.mqb_model.specs.state.State.{State}

-- the end of a session that begins, where its peer is there
abbrev pub session_for : State → Role → ℕ → Option one_end.State
session_for s (role.Initiator k) window =
    option_map (λ peer. new_initiator s.identity.guid peer.guid window) (slice_get s.peers k)
session_for s role.Acceptor window = Some (new_acceptor s.identity.guid window)

-- the first of these that holds
abbrev pub link_refusal : Manager → Role → ℕ → Option LinkFault
link_refusal m end window = if is_down m then Some fault.Down
    else if is_some m.rest.session then Some fault.Linked
    else if is_none (session_for m.state end window) then Some fault.NoPeer
    else None

-- a session begins
abbrev pub linking : Manager → Role → ℕ → Outcome (Result (Unit {0}) LinkFault)
linking m end window =
    resting m (record m.rest { session = session_for m.state end window }) (Ok tt)

-- unless it is refused
abbrev pub link : Manager → Role → ℕ → Outcome (Result (Unit {0}) LinkFault)
link m end window = unless m (link_refusal m end window) (linking m end window)

-- whatever belonged to the connection is forgotten
abbrev pub unlink : Manager → Outcome (Unit {0})
unlink m = record (resting m no_rest tt) { beside = beside.Unmarks }

-- a row to the peer begins anew
abbrev pub begun_anew : ℕ → Row × ℕ → ℕ
begun_anew peer given = if given.0.peer == peer then 0 else given.1

-- the rest once all rows to a peer begin anew
abbrev pub rewound : State → ℕ → Rest → Rest
rewound s peer rest = record rest { cursors = map (begun_anew peer) (zip s.outs rest.cursors) }

-- the rows to the linked peer are sent again from what is not acknowledged on
abbrev pub resend : Manager → Outcome (Unit {0})
resend m =
    resting m (option_map_or (λ session. rewound m.state (linked_peer m.state session) m.rest)
    m.rest.session m.rest) tt
