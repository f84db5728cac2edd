-- The call pump: which packets go, and what is then known of them.
use Rattle.std.specs.List.{enumerate_from}
use Rattle.std.specs.Option.{option_map_or}
use Rattle.std.specs.Prelude.{[], ◌&&◌, ◌==◌, ◌∷◌, Err, List, None, Ok, Option, Result, Some, false}
use Rattle.std.specs.Prelude.{filter_map, fold, if◌then◌else◌, length, map, max, nat_lt, not}
use Rattle.std.specs.Prelude.{slice_get, slice_set, ℕ}
use Rattle.mqb_base.specs.Times.{remaining}
use Rattle.mqb_base.specs.declared.heads.SessionHead.{SessionHead}
use Rattle.mqb_base.specs.declared.ids.Guid.{Guid}
use Rattle.mqb_base.specs.declared.ids.Identity.{Identity}
use Rattle.mqb_entries.specs.declared.members.Mark.{Mark}
use Rattle.mqb_orders.specs.Rows.{Row}
use Rattle.mqb_packet.specs.Plain.{carried_user}
use Rattle.mqb_packet.specs.declared.packet.Carriage.{Carriage}
use Rattle.mqb_packet.specs.declared.packet.Packet.{Packet}
use Rattle.mqb_packet.specs.declared.packet.Packet.TheVariants as packet
use Rattle.mqb_plain.specs.Plain.{PlainLists}
use Rattle.mqb_session.specs.Hearing.{after_owed}
use Rattle.mqb_session.specs.Phases.{owed_by}
use Rattle.mqb_session.specs.Sending.{is_ready, is_spent, stamped}
use Rattle.mqb_session.specs.State as one_end
use Rattle.mqb_session.specs.declared.heads.Kind.TheVariants as kind
use Rattle.mqb_packet.specs.mqb_setup.declared.internal.Internal.{Internal}
use Rattle.mqb_packet.specs.mqb_setup.declared.internal.Internal.TheVariants as internal
use Rattle.mqb_model.specs.calls.hear.Session.{with_session}
use Rattle.mqb_model.specs.calls.pump.Candidates.{Candidate, candidates}
use Rattle.mqb_model.specs.calls.pump.Choosing.{chosen, session_behind, with_heads}
use Rattle.mqb_model.specs.declared.faults.PumpFault.{PumpFault}
use Rattle.mqb_model.specs.declared.faults.PumpFault.TheVariants as fault
use Rattle.mqb_model.specs.managers.Beside.{OfRow, Origin, Owed}
use Rattle.mqb_model.specs.managers.Beside as beside
use Rattle.mqb_model.specs.managers.Manager.{Manager, Rest, is_down, linked_peer}
use Rattle.mqb_model.specs.managers.Outcomes.{Outcome, answering, resting, unless, writing}
use Rattle.mqb_model.specs.records.Record as entry
use Rattle.mqb_model.specs.state.State.{State}

-- what a pump comes to
abbrev pub PumpOutcome : Type 0
PumpOutcome = Outcome (Result ℕ PumpFault)

-- what a message has beside it in its packet: the time that is left for it, and its headers
abbrev pub carriage_for : Guid → ℕ → Candidate × SessionHead → Carriage
carriage_for to now given = record {
  to = to;
  remaining = remaining given.0.message.sent given.0.message.reach now;
  tx = given.0.tx;
  session = Some given.1;
}

-- the packet of a candidate
abbrev pub packet_for : Guid → ℕ → Candidate × SessionHead → Packet
packet_for to now given = packet.User (carried_user given.0.message (carriage_for to now given))

-- What is known of them.

-- where a packet came from, and its header
abbrev pub origin_of : Candidate × SessionHead → Origin × SessionHead
origin_of given = (given.0.origin, given.1)

-- an acknowledgement is owed no more, and a row was sent up to a number
abbrev pub settled_as : Rest → Origin → Rest
settled_as rest (Owed row) = record rest { owes = slice_set rest.owes row false }
settled_as rest (OfRow row number) = record rest { cursors = slice_set rest.cursors row number }
settled_as rest _ = rest

-- what belongs to the connection once they all went
abbrev pub settled : Rest → List Candidate → Rest
settled rest cs = fold (λ rest c. settled_as rest c.origin) rest cs

-- the number of a row that a packet carries
abbrev pub number_of_row : ℕ → Origin → Option ℕ
number_of_row index (OfRow row number) = if row == index then Some number else None
number_of_row index _ = None

-- the greatest number of a row that goes, or 0
abbrev pub greatest_sent : List Candidate → ℕ → ℕ
greatest_sent cs index = fold max 0 (filter_map (λ c. number_of_row index c.origin) cs)

-- the mark of a row, where it rises
abbrev pub mark_for : List Candidate → ℕ × Row → Option Mark
mark_for cs given = if nat_lt given.1.offered (greatest_sent cs given.0)
    then Some (record { ordinal = given.1.sequence.ordinal; number = greatest_sent cs given.0 })
    else None

-- the marks of all rows, in row order
abbrev pub marks_for : State → List Candidate → List Mark
marks_for s cs = filter_map (mark_for cs) (enumerate_from 0 s.outs)

-- where no mark rises there is no record
abbrev pub offered_entry : State → List Candidate → Option entry.Record
offered_entry s cs =
    if length (marks_for s cs) == 0 then None else Some (entry.Offered (marks_for s cs))

-- The whole call.

-- these packets go to the peer at an index
abbrev pub sending_all : Manager → ℕ → one_end.State → ℕ → Guid → List Candidate → PumpOutcome
sending_all m now session k to cs = writing (offered_entry m.state cs)
    (record (resting m (with_session (settled m.rest cs) (session_behind session cs))
    (Ok (length cs))) {
      beside = beside.NotesSent k (map origin_of (with_heads session cs));
      packets = map (packet_for to now) (with_heads session cs);
    })

-- one packet of the session itself goes
abbrev pub sending_one : Manager → Packet → one_end.State → PumpOutcome
sending_one m p session =
    record (resting m (with_session m.rest session) (Ok 1)) { packets = p ∷ [] }

-- where nothing is chosen, a session acknowledgement goes that is owed
abbrev pub sending_ack : Manager → one_end.State → PumpOutcome
sending_ack m session = if session.owes
    then sending_one m (packet.Ack (stamped kind.Ack session).0) (stamped kind.Ack session).1
    else answering m (Ok 0)

-- what was chosen goes
abbrev pub sending_chosen : Manager → ℕ → one_end.State → ℕ → Guid → List Candidate → PumpOutcome
sending_chosen m now session k to [] = sending_ack m session
sending_chosen m now session k to (c ∷ cs) = sending_all m now session k to (c ∷ cs)

-- a session that has used all its numbers sends nothing where something waits
abbrev pub pump_with : Manager → ℕ → one_end.State → ℕ → Guid → List Candidate → PumpOutcome
pump_with m now session k to cs = if is_spent session && not (length cs == 0)
    then answering m (Err fault.Spent)
    else sending_chosen m now session k to (chosen session 0 0 cs)

-- the candidates for a peer are found
abbrev pub pump_to : Manager → ℕ → one_end.State → ℕ → Identity → PlainLists → PumpOutcome
pump_to m now session k peer p =
    pump_with m now session k peer.guid (candidates m.state m.rest now k peer p)

-- a session sends to the peer at an index
abbrev pub pump_at : Manager → ℕ → one_end.State → ℕ → PumpOutcome
pump_at m now session k = option_map_or (λ peer. option_map_or (pump_to m now session k peer)
    (slice_get m.state.plain k) (answering m (Ok 0))) (slice_get m.state.peers k)
    (answering m (Ok 0))

-- a session that is ready sends to its peer, and another one nothing
abbrev pub pump_ready : Manager → ℕ → one_end.State → PumpOutcome
pump_ready m now session = if is_ready session.phase
    then pump_at m now session (linked_peer m.state session)
    else answering m (Ok 0)

-- the packet of a set-up part
abbrev pub set_up_packet : Internal → Packet
set_up_packet (internal.Establish e) = packet.Establish e
set_up_packet (internal.Parameters p) = packet.Parameters p
set_up_packet (internal.Ack h) = packet.Ack h

-- a set-up packet that is owed goes alone
abbrev pub pump_owed : Manager → ℕ → one_end.State → Option Internal → PumpOutcome
pump_owed m now session (Some owed) = sending_one m (set_up_packet owed) (after_owed now session)
pump_owed m now session None = pump_ready m now session

-- a linked manager sends what its phase owes, or what waits
abbrev pub pump_linked : Manager → ℕ → one_end.State → PumpOutcome
pump_linked m now session = pump_owed m now session (owed_by session.phase now session)

-- the first reason against it, the session left aside
abbrev pub pump_refusal : Manager → Option PumpFault
pump_refusal m = if is_down m then Some fault.Down else None

-- it answers how many packets go
abbrev pub pump : Manager → ℕ → PumpOutcome
pump m now = unless m (pump_refusal m)
    (option_map_or (pump_linked m now) m.rest.session (answering m (Err fault.NotLinked)))
