-- What a session makes of a packet: a closed one answers its cause (rule 1), set-up packets go by
-- the phase table (2), others close it before it is ready (3), and so do packets from or for
-- another manager (4) and headers that acknowledge more than was sent (5).
use Rattle.std.specs.Option.{option_map_or}
use Rattle.std.specs.Prelude.{[], ◌&&◌, ◌==◌, Bool, List, None, Ok, Option, Result, Some, false}
use Rattle.std.specs.Prelude.{filter, if◌then◌else◌, length, map, not, slice_get, unwrap_or, ℕ}
use Rattle.mqb_base.specs.Same.{same_guid}
use Rattle.mqb_base.specs.declared.heads.SessionHead.{SessionHead}
use Rattle.mqb_base.specs.declared.heard.Cause.TheVariants as cause
use Rattle.mqb_base.specs.declared.heard.Heard.{Heard}
use Rattle.mqb_base.specs.declared.heard.Heard.TheVariants as heard
use Rattle.mqb_base.specs.declared.message.Message.{Message}
use Rattle.mqb_packet.specs.declared.packet.UserPacket.{UserPacket}
use Rattle.mqb_plain.specs.Lists.{is_sent_by}
use Rattle.mqb_plain.specs.Plain.{PlainLists}
use Rattle.mqb_session.specs.Hearing.{closing, heard_head}
use Rattle.mqb_session.specs.Sending.{is_ready}
use Rattle.mqb_session.specs.State as one_end
use Rattle.mqb_session.specs.declared.heads.HeadHeard.{HeadHeard}
use Rattle.mqb_session.specs.declared.phase.Phase.{Phase}
use Rattle.mqb_session.specs.declared.phase.Phase.TheVariants as phase
use Rattle.mqb_model.specs.declared.faults.HearFault.{HearFault}
use Rattle.mqb_model.specs.managers.Beside as beside
use Rattle.mqb_model.specs.managers.Manager.{Manager, Rest, linked_peer}
use Rattle.mqb_model.specs.managers.Outcomes.{Outcome, resting, writing}
use Rattle.mqb_model.specs.records.Record.{Nothing, Part, Record}
use Rattle.mqb_model.specs.records.Record as entry
use Rattle.mqb_model.specs.state.State.{State}

-- what hearing a packet comes to
abbrev pub HeardOutcome : Type 0
HeardOutcome = Outcome (Result Heard HearFault)

-- the session is this one now
abbrev pub with_session : Rest → one_end.State → Rest
with_session rest session = record rest { session = Some session }

-- a packet changes the session alone
abbrev pub by_session : Manager → one_end.State → Heard → HeardOutcome
by_session m session answer = resting m (with_session m.rest session) (Ok answer)

-- a set-up packet is heard as one, unless it closed the session
abbrev pub set_up_answer : Phase → Heard
set_up_answer (phase.Closed why) = heard.Closed why
set_up_answer _ = heard.SetUp

-- a set-up packet left this session
abbrev pub hear_set_up : Manager → one_end.State → HeardOutcome
hear_set_up m session = by_session m session (set_up_answer session.phase)

-- a user packet is from the session's peer
abbrev pub is_from : one_end.State → Message → Bool
is_from session m = option_map_or (same_guid m.id.qm) session.peer false

-- it is not, or it is not for this manager
abbrev pub is_foreign : State → one_end.State → UserPacket → Bool
is_foreign s session p = not (is_from session p.message && same_guid p.to s.identity.guid)

-- a packet without a session header acknowledges nothing, and is never in order
abbrev pub no_head : SessionHead
no_head = record { ack = 0; stored = 0; stored_flags = 0; user = 0; recoverable = 0; window = 0 }

-- what a session makes of a user packet
abbrev pub user_heard : State → one_end.State → UserPacket → HeadHeard × one_end.State
user_heard s session p = if is_ready session.phase && is_foreign s session p
    then closing cause.Foreign session
    else heard_head (unwrap_or p.session no_head) session

-- a session acknowledgement repeats a user number, which is not its own
abbrev pub ack_heard : SessionHead → one_end.State → HeadHeard × one_end.State
ack_heard head session = heard_head (record head { user = 0 }) session

-- A manager that hears a packet at this moment, and the session behind its header.
pub record Listening : Type 0 where
  pub manager : Manager
  pub session : one_end.State
  pub now : ℕ

-- the index of the peer that is heard
abbrev pub peer_heard : Listening → ℕ
peer_heard l = linked_peer l.manager.state l.session

-- the recoverable messages up to the acknowledged number
abbrev pub released_of : ℕ → PlainLists → List ℕ
released_of number p = map (λ o. o.message.id.number) (filter (is_sent_by number) p.recoverable)

-- the numbers that a header releases
abbrev pub numbers_released : Listening → List ℕ
numbers_released l = option_map_or (released_of l.session.recoverable_acked)
    (slice_get l.manager.state.plain (peer_heard l)) []

-- What is released stands in the one record of what arrived. Where nothing is released and nothing
-- arrived, there is no record.
abbrev pub arrival_entry : Listening → Part → Option Record
arrival_entry l Nothing = if length (numbers_released l) == 0 then None
    else Some (entry.Arrived l.now (numbers_released l) Nothing)
arrival_entry l part = Some (entry.Arrived l.now (numbers_released l) part)

-- the express messages that a header acknowledges leave
abbrev pub express_dropped : Listening → beside.Beside
express_dropped l = beside.DropsExpress (peer_heard l) l.session.acked

-- a packet is heard as this
abbrev pub heard_as : Listening → Part → Heard → HeardOutcome
heard_as l part answer = writing (arrival_entry l part)
    (record (by_session l.manager l.session answer) { beside = express_dropped l })

-- a packet is discarded, and its header counts all the same
abbrev pub discarded : Listening → HeardOutcome
discarded l = heard_as l Nothing heard.Discarded
