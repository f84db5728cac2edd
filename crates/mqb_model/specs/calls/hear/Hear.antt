-- The call hear: the first rule that fits decides.
use Rattle.std.specs.Option.{option_map_or}
use Rattle.std.specs.Prelude.{◌<◌, ◌^◌, ◌≤◌, Bool, Err, IfSome, None, Option, Some, false}
use Rattle.std.specs.Prelude.{if◌then◌else◌, is_some, true, ℕ}
use Rattle.mqb_base.specs.declared.heads.SessionHead.{SessionHead}
use Rattle.mqb_base.specs.declared.heard.Heard.TheVariants as heard
use Rattle.mqb_packet.specs.mqb_heads.declared.base.TheConstants.{MAX_PACKET}
use Rattle.mqb_packet.specs.Plain.{IsWellFormedPacket, packet_size}
use Rattle.mqb_packet.specs.declared.packet.Packet.{Packet}
use Rattle.mqb_packet.specs.declared.packet.Packet.TheVariants as packet
use Rattle.mqb_packet.specs.declared.packet.UserPacket.{UserPacket}
use Rattle.mqb_session.specs.Hearing.{on_establish, on_parameters}
use Rattle.mqb_session.specs.State as one_end
use Rattle.mqb_session.specs.declared.heads.HeadHeard.{HeadHeard}
use Rattle.mqb_session.specs.declared.heads.HeadHeard.TheVariants as head
use Rattle.mqb_model.specs.calls.hear.Plain.{hear_plain}
use Rattle.mqb_model.specs.calls.hear.Session.{HeardOutcome, Listening, ack_heard, by_session}
use Rattle.mqb_model.specs.calls.hear.Session.{hear_set_up, heard_as, user_heard}
use Rattle.mqb_model.specs.calls.hear.Streams.{hear_in_stream}
use Rattle.mqb_model.specs.declared.faults.HearFault.{HearFault}
use Rattle.mqb_model.specs.declared.faults.HearFault.TheVariants as fault
use Rattle.mqb_model.specs.managers.Manager.{Manager, is_down}
use Rattle.mqb_model.specs.managers.Outcomes.{answering, unless}
use Rattle.mqb_model.specs.records.Record.{Nothing}
use Rattle.mqb_model.specs.state.Resolving.{peer_known}
use Rattle.mqb_model.specs.state.Valid.{IsNamed}

-- the names of a user packet's message are names
abbrev pub BearsNames : Packet → Type 0
BearsNames (packet.User p) = IsNamed p.message
BearsNames _ = Unit {0}

-- the number of a session header fits its field
abbrev pub IsHead : SessionHead → Type 0
IsHead head = head.user < 2 ^ 16

-- so does that of a user packet's
abbrev pub BearsNumber : Packet → Type 0
BearsNumber (packet.User p) = IfSome p.session IsHead
BearsNumber _ = Unit {0}

-- A packet that can be heard, as each can that was read: it could be written, and is not longer
-- than a packet can be.
pub record IsReadable (p : Packet) : Type 0 where
  pub well_formed : IsWellFormedPacket p
  pub names : BearsNames p
  pub number : BearsNumber p
  pub size : packet_size p ≤ MAX_PACKET

-- what a user packet carries is heard
abbrev pub hear_user : Listening → Bool → UserPacket → HeardOutcome
hear_user l in_order p = option_map_or (hear_in_stream l p) p.tx (hear_plain l in_order p)

-- a manager begins to listen
abbrev pub listening : Manager → one_end.State → ℕ → Listening
listening m session now = record { manager = m; session = session; now = now }

-- a user packet whose header the session heard as this
abbrev pub hear_behind : Manager → ℕ → UserPacket → HeadHeard → one_end.State → HeardOutcome
hear_behind m now p (head.Closed why) session = by_session m session (heard.Closed why)
hear_behind m now p head.InOrder session = hear_user (listening m session now) true p
hear_behind m now p head.OutOfOrder session = hear_user (listening m session now) false p
hear_behind m now p head.AckOnly session = hear_user (listening m session now) false p

-- and a session acknowledgement
abbrev pub hear_acknowledgement : Manager → ℕ → HeadHeard → one_end.State → HeardOutcome
hear_acknowledgement m now (head.Closed why) session = by_session m session (heard.Closed why)
hear_acknowledgement m now _ session = heard_as (listening m session now) Nothing heard.Session

-- a linked manager hears a packet
abbrev pub hear_linked : Manager → ℕ → Packet → one_end.State → HeardOutcome
hear_linked m now (packet.Establish e) session =
    hear_set_up m (on_establish e (is_some (peer_known m.state e.client)) session)
hear_linked m now (packet.Parameters p) session = hear_set_up m (on_parameters p session)
hear_linked m now (packet.Ack h) session =
    let given = ack_heard h session in hear_acknowledgement m now given.0 given.1
hear_linked m now (packet.User p) session =
    let given = user_heard m.state session p in hear_behind m now p given.0 given.1

-- the first reason against it, the session left aside
abbrev pub hear_refusal : Manager → Option HearFault
hear_refusal m = if is_down m then Some fault.Down else None

-- it answers what the packet was heard as
abbrev pub hear : Manager → Packet → ℕ → HeardOutcome
hear m p now = unless m (hear_refusal m)
    (option_map_or (hear_linked m now p) m.rest.session (answering m (Err fault.NotLinked)))
