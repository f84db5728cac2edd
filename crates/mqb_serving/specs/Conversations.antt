-- One manager over one connection: it links and pumps until nothing goes, and hears each packet as
-- soon as its last byte came, and pumps again.
use Rattle.std.specs.Option.{option_map_or, option_or}
use Rattle.std.specs.Prelude.{[], ◌&&◌, ◌+◌, ◌++◌, ◌==◌, ◌∷◌, Bool, Err, List, None, Ok, Option}
use Rattle.std.specs.Prelude.{Result, Some, false, flat_map, fold, if◌then◌else◌, is_some, length}
use Rattle.std.specs.Prelude.{not, option_map, suc, unwrap_or, zero, ℕ}
use Rattle.mqb_base.specs.declared.heard.Cause.{Cause}
use Rattle.mqb_fields.specs.declared.faults.HeadFault.{HeadFault}
use Rattle.mqb_heads.specs.declared.base.TheConstants.{MAX_PACKET}
use Rattle.mqb_packet.specs.Parts.{PacketParts, packet_of}
use Rattle.mqb_packet.specs.Plain.{plain_spelling}
use Rattle.mqb_packet.specs.Spelled.{packet_in}
use Rattle.mqb_packet.specs.declared.packet.Packet.{Packet}
use Rattle.mqb_session.specs.Sending.{is_ready}
use Rattle.mqb_session.specs.declared.phase.Phase.{Phase}
use Rattle.mqb_session.specs.declared.phase.Phase.TheVariants as phase
use Rattle.mqb_stream.specs.Framing.{Answer, Broken, Framing, Wants, Whole, advanced, next}
use Rattle.mqb_model.specs.calls.Link.{link, unlink}
use Rattle.mqb_model.specs.calls.hear.Hear.{hear}
use Rattle.mqb_model.specs.calls.pump.Pump.{PumpOutcome, pump}
use Rattle.mqb_model.specs.declared.answers.Role.{Role}
use Rattle.mqb_model.specs.declared.answers.Role.TheVariants as role
use Rattle.mqb_model.specs.declared.faults.PumpFault.{PumpFault}
use Rattle.mqb_model.specs.managers.Manager.{Manager}
use Rattle.mqb_model.specs.managers.Outcomes.{Outcome, failed_under, succeeded}
use Rattle.mqb_model.specs.managers.Readers.{is_outstanding, phase_of}
use Rattle.mqb_model.specs.records.Record.{Record}
use Rattle.mqb_serving.specs.declared.faults.PeerFault.{PeerFault}
use Rattle.mqb_serving.specs.declared.faults.PeerFault.TheVariants as fault
use Rattle.mqb_serving.specs.declared.purpose.Errand.TheVariants as errand
use Rattle.mqb_serving.specs.declared.purpose.Purpose.{Purpose}
use Rattle.mqb_serving.specs.declared.purpose.Purpose.TheVariants as purpose
use Rattle.mqb_serving.specs.declared.limits.TheConstants.{MAX_PUMPS, MAX_READ, WINDOW}

-- how a connection ends: well, or by a fault of the peer
abbrev pub End : Type 0
End = Result (Unit {0}) PeerFault

-- which end of a connection the manager is
abbrev pub role_of : Purpose → Role
role_of purpose.Serve = role.Acceptor
role_of (purpose.Reach why peer) = role.Initiator peer

-- A manager, and how many records stand in its store.
pub record StoredManager : Type 0 where
  pub manager : Manager
  pub count : ℕ

-- behind a call that went well, whose record stands behind the others, where it has one
abbrev pub stored_after : {A : Type 0} → StoredManager → Outcome A → StoredManager
stored_after m outcome = record {
  manager = succeeded m.manager outcome;
  count = m.count + option_map_or (λ _. 1) outcome.entry 0;
}

-- its disk failed under this record, which is in doubt
abbrev pub stored_under : StoredManager → Record → StoredManager
stored_under m r = record m { manager = failed_under m.manager (Some r) }

-- What one end of a connection knows at one moment: what the connection is for and the moment of
-- its calls, the manager with its records, the packets that it gave, the framer of the bytes that
-- came, and how the connection ended, once it has.
pub record Conversation : Type 0 where
  pub purpose : Purpose
  pub now : ℕ
  pub stored : StoredManager
  pub given : List Packet
  pub framing : Framing
  pub end : Option End

-- it has ended
abbrev pub ended : End → Conversation → Conversation
ended end c = record c { end = Some end }

-- When it ends.

-- the session is ready, and nothing for its peer is outstanding
abbrev pub is_through : Manager → Bool
is_through m = option_map_or is_ready (phase_of m) false && not (is_outstanding m)

-- why a session closed
abbrev pub cause_in : Phase → Option Cause
cause_in (phase.Closed why) = Some why
cause_in _ = None

-- a session that closed ends the connection
abbrev pub end_of_session : Option Phase → Option End
end_of_session session =
    option_map_or (λ p. option_map (λ why. Err (fault.Closed why)) (cause_in p)) session None

-- a push ends as soon as it is through; the others go on
abbrev pub end_of_purpose : Purpose → Manager → Option End
end_of_purpose purpose.Serve m = None
end_of_purpose (purpose.Reach errand.Push peer) m = if is_through m then Some (Ok tt) else None
end_of_purpose (purpose.Reach errand.Fetch peer) m = None

-- the end by what the last pump answered
abbrev pub end_after : Result ℕ PumpFault → Purpose → Manager → Option End
end_after (Err why) asks m = Some (Err fault.Spent)
end_after (Ok count) asks m = option_or (end_of_session (phase_of m)) (end_of_purpose asks m)

-- Pumping.

-- a pump sent something
abbrev pub sent_some : Result ℕ PumpFault → Bool
sent_some (Ok count) = not (count == 0)
sent_some (Err why) = false

-- the packets of a pump are given
abbrev pub gave : PumpOutcome → Conversation → Conversation
gave outcome c =
    record c { stored = stored_after c.stored outcome; given = c.given ++ outcome.packets }

-- nothing more goes
abbrev pub at_rest : Result ℕ PumpFault → Conversation → Conversation
at_rest answer c = record c { end = end_after answer c.purpose c.stored.manager }

-- the manager pumps until nothing goes, at most so many times
abbrev pub pumped : ℕ → Conversation → Conversation
pumped zero c = c
pumped (suc count) c = let outcome = pump c.stored.manager c.now in
    if sent_some outcome.answer then pumped count (gave outcome c)
    else at_rest outcome.answer (gave outcome c)

-- What comes.

-- a framer that holds nothing
abbrev pub no_bytes : Framing
no_bytes = record { limit = MAX_PACKET; room = MAX_PACKET; place = 0; held = [] }

-- the manager is linked
abbrev pub linked : StoredManager → Purpose → ℕ → Conversation
linked m asks now = record {
  purpose = asks;
  now = now;
  stored = stored_after m (link m.manager (role_of asks) WINDOW);
  given = [];
  framing = no_bytes;
  end = None;
}

-- and pumps
abbrev pub opened : StoredManager → Purpose → ℕ → Conversation
opened m asks now = pumped MAX_PUMPS (linked m asks now)

-- it hears a packet, and pumps
abbrev pub heard : Conversation → Packet → Conversation
heard c p =
    pumped MAX_PUMPS (record c { stored = stored_after c.stored (hear c.stored.manager p c.now) })

-- what was read of a frame at a place is heard, or it is no packet
abbrev pub heard_as : ℕ → Result PacketParts HeadFault → Conversation → Conversation
heard_as place (Ok parts) c = option_map_or (heard c) (packet_in parts) c
heard_as place (Err why) c = ended (Err (fault.Bad place why)) c

-- the frame that waits is heard
abbrev pub frame_heard : List ℕ → Conversation → Conversation
frame_heard frame c =
    heard_as c.framing.place (packet_of frame) (record c { framing = advanced c.framing })

-- what the framer answers is done
abbrev pub answered : Answer → Conversation → Conversation
answered (Whole frame) c = frame_heard frame c
answered (Broken why place) c = ended (Err (fault.Bad place why)) c
answered (Wants need) c = c

-- how many bytes came
abbrev pub count_read : Conversation → ℕ
count_read c = c.framing.place + length c.framing.held

-- a connection that goes on has brought fewer bytes than the most
abbrev pub limited : Conversation → Conversation
limited c = if count_read c == MAX_READ
    then record c { end = option_or c.end (Some (Err fault.TooMuch)) } else c

-- what is held is looked at
abbrev pub looked_at : Conversation → Conversation
looked_at c = limited (answered (next c.framing) c)

-- bytes join what is held
abbrev pub holding : Conversation → List ℕ → Conversation
holding c bytes = record c { framing = record c.framing { held = c.framing.held ++ bytes } }

-- a byte comes; behind the end no byte is read
abbrev pub byte_read : Conversation → ℕ → Conversation
byte_read c byte = if is_some c.end then c else looked_at (holding c (byte ∷ []))

-- bytes come
abbrev pub read_on : Conversation → List ℕ → Conversation
read_on c bytes = fold byte_read c bytes

-- The whole.

-- the bytes of packets
abbrev pub bytes_of : List Packet → List ℕ
bytes_of packets = flat_map plain_spelling packets

-- how it ends where no more bytes come: well where it is through and holds no part of a packet
abbrev pub end_of_bytes : Conversation → End
end_of_bytes c = if is_through c.stored.manager && length c.framing.held == 0 then Ok tt
    else Err fault.PeerClosed

-- what a connection came to: the bytes that were written, the manager with its records, which is
-- not linked any more, and the end
pub record Served : Type 0 where
  pub written : List ℕ
  pub stored : StoredManager
  pub end : End

-- a connection that brings no more bytes
abbrev pub closed : Conversation → Served
closed c = record {
  written = bytes_of c.given;
  stored = stored_after c.stored (unlink c.stored.manager);
  end = unwrap_or c.end (end_of_bytes c);
}

-- what a manager that is one end of a connection at this moment serves for the bytes that come
abbrev pub served : StoredManager → Purpose → ℕ → List ℕ → Served
served m asks now bytes = closed (read_on (opened m asks now) bytes)
