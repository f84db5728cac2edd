-- A connection that ends well is lawful, as its end captures it.
use Rattle.std.specs.List.{All, AllByRecursion, AllZip}
use Rattle.std.specs.Prelude.{[], ◌≡◌, List, None, Ok, Option, Some, flat_map, option_and_then, ℕ}
use Rattle.mqb_base.specs.declared.ids.Guid.{Guid}
use Rattle.mqb_fields.specs.Reading.{Reading, rest_of}
use Rattle.mqb_heads.specs.declared.base.TheConstants.{MAX_PACKET}
use Rattle.mqb_packet.specs.Spelled.{Spells}
use Rattle.mqb_packet.specs.declared.packet.Packet.{Packet}
use Rattle.mqb_session.specs.declared.phase.Role.{Role}
use Rattle.mqb_session.specs.declared.phase.Role.TheVariants.{Acceptor, Initiator}
use Rattle.mqb_stream.specs.Cutting.{IsFrame}
use Rattle.mqb_model.specs.managers.Manager.{Manager}
use Rattle.mqb_model.specs.managers.Valid.{IsValidManager, express_waiting}
use Rattle.mqb_serving.specs.Conversations.{StoredManager, opened, read_on, served}
use Rattle.mqb_serving.specs.Serving.{Serves}
use Rattle.mqb_serving.specs.declared.limits.TheConstants.{WINDOW}
use Rattle.mqb_serving.specs.declared.purpose.Purpose.{Purpose}
use Rattle.mqb_serving.specs.declared.purpose.Purpose.TheVariants as purpose
use Rattle.mqb_capture.specs.Events.{Bad, Event, Heard, Sent}
use Rattle.mqb_capture.specs.Grammar.{Begins, Head, Piece}
use Rattle.mqb_capture.specs.Lawful.{IsBetween, IsLawful}
use Rattle.mqb_capture.specs.Links.{AreLinked, links}
use Rattle.mqb_capture.specs.declared.answers.Way.{Way}
use Rattle.mqb_capture.specs.declared.answers.Way.TheVariants as way
use Rattle.mqb_law_captures.specs.Traces.{events_of}

-- Captures of packets.

-- the bytes of pieces
abbrev pub bytes_in : List Piece → List ℕ
bytes_in pieces = flat_map (λ piece. piece.bytes) pieces

-- Pieces are one packet that went this way, and nothing else.
pub record ArePacket (direction : Way) (p : Packet) (pieces : List Piece) : Type 0 where
  pub way : AllByRecursion (λ piece. piece.way ≡ direction) pieces
  pub frame : IsFrame MAX_PACKET (bytes_in pieces)
  pub spells : Spells p (bytes_in pieces)

-- they are the packet of an event
abbrev pub AreOf : Event → List Piece → Type 0
AreOf (Sent p) pieces = ArePacket way.Sent p pieces
AreOf (Heard p) pieces = ArePacket way.Heard p pieces
AreOf (Bad fault) pieces = ⊥

-- Bytes are the capture of packets in their order, each in pieces of its own.
pub record IsCaptureOf (h : Head) (events : List Event) (bytes : List ℕ) : Type 0 where
  pub groups : List (List Piece)
  pub end : Reading
  pub begins : Begins bytes h (flat_map (λ group. group) groups) end
  pub whole : rest_of end ≡ []
  pub each : AllZip AreOf events groups

-- Connections that end well.

-- A valid manager, whose express messages for peers are its own, and which is not linked.
pub record MayServe (m : Manager) : Type 0 where
  pub valid : IsValidManager m
  pub own : All (λ x. x.id.qm ≡ m.state.identity.guid) (express_waiting m.state)
  pub unlinked : m.rest.session ≡ None

-- which end of a session it is
abbrev pub end_of : Purpose → Role
end_of purpose.Serve = Acceptor
end_of (purpose.Reach why peer) = Initiator

-- the peer of a manager's session, once it is known
abbrev pub peer_of : Manager → Option Guid
peer_of m = option_and_then (λ session. session.peer) m.rest.session

-- The head of its capture: its end, itself, the peer that its session has at the end, and the
-- window that it tells.
pub record IsHeadOf (m : StoredManager) (asks : Purpose) (now : ℕ) (bytes : List ℕ)
    (h : Head) : Type 0 where
  pub role : h.role ≡ end_of asks
  pub own : h.own ≡ m.manager.state.identity.guid
  pub peer : peer_of (read_on (opened m asks now) bytes).stored.manager ≡ Some h.peer
  pub window : h.window ≡ WINDOW

-- a user packet that was heard came from the peer, and is for this end
abbrev pub IsFromPeer : Head → Event → Type 0
IsFromPeer h (Heard p) = IsBetween h (Heard p)
IsFromPeer h _ = Unit {0}

-- The peer kept to what is demanded of the packets that were heard: of their
-- origin and of their links.
pub record PeerKeeps (h : Head) (events : List Event) : Type 0 where
  pub between : AllByRecursion (IsFromPeer h) events
  pub linked : AreLinked (links way.Heard events)

-- Where a connection ends well and the peer kept to that, each capture of what was given
-- and heard is lawful.
abbrev pub ServedIsLawful : Type 0
ServedIsLawful =
    (m : StoredManager) (asks : Purpose) (now : ℕ) (bytes : List ℕ) (h : Head) (capture : List ℕ)
    → MayServe m.manager → (served m asks now bytes).end ≡ Ok tt
    → IsHeadOf m asks now bytes h → PeerKeeps h (events_of m asks now bytes)
    → IsCaptureOf h (events_of m asks now bytes) capture → IsLawful capture

-- So it is where serving, pushing or fetching is answered well, of all that was read.
abbrev pub AnsweredIsLawful : Type 0
AnsweredIsLawful = (m n : StoredManager) (asks : Purpose) (now : ℕ)
    (held held_now taken taken_now : Option (List ℕ))
    (s : Serves asks now m n held held_now taken taken_now (Ok tt))
    (h : Head) (capture : List ℕ) → MayServe m.manager → IsHeadOf m asks now s.read h
    → PeerKeeps h (events_of m asks now s.read)
    → IsCaptureOf h (events_of m asks now s.read) capture → IsLawful capture
