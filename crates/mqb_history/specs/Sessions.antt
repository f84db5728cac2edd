-- What two connected managers count of the packets that one of them sent to the other.
use Rattle.std.specs.Prelude.{[], ◌&&◌, ◌+◌, ◌++◌, ◌==◌, ◌∷◌, ◌≡◌, ◌≤◌, ◌⊎◌, List, None, Option}
use Rattle.std.specs.Prelude.{Some, filter_map, if◌then◌else◌, is_none, length, map, not, slice_get}
use Rattle.std.specs.Prelude.{take, unwrap_or, ℕ}
use Rattle.mqb_base.specs.declared.heads.SessionHead.{SessionHead}
use Rattle.mqb_base.specs.declared.ids.MessageId.{MessageId}
use Rattle.mqb_exactly_once.specs.Words.{In}
use Rattle.mqb_model.specs.calls.hear.Session.{no_head}
use Rattle.mqb_model.specs.state.Places.{is_express}
use Rattle.mqb_network.specs.Courses.{Course, Written}
use Rattle.mqb_network.specs.Network.{Connection, Note, manager_at}
use Rattle.mqb_packet.specs.declared.packet.Packet.{Packet}
use Rattle.mqb_packet.specs.declared.packet.Packet.TheVariants as packet
use Rattle.mqb_packet.specs.declared.packet.UserPacket.{UserPacket}
use Rattle.mqb_plain.specs.Lists.{InOrder}
use Rattle.mqb_plain.specs.Plain.{PlainLists}
use Rattle.mqb_plain.specs.declared.outgoing.Outgoing.{Outgoing}
use Rattle.mqb_queue.specs.Places.{numbered}
use Rattle.mqb_session.specs.State as one_end
use Rattle.mqb_history.specs.Stored.{IsStoredIn}

-- the packets that a manager sent in a connection, in order
abbrev pub packets_from : (connection sender : ℕ) → List Note → List Packet → List Packet
packets_from connection sender (note ∷ notes) (x ∷ xs) =
    if note.connection == connection && note.sender == sender
    then x ∷ packets_from connection sender notes xs
    else packets_from connection sender notes xs
packets_from connection sender notes xs = []

-- the user packets among them
abbrev pub user_packets : List Packet → List UserPacket
user_packets [] = []
user_packets (packet.User p ∷ xs) = p ∷ user_packets xs
user_packets (x ∷ xs) = user_packets xs

-- the message of one that counts as stored where it arrives: it is recoverable, and in no stream
abbrev pub recoverable_in : UserPacket → Option MessageId
recoverable_in p =
    if is_none p.tx && not (is_express p.message.delivery) then Some p.message.id else None

abbrev pub recoverables : List UserPacket → List MessageId
recoverables ps = filter_map recoverable_in ps

-- the number of a packet in its session
abbrev pub session_number : UserPacket → ℕ
session_number p = (unwrap_or p.session no_head).user

-- how many recoverable messages went in its session, with its own
abbrev pub recoverable_number : UserPacket → ℕ
recoverable_number p = (unwrap_or p.session no_head).recoverable

-- how many packets a packet says that its sender got
abbrev pub says_got : Packet → ℕ
says_got (packet.User p) = (unwrap_or p.session no_head).ack
says_got (packet.Ack head) = head.ack
says_got _ = 0

-- and how many messages it says that its sender has stored
abbrev pub says_stored : Packet → ℕ
says_stored (packet.User p) = (unwrap_or p.session no_head).stored
says_stored (packet.Ack head) = head.stored
says_stored _ = 0

-- Of the packets that went from one end of a session to the other, and of those that went back,
-- each end counts what it sent and got.
pub record CountsRightly (source target : one_end.State) (waiting : List PlainLists)
    (there back : List Packet) (written : List Written) : Type 0 where
  -- what was sent is counted, and numbered from 1 on
  pub sent : source.sent ≡ length (user_packets there)
  pub recoverable : source.recoverable_sent ≡ length (recoverables (user_packets there))
  pub numbers : (k : ℕ) (p : UserPacket) → slice_get (user_packets there) k ≡ Some p
      → session_number p ≡ k + 1
  pub recoverable_numbers : (k : ℕ) (p : UserPacket) → slice_get (user_packets there) k ≡ Some p
      → recoverable_number p ≡ length (recoverables (take (k + 1) (user_packets there)))
  -- a message that was sent and waits is marked with its place among the recoverable ones
  pub marks : (lists : PlainLists) (o : Outgoing) (n : ℕ) → In lists waiting
      → In o lists.recoverable → o.mark ≡ Some n
      → numbered (recoverables (user_packets there)) n ≡ Some o.message.id
  -- and an express one with its place among all
  pub express_marks : (lists : PlainLists) (o : Outgoing) (n : ℕ) → In lists waiting
      → In o lists.express → o.mark ≡ Some n
      → numbered (map (λ p. p.message.id) (user_packets there)) n ≡ Some o.message.id
  -- of those that wait the sent ones come first, and their marks rise
  pub rises : (lists : PlainLists) → In lists waiting
      → InOrder lists.recoverable × InOrder lists.express
  -- an acknowledgement of the session repeats how many went before it
  pub repeats : (before behind : List Packet) (head : SessionHead)
      → there ≡ before ++ packet.Ack head ∷ behind
      → (head.user ≡ length (user_packets before))
      × (head.recoverable ≡ length (recoverables (user_packets before)))
  -- the packet that bears the next number is the first that was not got
  pub next : (p : UserPacket) → In (packet.User p) there → session_number p ≡ target.got + 1
      → slice_get (user_packets there) target.got ≡ Some p
  -- what was got are the first ones; and what counts as stored are the recoverable ones of these,
  -- each of which was stored, or bounced
  pub got : target.got ≤ length (user_packets there)
  pub stored : target.stored ≡ length (recoverables (take target.got (user_packets there)))
  pub kept : (id : MessageId) → In id (recoverables (take target.got (user_packets there)))
      → IsStoredIn written id
  -- no more is said, or believed, to be got, or stored
  pub said_got : (x : Packet) → In x back → says_got x ≤ target.got
  pub got_acknowledged : source.acked ≤ target.got
  pub said : (x : Packet) → In x back → says_stored x ≤ target.stored
  pub acknowledged : source.recoverable_acked ≤ target.stored

-- two managers are the first and the second end of a connection, or the second and the first one
abbrev pub AreEndsOf : Connection → ℕ → ℕ → Type 0
AreEndsOf d i j = ((i ≡ d.first) × (j ≡ d.second)) ⊎ ((i ≡ d.second) × (j ≡ d.first))

-- both ends of a connection have a session, and count rightly what went from one to the other
pub record IsCounted (c : Course) (d : Connection) (i j : ℕ) : Type 0 where
  pub source : one_end.State
  pub target : one_end.State
  pub sends : (manager_at c.network i).rest.session ≡ Some source
  pub hears : (manager_at c.network j).rest.session ≡ Some target
  pub counts : CountsRightly source target (manager_at c.network i).state.plain
      (packets_from d.number i c.network.notes c.sent)
      (packets_from d.number j c.network.notes c.sent) c.written

-- In each connection each end counts rightly what it sends to the other.
abbrev pub AreSessionsCounted : Course → Type 0
AreSessionsCounted c =
    (d : Connection) (i j : ℕ) → In d c.network.connections → AreEndsOf d i j → IsCounted c d i j
