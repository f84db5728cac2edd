-- What serving a connection comes to: it ends as its definition does, or a fault cuts it short
-- behind some of its pumps.
use Rattle.std.specs.Prelude.{[], ◌++◌, ◌∷◌, ◌≡◌, ◌⊎◌, Bool, Err, IfSome, List, None, Ok, Option}
use Rattle.std.specs.Prelude.{Result, Some, false, true, ℕ}
use Rattle.mqb_outside.specs.Told.{Gave, Took}
use Rattle.mqb_packet.specs.Spelled.{Spells}
use Rattle.mqb_packet.specs.declared.packet.Packet.{Packet}
use Rattle.mqb_stream.specs.Framing.{Whole, next}
use Rattle.mqb_model.specs.calls.Link.{unlink}
use Rattle.mqb_model.specs.calls.hear.Hear.{hear}
use Rattle.mqb_model.specs.calls.pump.Pump.{pump}
use Rattle.mqb_serving.specs.declared.purpose.Purpose.{Purpose}
use Rattle.mqb_model.specs.records.Record.{Record}
use Rattle.mqb_serving.specs.Conversations.{Conversation, End, Served, StoredManager, bytes_of}
use Rattle.mqb_serving.specs.Conversations.{holding, linked, opened, pumped, read_on, served}
use Rattle.mqb_serving.specs.Conversations.{stored_after, stored_under}
use Rattle.mqb_serving.specs.Laws.{Begins, passed}
use Rattle.mqb_serving.specs.declared.faults.ConnFault.{ConnFault}
use Rattle.mqb_serving.specs.declared.faults.ConnFault.TheVariants as fault

-- what serving answers
abbrev pub Answer : Type 0
Answer = Result (Unit {0}) ConnFault

-- an end as an answer
abbrev pub answer_of : End → Answer
answer_of (Ok done) = Ok done
answer_of (Err why) = Err (fault.Peer why)

-- Which fault it is.

abbrev pub is_disk_fault : ConnFault → Bool
is_disk_fault (fault.Peer why) = false
is_disk_fault fault.ReadFault = false
is_disk_fault fault.WriteFault = false
is_disk_fault fault.DiskFault = true
is_disk_fault fault.Memory = false

abbrev pub is_read_fault : ConnFault → Bool
is_read_fault (fault.Peer why) = false
is_read_fault fault.ReadFault = true
is_read_fault fault.WriteFault = false
is_read_fault fault.DiskFault = false
is_read_fault fault.Memory = false

abbrev pub is_write_fault : ConnFault → Bool
is_write_fault (fault.Peer why) = false
is_write_fault fault.ReadFault = false
is_write_fault fault.WriteFault = true
is_write_fault fault.DiskFault = false
is_write_fault fault.Memory = false

-- Where pumping starts.

-- The points at which pumping starts: behind a packet that this manager heard by this record, where
-- there is one, or behind none.
abbrev pub Starting : Type 1
Starting = StoredManager → Option Record → Conversation → Type 0

-- pumping starts here
abbrev pub IsStart : Starting → Conversation → Type 0
IsStart starts from = (by : StoredManager) × (entry : Option Record) × starts by entry from

-- a packet is heard, and nothing was pumped yet
abbrev pub hearing : Conversation → Packet → Conversation
hearing c p = record c { stored = stored_after c.stored (hear c.stored.manager p c.now) }

-- the record by which a packet is heard, where there is one
abbrev pub heard_by : Conversation → Packet → Option Record
heard_by c p = (hear c.stored.manager p c.now).entry

-- The byte that comes to a connection that goes on is the last of this packet.
pub record Fills (c : Conversation) (byte : ℕ) (p : Packet) : Type 0 where
  pub end : c.end ≡ None
  pub frame : List ℕ
  pub whole : next (holding c (byte ∷ [])).framing ≡ Whole frame
  pub spells : Spells p frame

-- One of the bytes that come is the last of a packet, which is heard.
pub record Hears (c : Conversation) (bytes : List ℕ) (by : StoredManager) (entry : Option Record)
    (from : Conversation) : Type 0 where
  pub front : List ℕ
  pub byte : ℕ
  pub packet : Packet
  pub begins : Begins (front ++ byte ∷ []) bytes
  pub fills : Fills (read_on c front) byte packet
  pub manager : by ≡ (read_on c front).stored
  pub comes_to : heard_by (read_on c front) packet ≡ entry
  pub heard : from ≡ hearing (passed (read_on c front) (byte ∷ [])) packet

-- the manager was linked, or a packet was heard of the bytes that were read
abbrev pub Starts : StoredManager → Purpose → ℕ → List ℕ → Starting
Starts m asks now read by entry from =
    ((entry ≡ None) × (from ≡ linked m asks now)) ⊎ Hears (opened m asks now) read by entry from

-- The record of the next call of a manager: of a pump at this moment, or of a packet that it hears.
abbrev pub IsNext : Starting → StoredManager → ℕ → Record → Type 0
IsNext starts m now r =
    ((pump m.manager now).entry ≡ Some r) ⊎ ((from : Conversation) × starts m (Some r) from)

-- What a fault leaves.

-- A manager at one moment of a connection: behind so many pumps from where pumping started. What
-- was written is a front of what it gave.
pub record IsMoment (m : StoredManager) (asks : Purpose) (now : ℕ) (read written : List ℕ)
    (at : StoredManager) : Type 0 where
  pub from : Conversation
  pub pumps : ℕ
  pub starts : IsStart (Starts m asks now read) from
  pub manager : at ≡ (pumped pumps from).stored
  pub begins : Begins written (bytes_of (pumped pumps from).given)

-- A fault of the connection or of memory cuts it short: the manager of that moment is
-- not linked any more.
pub record IsCutShort (m : StoredManager) (asks : Purpose) (now : ℕ) (read written : List ℕ)
    (n : StoredManager) : Type 0 where
  pub at : StoredManager
  pub moment : IsMoment m asks now read written at
  pub left : n ≡ stored_after at (unlink at.manager)

-- The disk fails under the record of the next call of the manager of that moment: of a pump, or of
-- a packet whose last byte was read. It is down with that record in doubt, and no other.
pub record IsDownAfter (m : StoredManager) (asks : Purpose) (now : ℕ) (read written : List ℕ)
    (n : StoredManager) : Type 0 where
  pub at : StoredManager
  pub moment : IsMoment m asks now read written at
  pub doubt : Record
  pub next : IsNext (Starts m asks now read) at now doubt
  pub left : n ≡ stored_under at doubt

-- The whole.

-- these bytes were written, this manager is left with these records, and that is answered
pub record IsServed (s : Served) (r : Answer) (written : List ℕ) (n : StoredManager) : Type 0 where
  pub wrote : s.written ≡ written
  pub manager : s.stored ≡ n
  pub end : answer_of s.end ≡ r

-- how it ends, by what is answered
abbrev pub EndsAs : Answer → StoredManager → Purpose → ℕ → (read written : List ℕ) → StoredManager
    → Type 0
EndsAs (Ok done) m asks now read written n = IsServed (served m asks now read) (Ok done) written n
EndsAs (Err (fault.Peer why)) m asks now read written n =
    IsServed (served m asks now read) (Err (fault.Peer why)) written n
EndsAs (Err fault.ReadFault) m asks now read written n = IsCutShort m asks now read written n
EndsAs (Err fault.WriteFault) m asks now read written n = IsCutShort m asks now read written n
EndsAs (Err fault.Memory) m asks now read written n = IsCutShort m asks now read written n
EndsAs (Err fault.DiskFault) m asks now read written n = IsDownAfter m asks now read written n

-- A manager serves a connection that held, and had taken, before and after: it reads what that
-- gives and writes what that takes.
pub record Serves (asks : Purpose) (now : ℕ) (m n : StoredManager)
    (held held_now taken taken_now : Option (List ℕ)) (r : Answer) : Type 0 where
  pub read : List ℕ
  pub written : List ℕ
  pub gave : Gave held held_now read
  pub took : Took taken taken_now written
  pub ends : EndsAs r m asks now read written n

-- What is served is what all these bytes come to, also where not all were read.
pub record ServesAll (asks : Purpose) (now : ℕ) (m n : StoredManager) (bytes : List ℕ)
    (taken taken_now : Option (List ℕ)) (r : Answer) : Type 0 where
  pub written : List ℕ
  pub took : Took taken taken_now written
  pub served : IsServed (served m asks now bytes) r written n

-- an end by the peer, or well: all that the connection held is served
abbrev pub ServesWhole : Answer → Purpose → ℕ → StoredManager → StoredManager
    → (held taken taken_now : Option (List ℕ)) → Type 0
ServesWhole (Ok done) asks now m n held taken taken_now =
    IfSome held (λ bytes. ServesAll asks now m n bytes taken taken_now (Ok done))
ServesWhole (Err (fault.Peer why)) asks now m n held taken taken_now =
    IfSome held (λ bytes. ServesAll asks now m n bytes taken taken_now (Err (fault.Peer why)))
ServesWhole (Err fault.ReadFault) asks now m n held taken taken_now = Unit {0}
ServesWhole (Err fault.WriteFault) asks now m n held taken taken_now = Unit {0}
ServesWhole (Err fault.Memory) asks now m n held taken taken_now = Unit {0}
ServesWhole (Err fault.DiskFault) asks now m n held taken taken_now = Unit {0}
