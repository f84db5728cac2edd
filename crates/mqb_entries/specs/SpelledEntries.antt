-- Which bytes an entry is, and what holds of each entry that is spelled.
use Rattle.std.specs.Prelude.{◌≡◌, ℕ, ◌≤◌, IfSome, List, [], ◌∷◌, ◌++◌, length}
use Rattle.std.specs.List.{flat_map, AllByRecursion}
use Rattle.mqb_fields.specs.Writing.{bytes_of}
use Rattle.mqb_entries.specs.declared.members.Mark.{Mark}
use Rattle.mqb_entries.specs.declared.members.OpView.{OpView}
use Rattle.mqb_entries.specs.declared.entry.IdentityView.{IdentityView}
use Rattle.mqb_entries.specs.declared.entry.QueueView.{QueueView}
use Rattle.mqb_base.specs.declared.queues.EntryPlace.{EntryPlace}
use Rattle.mqb_base.specs.declared.queues.EntryPlace.TheVariants as place
use Rattle.mqb_entries.specs.declared.entry.ArrivedPart.{ArrivedPart}
use Rattle.mqb_entries.specs.declared.entry.ArrivedPart.TheVariants as part
use Rattle.mqb_entries.specs.declared.entry.Entry.{Entry}
use Rattle.mqb_entries.specs.declared.entry.Entry.TheVariants.{Identity, Peer, CreateQueue, Commit}
use Rattle.mqb_entries.specs.declared.entry.Entry.TheVariants.{Plain, Offered, Arrived, Taken}
use Rattle.mqb_entries.specs.declared.entry.Entry.TheVariants.{Purged, Ticked, Roll}
use Rattle.mqb_entries.specs.declared.kinds.EntryKind.{EntryKind}
use Rattle.mqb_entries.specs.declared.kinds.EntryKind.TheVariants as kind
use Rattle.mqb_entries.specs.Kinds.{code_of}
use Rattle.mqb_entries.specs.declared.limits.TheConstants.{MAX_FEW, MAX_LISTED, MAX_ROLL}
use Rattle.mqb_entries.specs.Spelled.{spelled_guid, spelled_id, spelled_name, spelled_packet}
use Rattle.mqb_entries.specs.Spelled.{spelled_flag, spelled_public, spelled_op, spelled_mark}
use Rattle.mqb_entries.specs.Spelled.{IsWord, IsName, IsPacket, IsGuid, IsId, IsOp, IsMark}

abbrev pub spelled_identity : IdentityView → List ℕ
spelled_identity m = spelled_name m.host ++ spelled_guid m.guid ++ m.address

abbrev pub spelled_queue : QueueView → List ℕ
spelled_queue q = spelled_name q.name ++ bytes_of 4 q.number ++ spelled_public q.public
    ++ spelled_flag q.transactional ++ bytes_of 4 q.quota ++ spelled_flag q.journal

abbrev pub spelled_ops : List OpView → List ℕ
spelled_ops ops = bytes_of 1 (length ops) ++ flat_map spelled_op ops

abbrev pub spelled_marks : List Mark → List ℕ
spelled_marks marks = bytes_of 1 (length marks) ++ flat_map spelled_mark marks

abbrev pub spelled_numbers : List ℕ → List ℕ
spelled_numbers numbers = bytes_of 2 (length numbers) ++ flat_map (bytes_of 4) numbers

abbrev pub spelled_place : EntryPlace → List ℕ
spelled_place (place.Queue number) = 1 ∷ bytes_of 4 number
spelled_place (place.JournalOf number) = 2 ∷ bytes_of 4 number
spelled_place place.Dead = 3 ∷ []
spelled_place place.DeadXact = 4 ∷ []
spelled_place place.Journal = 5 ∷ []

abbrev pub spelled_part : ArrivedPart → List ℕ
spelled_part part.Nothing = 0 ∷ []
spelled_part (part.Decided packet) = 1 ∷ spelled_packet packet
spelled_part (part.Stored packet) = 2 ∷ spelled_packet packet
spelled_part (part.OrderAcknowledged ordinal number) = 3 ∷ bytes_of 4 ordinal ++ bytes_of 4 number
spelled_part (part.Final packet) = 4 ∷ spelled_packet packet

abbrev pub kind_of : Entry → EntryKind
kind_of (Identity identity) = kind.Identity
kind_of (Peer peer) = kind.Peer
kind_of (CreateQueue queue) = kind.CreateQueue
kind_of (Commit now ops) = kind.Commit
kind_of (Plain now packet) = kind.Plain
kind_of (Offered marks) = kind.Offered
kind_of (Arrived now released part) = kind.Arrived
kind_of (Taken now place id) = kind.Taken
kind_of (Purged now place) = kind.Purged
kind_of (Ticked now) = kind.Ticked
kind_of (Roll count) = kind.Roll

-- the fields of an entry, behind its kind
abbrev pub spelled_fields : Entry → List ℕ
spelled_fields (Identity identity) = spelled_identity identity
spelled_fields (Peer peer) = spelled_identity peer
spelled_fields (CreateQueue queue) = spelled_queue queue
spelled_fields (Commit now ops) = bytes_of 4 now ++ spelled_ops ops
spelled_fields (Plain now packet) = bytes_of 4 now ++ spelled_packet packet
spelled_fields (Offered marks) = spelled_marks marks
spelled_fields (Arrived now released part) =
    bytes_of 4 now ++ spelled_numbers released ++ spelled_part part
spelled_fields (Taken now place id) = bytes_of 4 now ++ spelled_place place ++ spelled_id id
spelled_fields (Purged now place) = bytes_of 4 now ++ spelled_place place
spelled_fields (Ticked now) = bytes_of 4 now
spelled_fields (Roll count) = bytes_of 4 count

-- the bytes of an entry
abbrev pub spelled : Entry → List ℕ
spelled entry = code_of (kind_of entry) ∷ spelled_fields entry

-- a count of ops or of marks
abbrev pub IsFew : ℕ → Type 0
IsFew count = (1 ≤ count) × (count ≤ MAX_FEW)

-- a count of messages at which a sequence is full
abbrev pub IsFull : ℕ → Type 0
IsFull count = (1 ≤ count) × (count ≤ MAX_ROLL)

abbrev pub AreOps : List OpView → Type 0
AreOps ops = IsFew (length ops) × AllByRecursion IsOp ops

abbrev pub AreMarks : List Mark → Type 0
AreMarks marks = IsFew (length marks) × AllByRecursion IsMark marks

abbrev pub AreNumbers : List ℕ → Type 0
AreNumbers numbers = (length numbers ≤ MAX_LISTED) × AllByRecursion IsWord numbers

abbrev pub IsIdentity : IdentityView → Type 0
IsIdentity m = IsName m.host × IsGuid m.guid × (length m.address ≡ 4)

pub record IsQueue (q : QueueView) : Type 0 where
  pub name : IsName q.name
  pub number : IsWord q.number
  pub public : IfSome q.public IsGuid
  pub quota : IsWord q.quota

abbrev pub IsPlace : EntryPlace → Type 0
IsPlace (place.Queue number) = IsWord number
IsPlace (place.JournalOf number) = IsWord number
IsPlace place.Dead = Unit {0}
IsPlace place.DeadXact = Unit {0}
IsPlace place.Journal = Unit {0}

abbrev pub IsPart : ArrivedPart → Type 0
IsPart part.Nothing = Unit {0}
IsPart (part.Decided packet) = IsPacket packet
IsPart (part.Stored packet) = IsPacket packet
IsPart (part.OrderAcknowledged ordinal number) = IsWord ordinal × IsWord number
IsPart (part.Final packet) = IsPacket packet

-- an entry whose counts, lengths, names and numbers are those of the grammar
abbrev pub IsEntry : Entry → Type 0
IsEntry (Identity identity) = IsIdentity identity
IsEntry (Peer peer) = IsIdentity peer
IsEntry (CreateQueue queue) = IsQueue queue
IsEntry (Commit now ops) = IsWord now × AreOps ops
IsEntry (Plain now packet) = IsWord now × IsPacket packet
IsEntry (Offered marks) = AreMarks marks
IsEntry (Arrived now released part) = IsWord now × AreNumbers released × IsPart part
IsEntry (Taken now place id) = IsWord now × IsPlace place × IsId id
IsEntry (Purged now place) = IsWord now × IsPlace place
IsEntry (Ticked now) = IsWord now
IsEntry (Roll count) = IsFull count

-- an entry whose counts are those of the grammar: what its types do not say
abbrev pub Fits : Entry → Type 0
Fits (Commit now ops) = IsFew (length ops)
Fits (Offered marks) = IsFew (length marks)
Fits (Roll count) = IsFull count
Fits _ = Unit {0}
