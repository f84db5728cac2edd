-- The entries of a store: their grammar, and the first field outside it.
use Rattle.std.specs.Prelude.{ℕ, ◌==◌, List, length, find, Option, Some, None, Result}
use Rattle.std.specs.Prelude.{Ok, if◌then◌else◌}
use Rattle.mqb_fields.specs.Reading.{◌>>=◌, Reading, rest_of, number_at}
use Rattle.mqb_entries.specs.declared.faults.EntryFault.{EntryFault}
use Rattle.mqb_entries.specs.declared.kinds.EntryKind.{EntryKind}
use Rattle.mqb_entries.specs.declared.kinds.EntryKind.TheVariants as kind
use Rattle.mqb_entries.specs.declared.entry.IdentityView.{IdentityView}
use Rattle.mqb_entries.specs.declared.entry.QueueView.{QueueView}
use Rattle.mqb_base.specs.declared.queues.EntryPlace.{EntryPlace}
use Rattle.mqb_base.specs.declared.queues.EntryPlace.TheVariants as place
use Rattle.mqb_entries.specs.declared.entry.ArrivedPart.{ArrivedPart}
use Rattle.mqb_entries.specs.declared.entry.ArrivedPart.TheVariants as part
use Rattle.mqb_entries.specs.declared.entry.Entry.{Entry}
use Rattle.mqb_entries.specs.declared.entry.Entry.TheVariants.{Identity, Peer, CreateQueue, Commit}
use Rattle.mqb_entries.specs.declared.entry.Entry.TheVariants.{Plain, Offered, Arrived, Taken}
use Rattle.mqb_entries.specs.declared.entry.Entry.TheVariants.{Purged, Ticked, Roll}
use Rattle.mqb_entries.specs.Fields.{outside, field, u8_at, u16_at, u32_at, address_at, guid_at}
use Rattle.mqb_entries.specs.Fields.{id_at, name_at, packet_at, flag_at, public_at}
use Rattle.mqb_entries.specs.Lists.{many, count_at, start}
use Rattle.mqb_entries.specs.Members.{op_at, mark_at}
use Rattle.mqb_entries.specs.Kinds.{kinds, code_of}
use Rattle.mqb_entries.specs.declared.limits.TheConstants.{MAX_FEW, MAX_ROLL}

unfoldable pub identity_at : Reading → Result (IdentityView × Reading) EntryFault
identity_at r = do
  host ← name_at r
  guid ← guid_at host.1
  address ← address_at guid.1
  Ok (record { host = host.0; guid = guid.0; address = address.0 }, address.1)

unfoldable pub queue_at : Reading → Result (QueueView × Reading) EntryFault
queue_at r = do
  name ← name_at r
  number ← u32_at name.1
  public ← public_at number.1
  transactional ← flag_at public.1
  quota ← u32_at transactional.1
  journal ← flag_at quota.1
  Ok (
    record {
      name = name.0;
      number = number.0;
      public = public.0;
      transactional = transactional.0;
      quota = quota.0;
      journal = journal.0;
    },
    journal.1,
  )

-- a few members behind their count
abbrev pub few_at : {X : Type 0} → (Reading → Result (X × Reading) EntryFault) → Reading
    → Result (List X × Reading) EntryFault
few_at member r = do
  count ← count_at 1 1 MAX_FEW r
  many member count.0 count.1

-- numbers behind their count
unfoldable pub numbers_at : Reading → Result (List ℕ × Reading) EntryFault
numbers_at r = do
  count ← u16_at r
  many u32_at count.0 count.1

-- a queue's number in a place that begins at r
abbrev pub queue_in : Reading → (ℕ → EntryPlace) → Reading
    → Result (EntryPlace × Reading) EntryFault
queue_in r place behind = do
  queue ← field r (number_at 4 behind)
  Ok (place queue.0, queue.1)

unfoldable pub place_at : Reading → Result (EntryPlace × Reading) EntryFault
place_at r = do
  byte ← u8_at r
  if byte.0 == 1 then queue_in r place.Queue byte.1
      else if byte.0 == 2 then queue_in r place.JournalOf byte.1
      else if byte.0 == 3 then Ok (place.Dead, byte.1)
      else if byte.0 == 4 then Ok (place.DeadXact, byte.1)
      else if byte.0 == 5 then Ok (place.Journal, byte.1)
      else outside r

-- a packet as it was heard
abbrev pub heard_at : (List ℕ → ArrivedPart) → Reading → Result (ArrivedPart × Reading) EntryFault
heard_at part r = do
  packet ← packet_at r
  Ok (part packet.0, packet.1)

abbrev pub acknowledged_at : Reading → Result (ArrivedPart × Reading) EntryFault
acknowledged_at r = do
  ordinal ← u32_at r
  number ← u32_at ordinal.1
  Ok (part.OrderAcknowledged ordinal.0 number.0, number.1)

unfoldable pub part_at : Reading → Result (ArrivedPart × Reading) EntryFault
part_at r = do
  byte ← u8_at r
  if byte.0 == 0 then Ok (part.Nothing, byte.1)
      else if byte.0 == 1 then heard_at part.Decided byte.1
      else if byte.0 == 2 then heard_at part.Stored byte.1
      else if byte.0 == 3 then acknowledged_at byte.1
      else if byte.0 == 4 then heard_at part.Final byte.1
      else outside r

abbrev pub commit_at : Reading → Result (Entry × Reading) EntryFault
commit_at r = do
  now ← u32_at r
  ops ← few_at op_at now.1
  Ok (Commit now.0 ops.0, ops.1)

abbrev pub plain_at : Reading → Result (Entry × Reading) EntryFault
plain_at r = do
  now ← u32_at r
  packet ← packet_at now.1
  Ok (Plain now.0 packet.0, packet.1)

abbrev pub arrived_at : Reading → Result (Entry × Reading) EntryFault
arrived_at r = do
  now ← u32_at r
  released ← numbers_at now.1
  part ← part_at released.1
  Ok (Arrived now.0 released.0 part.0, part.1)

abbrev pub taken_at : Reading → Result (Entry × Reading) EntryFault
taken_at r = do
  now ← u32_at r
  place ← place_at now.1
  id ← id_at place.1
  Ok (Taken now.0 place.0 id.0, id.1)

abbrev pub purged_at : Reading → Result (Entry × Reading) EntryFault
purged_at r = do
  now ← u32_at r
  place ← place_at now.1
  Ok (Purged now.0 place.0, place.1)

-- the fields of an entry, by its kind
unfoldable pub fields_at : EntryKind → Reading → Result (Entry × Reading) EntryFault
fields_at kind.Identity r = identity_at r >>= λ identity. Ok (Identity identity.0, identity.1)
fields_at kind.Peer r = identity_at r >>= λ peer. Ok (Peer peer.0, peer.1)
fields_at kind.CreateQueue r = queue_at r >>= λ queue. Ok (CreateQueue queue.0, queue.1)
fields_at kind.Commit r = commit_at r
fields_at kind.Plain r = plain_at r
fields_at kind.Offered r = few_at mark_at r >>= λ marks. Ok (Offered marks.0, marks.1)
fields_at kind.Arrived r = arrived_at r
fields_at kind.Taken r = taken_at r
fields_at kind.Purged r = purged_at r
fields_at kind.Ticked r = u32_at r >>= λ now. Ok (Ticked now.0, now.1)
fields_at kind.Roll r = count_at 4 1 MAX_ROLL r >>= λ count. Ok (Roll count.0, count.1)

abbrev pub kind_in : Reading → ℕ × Reading → Option EntryKind
    → Result (EntryKind × Reading) EntryFault
kind_in r byte (Some kind) = Ok (kind, byte.1)
kind_in r byte None = outside r

-- a byte that is a kind's
unfoldable pub kind_at : Reading → Result (EntryKind × Reading) EntryFault
kind_at r = do
  byte ← u8_at r
  kind_in r byte (find (λ kind. code_of kind == byte.0) kinds)

-- the entry that bytes are, or the first field outside the grammar: nothing follows an entry
unfoldable pub entry_of : List ℕ → Result Entry EntryFault
entry_of bytes = do
  kind ← kind_at (start bytes)
  entry ← fields_at kind.0 kind.1
  if length (rest_of entry.1) == 0 then Ok entry.0 else outside entry.1
