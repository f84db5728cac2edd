-- The state that bytes are: their grammar, and the first field outside it.
use Rattle.std.specs.List.{list_all}
use Rattle.std.specs.Option.{option_map_or}
use Rattle.std.specs.Prelude.{[], ◌&&◌, ◌++◌, ◌+◌, ◌-◌, ◌==◌, ◌∷◌, Bool, List, Ok, Result}
use Rattle.std.specs.Prelude.{if◌then◌else◌, false, is_none, length, nat_le, nat_lt, not, position}
use Rattle.std.specs.Prelude.{slice_get, true, ℕ}
use Rattle.mqb_base.specs.declared.ids.Identity.{Identity}
use Rattle.mqb_base.specs.declared.message.Lane.TheVariants.{Durable}
use Rattle.mqb_base.specs.declared.queues.EntryPlace.{EntryPlace}
use Rattle.mqb_base.specs.declared.queues.EntryPlace.TheVariants as place
use Rattle.mqb_base.specs.declared.queues.QueuePlan.{QueuePlan}
use Rattle.mqb_entries.specs.Fields.{address_at, flag_at, guid_at, name_at, outside, u32_at}
use Rattle.mqb_entries.specs.Lists.{start}
use Rattle.mqb_entries.specs.declared.faults.EntryFault.{EntryFault}
use Rattle.mqb_fields.specs.Reading.{◌>>=◌, Reading, rest_of}
use Rattle.mqb_orders.specs.Rows.{Row}
use Rattle.mqb_orders.specs.declared.kept.Kept.{Kept}
use Rattle.mqb_orders.specs.declared.rows.InRow.{InRow}
use Rattle.mqb_packet.specs.declared.packet.Headers.TheVariants.{Bare, Session, TxAndSession}
use Rattle.mqb_plain.specs.Plain.{pushed}
use Rattle.mqb_model.specs.Lists.{with_changed}
use Rattle.mqb_model.specs.declared.limits.TheConstants.{MAX_NUMBER, MAX_ORDINAL, MAX_PEERS}
use Rattle.mqb_model.specs.declared.limits.TheConstants.{MAX_QUEUES, MAX_ROLL}
use Rattle.mqb_model.specs.records.Peer.{with_new_queue, with_peer}
use Rattle.mqb_model.specs.state.Places.{put_at, with_plain}
use Rattle.mqb_model.specs.state.Rows.{is_row_of}
use Rattle.mqb_model.specs.state.State.{State, empty}
use Rattle.mqb_snapshot.specs.Fields.{destination_at, host_at, message_at, own_at, peer_guid_at}
use Rattle.mqb_snapshot.specs.Fields.{queue_name_at, registered_at, within_at}
use Rattle.mqb_snapshot.specs.Parts.{Parts, each_joined, joined, list_joined, tested}

unfoldable pub identity_at : Reading → Result (Identity × Reading) EntryFault
identity_at r = do
  host ← name_at r
  guid ← guid_at host.1
  address ← address_at guid.1
  Ok (record { host = host.0; guid = guid.0; address = address.0 }, address.1)

-- a peer that is new
unfoldable pub peer_at : State → Reading → Result (Identity × Reading) EntryFault
peer_at s r = do
  host ← host_at s r
  guid ← peer_guid_at s host.1
  address ← address_at guid.1
  Ok (record { host = host.0; guid = guid.0; address = address.0 }, address.1)

unfoldable pub peer_joined : Parts → Reading → Result (Parts × Reading) EntryFault
peer_joined p r = do
  peer ← peer_at p.state r
  Ok (record p { state = with_peer p.state peer.0 }, peer.1)

unfoldable pub peers_joined : Parts → Reading → Result (Parts × Reading) EntryFault
peers_joined p r = do
  count ← within_at 0 MAX_PEERS r
  joined count.0 peer_joined p count.1

-- the plan of a queue that is new
unfoldable pub plan_at : State → Reading → Result (QueuePlan × Reading) EntryFault
plan_at s r = do
  name ← queue_name_at s r
  public ← registered_at s name.1
  transactional ← flag_at public.1
  quota ← u32_at transactional.1
  journal ← flag_at quota.1
  Ok (
    record {
      name = name.0;
      public = public.0;
      transactional = transactional.0;
      quota = quota.0;
      journal = journal.0;
    },
    journal.1,
  )

unfoldable pub queue_joined : Parts → Reading → Result (Parts × Reading) EntryFault
queue_joined p r = do
  plan ← plan_at p.state r
  Ok (record p { state = with_new_queue p.state plan.0 }, plan.1)

unfoldable pub queues_joined : Parts → Reading → Result (Parts × Reading) EntryFault
queues_joined p r = do
  count ← within_at 0 MAX_QUEUES r
  joined count.0 queue_joined p count.1

-- a message joins a place
unfoldable pub placed_joined : EntryPlace → Parts → Reading → Result (Parts × Reading) EntryFault
placed_joined at p r = do
  transactional ← flag_at r
  message ← message_at Bare transactional.0 transactional.1
  Ok (record p { state = put_at p.state at message.0 }, message.1)

-- the messages of a place
unfoldable pub place_joined : EntryPlace → Parts → Reading → Result (Parts × Reading) EntryFault
place_joined at p r = list_joined (placed_joined at) p r

-- the messages of the queue at an index, and those of its journal
unfoldable pub held_joined : ℕ → Parts → Reading → Result (Parts × Reading) EntryFault
held_joined k p r = do
  queue ← place_joined (place.Queue (k + 1)) p r
  place_joined (place.JournalOf (k + 1)) queue.0 queue.1

unfoldable pub places_joined : Parts → Reading → Result (Parts × Reading) EntryFault
places_joined p r = do
  queues ← each_joined (length p.state.places.queues) 0 held_joined p r
  dead ← place_joined place.Dead queues.0 queues.1
  dead_xact ← place_joined place.DeadXact dead.0 dead.1
  place_joined place.Journal dead_xact.0 dead_xact.1

-- a recoverable message joins those for the peer at an index
unfoldable pub plain_joined : ℕ → Parts → Reading → Result (Parts × Reading) EntryFault
plain_joined k p r = do
  transactional ← tested not flag_at r
  message ← own_at p Session false transactional.1
  Ok (
    record p {
      state = with_plain (pushed Durable message.0) p.state k;
      numbers = p.numbers ++ message.0.id.number ∷ [];
    },
    message.1,
  )

-- the messages for the peer at an index
unfoldable pub waiting_joined : ℕ → Parts → Reading → Result (Parts × Reading) EntryFault
waiting_joined k p r = list_joined (plain_joined k) p r

-- the ordinal of the last row, or 0
abbrev pub last_ordinal : State → ℕ
last_ordinal s =
    option_map_or (λ row. row.sequence.ordinal) (slice_get s.outs (length s.outs - 1)) 0

-- the last number of kept messages, or 0
abbrev pub last_number : List Kept → ℕ
last_number kept = option_map_or (λ k. k.number) (slice_get kept (length kept - 1)) 0

-- a number that the row at an index can keep next
abbrev pub may_keep : State → ℕ → ℕ → Bool
may_keep s k number =
    option_map_or (λ row. nat_lt (last_number row.kept) number && nat_le number row.committed)
    (slice_get s.outs k) false

-- the head of a row: one that follows the others
unfoldable pub head_at : State → Reading → Result (Row × Reading) EntryFault
head_at s r = do
  peer ← tested (λ k. nat_lt k (length s.peers)) u32_at r
  destination ← destination_at peer.1
  ordinal ← tested (nat_lt (last_ordinal s)) u32_at destination.1
  stamp ← u32_at ordinal.1
  committed ← within_at 0 MAX_ROLL stamp.1
  offered ← within_at 0 committed.0 committed.1
  acked ← within_at 0 offered.0 offered.1
  Ok (
    record {
      peer = peer.0;
      destination = destination.0;
      sequence = record { ordinal = ordinal.0; stamp = stamp.0 };
      committed = committed.0;
      offered = offered.0;
      acked = acked.0;
      kept = [];
    },
    acked.1,
  )

-- a row keeps a message more
abbrev pub keeping : Kept → Row → Row
keeping k row = record row { kept = row.kept ++ k ∷ [] }

-- the row at an index keeps a message more
abbrev pub with_kept : State → ℕ → Kept → State
with_kept s k kept = record s { outs = with_changed (keeping kept) s.outs k }

-- a row joins the others
abbrev pub with_row : State → Row → State
with_row s row = record s { outs = s.outs ++ row ∷ [] }

-- a message is kept by the row at an index
unfoldable pub kept_joined : ℕ → Parts → Reading → Result (Parts × Reading) EntryFault
kept_joined k p r = do
  number ← tested (may_keep p.state k) u32_at r
  transactional ← tested (λ flag. flag) flag_at number.1
  message ← own_at p TxAndSession true transactional.1
  Ok (
    record {
      state = with_kept p.state k (record { number = number.0; message = message.0 });
      numbers = p.numbers ++ message.0.id.number ∷ [];
    },
    message.1,
  )

-- a row, and the messages that it keeps
unfoldable pub row_joined : Parts → Reading → Result (Parts × Reading) EntryFault
row_joined p r = do
  head ← head_at p.state r
  list_joined (kept_joined (length p.state.outs))
      (record p { state = with_row p.state head.0 }) head.1

-- an incoming row of a source and a destination that no other one has
unfoldable pub source_at : State → Reading → Result (InRow × Reading) EntryFault
source_at s r = do
  source ← guid_at r
  destination ← tested
      (λ name. is_none (position (is_row_of source.0 name) s.ins)) destination_at source.1
  ordinal ← u32_at destination.1
  stamp ← u32_at ordinal.1
  last ← u32_at stamp.1
  Ok (
    record {
      source = source.0;
      destination = destination.0;
      sequence = record { ordinal = ordinal.0; stamp = stamp.0 };
      last = last.0;
    },
    last.1,
  )

unfoldable pub source_joined : Parts → Reading → Result (Parts × Reading) EntryFault
source_joined p r = do
  row ← source_at p.state r
  Ok (record p { state = record p.state { ins = p.state.ins ++ row.0 ∷ [] } }, row.1)

-- a next number above all numbers
abbrev pub is_next : List ℕ → ℕ → Bool
is_next numbers next =
    (nat_le 1 next && nat_le next (MAX_NUMBER + 1)) && list_all (λ n. nat_lt n next) numbers

-- a next ordinal above the last row's
abbrev pub is_next_ordinal : State → ℕ → Bool
is_next_ordinal s next = nat_lt (last_ordinal s) next && nat_le next (MAX_ORDINAL + 1)

-- the next number, the next ordinal, and the count at which a sequence is full
unfoldable pub counters_joined : Parts → Reading → Result (Parts × Reading) EntryFault
counters_joined p r = do
  number ← tested (is_next p.numbers) u32_at r
  ordinal ← tested (is_next_ordinal p.state) u32_at number.1
  roll ← within_at 1 MAX_ROLL ordinal.1
  Ok (
    record p {
      state = record p.state { next_number = number.0; next_ordinal = ordinal.0; roll = roll.0 };
    },
    roll.1,
  )

-- the parts behind the identity
unfoldable pub parts_joined : Parts → Reading → Result (Parts × Reading) EntryFault
parts_joined p r = do
  peers ← peers_joined p r
  queues ← queues_joined peers.0 peers.1
  places ← places_joined queues.0 queues.1
  plain ← each_joined (length places.0.state.plain) 0 waiting_joined places.0 places.1
  outs ← list_joined row_joined plain.0 plain.1
  ins ← list_joined source_joined outs.0 outs.1
  counters_joined ins.0 ins.1

-- the state that bytes are, or the first field outside the grammar: nothing follows a state
unfoldable pub state_of : List ℕ → Result State EntryFault
state_of bytes = do
  identity ← identity_at (start bytes)
  parts ← parts_joined (record { state = empty identity.0; numbers = [] }) identity.1
  if length (rest_of parts.1) == 0 then Ok parts.0.state else outside parts.1
