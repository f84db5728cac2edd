-- Which states are valid.
use Rattle.std.specs.List.{list_any}
use Rattle.std.specs.Prelude.{[], ◌++◌, ◌+◌, ◌<◌, ◌||◌, ◌∷◌, ◌≡◌, ◌≤◌, All, AllPairs, Bool, IfSome}
use Rattle.std.specs.Prelude.{IsTrue, List, false, flat_map, length, map, true, ℕ}
use Rattle.mqb_base.specs.Messages.{IsWellFormed}
use Rattle.mqb_base.specs.QueueNames.{names_queue}
use Rattle.mqb_base.specs.Same.{same_guid, same_id}
use Rattle.mqb_base.specs.declared.ids.Guid.{Guid}
use Rattle.mqb_base.specs.declared.ids.Identity.{Identity}
use Rattle.mqb_base.specs.declared.message.Message.{Message}
use Rattle.mqb_fate.specs.Asking.{is_transactional}
use Rattle.mqb_fate.specs.Orders.{is_order_name}
use Rattle.mqb_packet.specs.mqb_names.Values.{IsName, IsQueueName}
use Rattle.mqb_orders.specs.KeptLists.{Rises}
use Rattle.mqb_orders.specs.Rows.{Row}
use Rattle.mqb_orders.specs.declared.kept.Kept.{Kept}
use Rattle.mqb_packet.specs.declared.packet.Headers.{Headers}
use Rattle.mqb_packet.specs.declared.packet.Headers.TheVariants as headers
use Rattle.mqb_plain.specs.Lists.{messages_of}
use Rattle.mqb_queue.specs.Places.{Queue}
use Rattle.mqb_model.specs.declared.limits.TheConstants.{MAX_NUMBER, MAX_ORDINAL, MAX_PEERS}
use Rattle.mqb_model.specs.declared.limits.TheConstants.{MAX_QUEUES, MAX_ROLL}
use Rattle.mqb_model.specs.records.Applying.{is_roll}
use Rattle.mqb_model.specs.records.Packets.{is_recoverable, is_too_large}
use Rattle.mqb_model.specs.records.Peer.{is_met, is_taken_by}
use Rattle.mqb_model.specs.state.Places.{is_express}
use Rattle.mqb_model.specs.state.Rows.{is_row_of}
use Rattle.mqb_model.specs.state.State.{State}

-- each member is new beside those before it
abbrev pub AreNew : {X : Type 0} → (List X → X → Bool) → List X → List X → Type 0
AreNew there before [] = Unit {0}
AreNew there before (x ∷ xs) = (there before x ≡ false) × AreNew there (before ++ x ∷ []) xs

-- some manager has the same GUID or host
abbrev pub met_among : List Identity → Identity → Bool
met_among known identity = list_any (λ k. is_met k identity) known

-- a queue's name is the order layer's or another's, or its GUID is another's
abbrev pub taken_among : List Queue → Queue → Bool
taken_among queues q = is_order_name q.plan.name || list_any (is_taken_by q.plan) queues

-- a kept message has a number of its row, and is transactional
pub record IsKeptBy (row : Row) (k : Kept) : Type 0 where
  pub first : 1 ≤ k.number
  pub last : k.number ≤ row.committed
  pub transactional : is_transactional k.message.delivery ≡ true

-- an outgoing row to one of so many peers, whose numbers are in order
pub record IsInOrder (peers : ℕ) (row : Row) : Type 0 where
  pub peer : row.peer < peers
  pub acked : row.acked ≤ row.offered
  pub offered : row.offered ≤ row.committed
  pub committed : row.committed ≤ MAX_ROLL
  pub rises : Rises row.kept
  pub kept : All (IsKeptBy row) row.kept

-- a row has an ordinal that was given, where this one is the next
pub record IsGivenOrdinal (next : ℕ) (row : Row) : Type 0 where
  pub first : 1 ≤ row.sequence.ordinal
  pub below : row.sequence.ordinal < next

-- the messages that rows keep
abbrev pub kept_messages : State → List Message
kept_messages s = flat_map (λ row. map (λ k. k.message) row.kept) s.outs

-- the recoverable messages for peers
abbrev pub recoverable_messages : State → List Message
recoverable_messages s = flat_map (λ p. messages_of p.recoverable) s.plain

-- the durable messages of all places
abbrev pub placed_messages : State → List Message
placed_messages s = flat_map (λ q. q.lists.durable ++ q.journal.durable) s.places.queues
    ++ s.places.dead.durable ++ s.places.dead_xact.durable ++ s.places.journal.durable

-- the names that a message bears are names of their types
pub record IsNamed (m : Message) : Type 0 where
  pub destination : IsQueueName m.destination
  pub admin : IfSome m.admin IsQueueName
  pub response : IfSome m.response IsQueueName

-- a message can be carried in a packet with these headers
pub record IsCarried (beside : Headers) (m : Message) : Type 0 where
  pub well_formed : IsWellFormed m
  pub named : IsNamed m
  pub size : is_too_large beside m ≡ false

-- a message of the manager with this GUID, and a number that was given, where this one is the next
pub record IsOwn (own : Guid) (next : ℕ) (m : Message) : Type 0 where
  pub source : same_guid m.id.qm own ≡ true
  pub number : m.id.number < next

-- a state is set to what a manager can be set to
abbrev pub AreSettings : State → Type 0
AreSettings s = is_roll s.roll ≡ true

-- A valid state, point by point.
pub record IsValidState (s : State) : Type 0 where
  -- few peers and queues, of which none repeats another, and plain lists for each peer
  pub few_peers : length s.peers ≤ MAX_PEERS
  pub few_queues : length s.places.queues ≤ MAX_QUEUES
  pub peers_differ : AreNew met_among (s.identity ∷ []) s.peers
  pub queues_differ : AreNew taken_among [] s.places.queues
  pub plain_lists : length s.plain ≡ length s.peers
  -- the hosts of peers are names
  pub hosts : All (λ p. IsName p.host) s.peers
  -- ordinals rise from row to row
  pub ordinals_rise : AllPairs (λ a b. a.sequence.ordinal < b.sequence.ordinal) s.outs
  pub ordinals_given : All (IsGivenOrdinal s.next_ordinal) s.outs
  -- the numbers of rows are in order
  pub rows : All (IsInOrder (length s.peers)) s.outs
  -- one incoming row for each source and destination
  pub sources_differ : AllPairs (λ a b. is_row_of a.source a.destination b ≡ false) s.ins
  -- the destinations of rows name queues
  pub outs_to_queues : All (λ row. IsTrue (names_queue row.destination)) s.outs
  pub ins_to_queues : All (λ row. IsTrue (names_queue row.destination)) s.ins
  -- messages can be carried: kept ones in a transaction, plain ones in a session
  pub kept : All (IsCarried headers.TxAndSession) (kept_messages s)
  pub plain : All (IsCarried headers.Session) (recoverable_messages s)
  pub placed : All (IsCarried headers.Bare) (placed_messages s)
  -- plain durable messages are recoverable, and none of a place is express
  pub recoverable : All (λ m. is_recoverable m.delivery ≡ true) (recoverable_messages s)
  pub durable : All (λ m. is_express m.delivery ≡ false) (placed_messages s)
  -- numbers are left, or just used up
  pub next_number : (1 ≤ s.next_number) × (s.next_number ≤ MAX_NUMBER + 1)
  pub next_ordinal : (1 ≤ s.next_ordinal) × (s.next_ordinal ≤ MAX_ORDINAL + 1)
  pub settings : AreSettings s
  -- identifiers are the manager's own, and differ
  pub own : All (IsOwn s.identity.guid s.next_number) (kept_messages s ++ recoverable_messages s)
  pub ids_differ :
      AllPairs (λ a b. same_id a.id b.id ≡ false) (kept_messages s ++ recoverable_messages s)
