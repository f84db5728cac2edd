-- What waits until its time is over, and up to where none of it is due.
use Rattle.std.specs.Option.{option_map_or}
use Rattle.std.specs.Prelude.{[], ◌+◌, ◌≡◌, All, IfSome, List, Option, false, option_and_then}
use Rattle.std.specs.Prelude.{option_map, position, remove, slice_get, take, ℕ}
use Rattle.mqb_base.specs.declared.class.TheConstants.Class.{REACH_TIMEOUT}
use Rattle.mqb_base.specs.declared.ledger.Line.{Line}
use Rattle.mqb_base.specs.declared.ledger.Line.TheVariants as line
use Rattle.mqb_base.specs.declared.message.Lane.{Lane}
use Rattle.mqb_base.specs.declared.message.Message.{Message}
use Rattle.mqb_base.specs.declared.queues.EntryPlace.TheVariants as place
use Rattle.mqb_orders.specs.Rows.{Row}
use Rattle.mqb_orders.specs.declared.kept.Kept.{Kept}
use Rattle.mqb_plain.specs.Plain.{outgoing_in}
use Rattle.mqb_plain.specs.declared.outgoing.Outgoing.{Outgoing}
use Rattle.mqb_queue.specs.Lists.{messages_in}
use Rattle.mqb_queue.specs.Places.{lists_at}
use Rattle.mqb_contents.specs.Rows.{keeping, with_out}
use Rattle.mqb_model.specs.rules.Effects.{Effect, joined, with_line}
use Rattle.mqb_model.specs.rules.Notices.{meets}
use Rattle.mqb_model.specs.rules.Timeouts.{cannot_be_received, expires, expiring_in, lapses}
use Rattle.mqb_model.specs.rules.Timeouts.{lapsing_in, sweeping_in}
use Rattle.mqb_model.specs.state.Rows.{stream_of}
use Rattle.mqb_model.specs.state.State.{State}

-- the messages of a lane of the queue at an index
abbrev pub queued : Lane → State → ℕ → List Message
queued kind s k = option_map_or (messages_in kind) (lists_at s.places (place.Queue (k + 1))) []

-- the plain messages of a lane for the peer at an index
abbrev pub waiting : Lane → State → ℕ → List Outgoing
waiting kind s k = option_map_or (outgoing_in kind) (slice_get s.plain k) []

-- how many messages of a lane of the queue at an index are swept
abbrev pub swept_count : Lane → ℕ → State → ℕ → ℕ
swept_count kind now s k = option_map_or (sweeping_in kind now) (slice_get s.places.queues k) 0

-- how many plain messages of a lane for the peer at an index lapse
abbrev pub lapsed_count : Lane → ℕ → State → ℕ → ℕ
lapsed_count kind now s k = option_map_or (lapsing_in kind now) (slice_get s.plain k) 0

-- how many messages of the outgoing row at an index expire
abbrev pub expired_count : ℕ → State → ℕ → ℕ
expired_count now s k = option_map_or (expiring_in now) (slice_get s.outs k) 0

-- none of the first messages of the queue at an index is swept
abbrev pub NoneSwept : Lane → ℕ → State → ℕ → ℕ → Type 0
NoneSwept kind now s k count =
    All (λ m. cannot_be_received now m ≡ false) (take count (queued kind s k))

-- none of the first plain messages for the peer at an index lapses
abbrev pub NoneLapses : Lane → ℕ → State → ℕ → ℕ → Type 0
NoneLapses kind now s k count = All (λ o. lapses now o ≡ false) (take count (waiting kind s k))

-- none of the first messages of the outgoing row at an index expires
abbrev pub NoneExpires : ℕ → State → ℕ → ℕ → Type 0
NoneExpires now s k count =
    IfSome (slice_get s.outs k) (λ row. All (λ x. expires now row x ≡ false) (take count row.kept))

-- the message that the outgoing row at an index keeps at an index
abbrev pub kept_at : State → ℕ → ℕ → Option Kept
kept_at s k index = option_and_then (λ row. slice_get row.kept index) (slice_get s.outs k)

-- the line of it once it expires
abbrev pub expired_line : ℕ → State → ℕ → ℕ → Option Line
expired_line now s k index = option_and_then (λ row. option_map
    (λ kept. line.Expired (stream_of s row) kept.number kept.message.id now)
    (slice_get row.kept index)) (slice_get s.outs k)

-- a row without it
abbrev pub left_row : ℕ → Row → Row
left_row index row = keeping (remove row.kept index) row

-- where the next one stands that expires
abbrev pub expiring_index : ℕ → State → ℕ → Option ℕ
expiring_index now s k =
    option_and_then (λ row. position (expires now row) row.kept) (slice_get s.outs k)

-- this message of a row expires, which is at an index
abbrev pub kept_expired : ℕ → ℕ → ℕ → Effect → Row → Kept → Effect
kept_expired now k index e row kept =
    joined e (with_line (line.Expired (stream_of e.state row) kept.number kept.message.id now)
    (meets (with_out (left_row index) e.state k) kept.message REACH_TIMEOUT now))

-- the message at an index does, where it is there
abbrev pub expired_at : ℕ → ℕ → ℕ → Effect → Effect
expired_at now k index e = option_map_or
    (λ row. option_map_or (kept_expired now k index e row) (slice_get row.kept index) e)
    (slice_get e.state.outs k) e
