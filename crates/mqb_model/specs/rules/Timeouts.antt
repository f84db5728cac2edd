-- How what is due leaves: one message after another, each followed by its notices.
use Rattle.std.specs.Option.{option_map_or}
use Rattle.std.specs.Prelude.{◌&&◌, ◌+◌, Bool, Option, count_by, length, nat_lt, position}
use Rattle.std.specs.Prelude.{slice_get, sum_by, ℕ}
use Rattle.mqb_base.specs.Times.{is_due}
use Rattle.mqb_base.specs.declared.class.TheConstants.Class.{REACH_TIMEOUT, RECEIVE_TIMEOUT}
use Rattle.mqb_base.specs.declared.ledger.Line.TheVariants as line
use Rattle.mqb_base.specs.declared.message.Lane.{Lane}
use Rattle.mqb_base.specs.declared.message.Lane.TheVariants as lane
use Rattle.mqb_base.specs.declared.message.Message.{Message}
use Rattle.mqb_base.specs.declared.queues.EntryPlace.TheVariants as place
use Rattle.mqb_orders.specs.Rows.{Row}
use Rattle.mqb_orders.specs.declared.kept.Kept.{Kept}
use Rattle.mqb_plain.specs.Plain.{PlainLists, outgoing_in, without}
use Rattle.mqb_plain.specs.declared.outgoing.Outgoing.{Outgoing}
use Rattle.mqb_queue.specs.Lists.{messages_in}
use Rattle.mqb_queue.specs.Places.{Queue}
use Rattle.mqb_model.specs.Lists.{first_where, with_changed, without_first}
use Rattle.mqb_model.specs.Loops.{for_each_below, repeated}
use Rattle.mqb_model.specs.rules.Effects.{Effect, joined, with_line}
use Rattle.mqb_model.specs.rules.Notices.{meets}
use Rattle.mqb_model.specs.state.Places.{with_plain, without_at}
use Rattle.mqb_model.specs.state.Rows.{stream_of}
use Rattle.mqb_model.specs.state.State.{State}

-- the time of a message to reach its queue is over
abbrev pub cannot_reach : ℕ → Message → Bool
cannot_reach now m = is_due m.sent m.reach now

-- its time to be received is over
abbrev pub cannot_be_received : ℕ → Message → Bool
cannot_be_received now m = is_due m.sent m.life now

-- Messages of sequences expire.

-- a kept message expires, unless it was offered
abbrev pub expires : ℕ → Row → Kept → Bool
expires now row k = nat_lt row.offered k.number && cannot_reach now k.message

-- the first message of a row that expires
abbrev pub expiring : ℕ → Row → Option Kept
expiring now row = first_where (expires now row) row.kept

-- it leaves the row
abbrev pub without_expired : ℕ → Row → Row
without_expired now row = record row { kept = without_first (expires now row) row.kept }

-- the row at an index is without it
abbrev pub with_expired : ℕ → State → ℕ → State
with_expired now s k = record s { outs = with_changed (without_expired now) s.outs k }

-- that message of the row at an index expires
abbrev pub message_expired : ℕ → ℕ → State → Row → Kept → Effect
message_expired now k s row kept =
    with_line (line.Expired (stream_of s row) kept.number kept.message.id now)
    (meets (with_expired now s k) kept.message REACH_TIMEOUT now)

-- the next message of the row at an index expires, where there is one
abbrev pub next_expired : ℕ → ℕ → Effect → Effect
next_expired now k e = option_map_or (λ row.
    option_map_or (λ kept. joined e (message_expired now k e.state row kept)) (expiring now row) e)
    (slice_get e.state.outs k) e

-- how many messages of a row expire
abbrev pub expiring_in : ℕ → Row → ℕ
expiring_in now row = count_by (expires now row) row.kept

-- the messages of the row at an index expire
abbrev pub row_expired : ℕ → ℕ → Effect → Effect
row_expired now k e =
    repeated (option_map_or (expiring_in now) (slice_get e.state.outs k) 0) (next_expired now k) e

-- Plain messages lapse.

-- a plain message lapses
abbrev pub lapses : ℕ → Outgoing → Bool
lapses now o = cannot_reach now o.message

-- the plain message of a lane for a peer at an index lapses
abbrev pub message_lapsed : Lane → ℕ → ℕ → ℕ → State → Message → Effect
message_lapsed kind now k index s m = with_line (line.Lapsed m.id)
    (meets (with_plain (without kind index) s k) m REACH_TIMEOUT now)

-- the index of the next plain message of a lane that lapses
abbrev pub lapsing : Lane → ℕ → PlainLists → Option ℕ
lapsing kind now p = position (lapses now) (outgoing_in kind p)

-- the next one for the peer at an index lapses, where there is one
abbrev pub next_lapsed : Lane → ℕ → ℕ → Effect → Effect
next_lapsed kind now k e = option_map_or (λ p. option_map_or (λ index.
    option_map_or (λ o. joined e (message_lapsed kind now k index e.state o.message))
    (slice_get (outgoing_in kind p) index) e)
    (lapsing kind now p) e) (slice_get e.state.plain k) e

-- how many plain messages of a lane lapse
abbrev pub lapsing_in : Lane → ℕ → PlainLists → ℕ
lapsing_in kind now p = count_by (lapses now) (outgoing_in kind p)

-- the plain messages of a lane for the peer at an index lapse
abbrev pub peer_lapsed : Lane → ℕ → ℕ → Effect → Effect
peer_lapsed kind now k e =
    repeated (option_map_or (lapsing_in kind now) (slice_get e.state.plain k) 0)
    (next_lapsed kind now k) e

-- Messages of queues are swept.

-- the message of a lane of a queue at an index is swept
abbrev pub message_swept : Lane → ℕ → ℕ → ℕ → State → Message → Effect
message_swept kind now number index s m = with_line (line.Swept m.id)
    (meets (without_at kind s (place.Queue number) index) m RECEIVE_TIMEOUT now)

-- the index of the next message of a lane that is swept
abbrev pub sweeping : Lane → ℕ → Queue → Option ℕ
sweeping kind now q = position (cannot_be_received now) (messages_in kind q.lists)

-- the next one of the queue at an index is swept, where there is one
abbrev pub next_swept : Lane → ℕ → ℕ → Effect → Effect
next_swept kind now k e = option_map_or (λ q. option_map_or (λ index.
    option_map_or (λ m. joined e (message_swept kind now (k + 1) index e.state m))
    (slice_get (messages_in kind q.lists) index) e)
    (sweeping kind now q) e) (slice_get e.state.places.queues k) e

-- how many messages of a lane of a queue are swept
abbrev pub sweeping_in : Lane → ℕ → Queue → ℕ
sweeping_in kind now q = count_by (cannot_be_received now) (messages_in kind q.lists)

-- the messages of a lane of the queue at an index are swept
abbrev pub queue_swept : Lane → ℕ → ℕ → Effect → Effect
queue_swept kind now k e =
    repeated (option_map_or (sweeping_in kind now) (slice_get e.state.places.queues k) 0)
    (next_swept kind now k) e

-- The whole tick.

-- the messages of all rows expire, row by row
abbrev pub rows_expired : ℕ → Effect → Effect
rows_expired now e = for_each_below (length e.state.outs) (row_expired now) e

-- plain messages of a lane lapse, peer by peer, and then messages of queues are
-- swept, queue by queue
abbrev pub lane_ticked : Lane → ℕ → Effect → Effect
lane_ticked kind now e = for_each_below (length e.state.places.queues) (queue_swept kind now)
    (for_each_below (length e.state.plain) (peer_lapsed kind now) e)

-- how many messages of a lane are due, those of sequences left aside
abbrev pub lane_due : Lane → State → ℕ → ℕ
lane_due kind s now =
    sum_by (lapsing_in kind now) s.plain + sum_by (sweeping_in kind now) s.places.queues

-- how many durable messages are due
abbrev pub durable_due : State → ℕ → ℕ
durable_due s now = sum_by (expiring_in now) s.outs + lane_due lane.Durable s now
