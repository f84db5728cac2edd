-- How a message is taken from its place.
use Rattle.std.specs.Option.{option_map_or}
use Rattle.std.specs.Prelude.{Option, if◌then◌else◌, option_and_then, slice_get, ℕ}
use Rattle.mqb_base.specs.declared.class.TheConstants.Class.{RECEIVED}
use Rattle.mqb_base.specs.declared.ids.MessageId.{MessageId}
use Rattle.mqb_base.specs.declared.ledger.Line.{Line}
use Rattle.mqb_base.specs.declared.ledger.Line.TheVariants as line
use Rattle.mqb_base.specs.declared.message.Lane.{Lane}
use Rattle.mqb_base.specs.declared.message.Lane.TheVariants as lane
use Rattle.mqb_base.specs.declared.message.Message.{Message}
use Rattle.mqb_base.specs.declared.queues.EntryPlace.{EntryPlace}
use Rattle.mqb_base.specs.declared.queues.EntryPlace.TheVariants as place
use Rattle.mqb_queue.specs.First.{index_named, is_queue}
use Rattle.mqb_queue.specs.Lists.{messages_in}
use Rattle.mqb_queue.specs.Places.{lists_at, numbered}
use Rattle.mqb_model.specs.rules.Effects.{Effect, joined, with_line}
use Rattle.mqb_model.specs.rules.Notices.{meets}
use Rattle.mqb_model.specs.state.Places.{put_at, without_at}
use Rattle.mqb_model.specs.state.State.{State}

-- the message of a lane of a place at an index
abbrev pub message_at : Lane → State → EntryPlace → ℕ → Option Message
message_at kind s at k =
    option_and_then (λ l. slice_get (messages_in kind l) k) (lists_at s.places at)

-- a queue that has a journal keeps a copy there
abbrev pub copied : State → ℕ → Message → State
copied s number m =
    option_map_or (λ q. if q.plan.journal then put_at s (place.JournalOf number) m else s)
    (numbered s.places.queues number) s

-- a message that was taken from a queue is copied and meets the class of a receipt
abbrev pub after_take : State → EntryPlace → Message → ℕ → State
after_take s (place.Queue number) m now = meets (copied s number m) m RECEIVED now
after_take s _ m now = s

-- the line of a message that is taken
abbrev pub take_line : EntryPlace → Message → Line
take_line at m = if is_queue at then line.Took m.id else line.Emptied m.id

-- the message of a lane at an index is taken
abbrev pub message_taken : Lane → EntryPlace → ℕ → ℕ → State → Message → Effect
message_taken kind at k now s m =
    with_line (take_line at m) (after_take (without_at kind s at k) at m now)

-- it is taken, where it is there
abbrev pub taken_at : Lane → EntryPlace → ℕ → ℕ → Effect → Effect
taken_at kind at k now e = option_map_or (λ m. joined e (message_taken kind at k now e.state m))
    (message_at kind e.state at k) e

-- the durable message that an identifier names is taken: of several the one that is first
abbrev pub taken : EntryPlace → MessageId → ℕ → Effect → Effect
taken at id now e = option_map_or (λ k. taken_at lane.Durable at k now e)
    (index_named e.state.places at id now) e
