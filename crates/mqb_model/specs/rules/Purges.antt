-- How a place is purged: its messages leave one after another, the oldest first, each
-- followed by its notices.
use Rattle.std.specs.Option.{option_map_or}
use Rattle.std.specs.Prelude.{if◌then◌else◌, length, ℕ}
use Rattle.mqb_base.specs.declared.class.TheConstants.Class.{QUEUE_PURGED}
use Rattle.mqb_base.specs.declared.ledger.Line.{Line}
use Rattle.mqb_base.specs.declared.ledger.Line.TheVariants as line
use Rattle.mqb_base.specs.declared.message.Lane.{Lane}
use Rattle.mqb_base.specs.declared.message.Message.{Message}
use Rattle.mqb_base.specs.declared.queues.EntryPlace.{EntryPlace}
use Rattle.mqb_queue.specs.First.{is_queue}
use Rattle.mqb_queue.specs.Lists.{messages_in}
use Rattle.mqb_queue.specs.Places.{lists_at}
use Rattle.mqb_model.specs.Loops.{repeated}
use Rattle.mqb_model.specs.rules.Effects.{Effect, joined, with_line}
use Rattle.mqb_model.specs.rules.Notices.{meets}
use Rattle.mqb_model.specs.rules.Takes.{message_at}
use Rattle.mqb_model.specs.state.Places.{without_at}
use Rattle.mqb_model.specs.state.State.{State}

-- a message that was purged from a queue meets the class of a purge
abbrev pub after_purge : State → EntryPlace → Message → ℕ → State
after_purge s at m now = if is_queue at then meets s m QUEUE_PURGED now else s

-- the line of a message that is purged
abbrev pub purge_line : EntryPlace → Message → Line
purge_line at m = if is_queue at then line.Purged m.id else line.Emptied m.id

-- the oldest message of a lane is purged
abbrev pub message_purged : Lane → EntryPlace → ℕ → State → Message → Effect
message_purged kind at now s m =
    with_line (purge_line at m) (after_purge (without_at kind s at 0) at m now)

-- it is purged, where there is one
abbrev pub oldest_purged : Lane → EntryPlace → ℕ → Effect → Effect
oldest_purged kind at now e = option_map_or (λ m. joined e (message_purged kind at now e.state m))
    (message_at kind e.state at 0) e

-- how many messages a lane of a place has
abbrev pub count_at : Lane → State → EntryPlace → ℕ
count_at kind s at = option_map_or (λ l. length (messages_in kind l)) (lists_at s.places at) 0

-- The messages that a lane of a place has now are purged. A notice that is put
-- there meanwhile stays.
abbrev pub purged : Lane → EntryPlace → ℕ → Effect → Effect
purged kind at now e = repeated (count_at kind e.state at) (oldest_purged kind at now) e
