-- Which message of a place is taken first.
use Rattle.std.specs.Prelude.{◌≡◌, ℕ, ◌<◌, ◌≤◌, ◌-◌, Bool, true, false, not, nat_lt, nat_le, ◌&&◌}
use Rattle.std.specs.Prelude.{max, List, ◌∷◌, ◌++◌, All, length, filter, fold, map, position}
use Rattle.std.specs.Prelude.{slice_get, Option, Some, None, option_map}
use Rattle.std.specs.Prelude.{option_and_then, if◌then◌else◌}
use Rattle.mqb_base.specs.declared.ids.MessageId.{MessageId}
use Rattle.mqb_base.specs.declared.message.Lane.TheVariants as lane
use Rattle.mqb_base.specs.declared.message.Message.{Message}
use Rattle.mqb_base.specs.declared.queues.EntryPlace.{EntryPlace}
use Rattle.mqb_base.specs.declared.queues.EntryPlace.TheVariants as entry
use Rattle.mqb_base.specs.declared.queues.Place.{Place}
use Rattle.mqb_base.specs.Same.{same_id}
use Rattle.mqb_base.specs.Times.{is_due}
use Rattle.mqb_queue.specs.declared.first.Position.{Position}
use Rattle.mqb_queue.specs.Lists.{Lists}
use Rattle.mqb_queue.specs.Places.{Places, lists_at, place_named}

-- a queue, and neither a journal nor a dead-letter queue
abbrev pub is_queue : EntryPlace → Bool
is_queue (entry.Queue number) = true
is_queue _ = false

-- a message of a place can be taken: it is not due, but in a journal or a dead-letter queue none is
abbrev pub is_free : EntryPlace → ℕ → Message → Bool
is_free at now m = not (is_queue at && is_due m.sent m.life now)

-- a message that can be taken and has this identifier, where one is asked for
abbrev pub is_wanted : EntryPlace → ℕ → Option MessageId → Message → Bool
is_wanted at now None m = is_free at now m
is_wanted at now (Some id) m = is_free at now m && same_id m.id id

-- the greatest priority of the messages that are free
abbrev pub top_priority : (Message → Bool) → List Message → ℕ
top_priority free held = fold max 0 (map (λ m. m.priority) (filter free held))

-- where the first message stands: the oldest free one than which no free one has a greater priority
abbrev pub first_index : (Message → Bool) → List Message → Option ℕ
first_index free held = position (λ m. free m && nat_le (top_priority free held) m.priority) held

-- that message
abbrev pub first_of : (Message → Bool) → List Message → Option Message
first_of free held = option_and_then (slice_get held) (first_index free held)

-- the first message of a place: of equal priority durable ones go before express ones
abbrev pub first_at : Places → EntryPlace → ℕ → Option Message
first_at s at now =
    option_and_then (λ l. first_of (is_wanted at now None) (l.durable ++ l.express)) (lists_at s at)

-- the first message of a place by name
abbrev pub first_named : Places → Place → ℕ → Option Message
first_named s p now = option_and_then (λ at. first_at s at now) (place_named s.queues p)

-- the lane and the index of the k-th message of a place, durable ones before express ones
abbrev pub position_of : Lists → ℕ → Position
position_of l k = if nat_lt k (length l.durable)
    then record { lane = lane.Durable; index = k }
    else record { lane = lane.Express; index = k - length l.durable }

-- where the first message of a place stands
abbrev pub first_position : (Message → Bool) → Lists → Option Position
first_position free l = option_map (position_of l) (first_index free (l.durable ++ l.express))

-- where the durable message of a place stands that an identifier names: of several
-- the one that is first
abbrev pub index_named : Places → EntryPlace → MessageId → ℕ → Option ℕ
index_named s at id now =
    option_and_then (λ l. first_index (is_wanted at now (Some id)) l.durable) (lists_at s at)

-- A message stands between others and is the first of them: it is free, each free one before it has
-- a lesser priority, and each free one behind it no greater priority.
pub record IsFirst (free : Message → Bool) (before : List Message) (first : Message)
    (behind : List Message) : Type 0 where
  pub first_is_free : free first ≡ true
  pub before_lower : All (λ m. free m ≡ true → m.priority < first.priority) before
  pub behind_no_higher : All (λ m. free m ≡ true → m.priority ≤ first.priority) behind

-- the first message of a list, where one is free
abbrev pub First : (Message → Bool) → List Message → Option Message → Type 0
First free held None = All (λ m. free m ≡ false) held
First free held (Some first) = (before : List Message) × (behind : List Message) ×
    (held ≡ before ++ first ∷ behind) × IsFirst free before first behind
