-- Messages that are taken one after another.
use Rattle.std.specs.List.{flat_map}
use Rattle.std.specs.Option.{option_map_or}
use Rattle.std.specs.Prelude.{[], ◌++◌, ◌-◌, ◌==◌, ◌&&◌, ◌≡◌, ◌∷◌, Bool, List, None, filter, length}
use Rattle.std.specs.Prelude.{suc, take, zero, ℕ}
use Rattle.mqb_base.specs.declared.message.Message.{Message}
use Rattle.mqb_base.specs.declared.queues.EntryPlace.{EntryPlace}
use Rattle.mqb_queue.specs.First.{First, IsFirst, is_free}
use Rattle.mqb_queue.specs.Places.{Places, lists_at}
use Rattle.mqb_transcript.specs.Printing.{Page, wrote}
use Rattle.mqb_commands.specs.Messages.{message_line}

-- the messages of a place, durable ones before express ones
abbrev pub held_at : Places → EntryPlace → List Message
held_at s at = option_map_or (λ l. l.durable ++ l.express) (lists_at s at) []

-- a message that can be taken, of this priority
abbrev pub is_free_of : EntryPlace → (now priority : ℕ) → Message → Bool
is_free_of at now priority m = is_free at now m && m.priority == priority

-- Messages are taken one after another, as many as are asked for, or until none is left that is
-- free. Each is the first of what those before it leave.
abbrev pub TakenInTurn : (Message → Bool) → (count : ℕ) → (held taken : List Message) → Type 0
TakenInTurn free zero held taken = taken ≡ []
TakenInTurn free (suc count) held [] = First free held None
TakenInTurn free (suc count) held (first ∷ more) =
    (before : List Message) × (behind : List Message) ×
    (held ≡ before ++ first ∷ behind) × IsFirst free before first behind
    × TakenInTurn free count (before ++ behind) more

-- The lines of the messages of a priority were put on a page, at most so many, and so
-- many more there may be.
pub record PutsFree (at : EntryPlace) (now priority count : ℕ) (held : List Message)
    (before after : Page)
    (more : ℕ) : Type 0 where
  pub put : after ≡ wrote before (flat_map (message_line before.hosts now)
      (take count (filter (is_free_of at now priority) held)))
  pub left : more ≡ count - length (filter (is_free_of at now priority) held)

-- The lines of the messages that would be taken one after another were put on a page.
pub record PutsTaken (at : EntryPlace) (count now : ℕ) (held : List Message)
    (before after : Page) : Type 0 where
  pub taken : List Message
  pub in_turn : TakenInTurn (is_free at now) count held taken
  pub put : after ≡ wrote before (flat_map (message_line before.hosts now) taken)
