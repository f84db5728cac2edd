-- What `peek` says of a place, and how it ends.
use Rattle.std.specs.List.{flat_map}
use Rattle.std.specs.Prelude.{[], ◌≡◌, ◌∷◌, ◌⊎◌, List, None, Option, Some, ℕ}
use Rattle.mqb_answers.specs.Texts.{hosts_of}
use Rattle.mqb_base.specs.declared.ids.Identity.{Identity}
use Rattle.mqb_base.specs.declared.message.Message.{Message}
use Rattle.mqb_base.specs.declared.queues.EntryPlace.{EntryPlace}
use Rattle.mqb_base.specs.declared.queues.Place.{Place}
use Rattle.mqb_answers.specs.mqb_manager.States.{ManagerState}
use Rattle.mqb_model.specs.state.State.{State}
use Rattle.mqb_outside.specs.Disk.{View}
use Rattle.mqb_queue.specs.First.{is_free}
use Rattle.mqb_queue.specs.Places.{Places, place_named}
use Rattle.mqb_store_laws.specs.Settling.{OnlySettles}
use Rattle.mqb_transcript.specs.Texts.{printed}
use Rattle.mqb_transcript.specs.declared.replies.Reply.{Reply}
use Rattle.mqb_transcript.specs.declared.replies.Reply.TheVariants as reply
use Rattle.mqb_commands.specs.Messages.{message_line}
use Rattle.mqb_commands.specs.Opened.{IsMoment, OpensAs}
use Rattle.mqb_commands.specs.Said.{FailsToOpen}
use Rattle.mqb_commands.specs.Turns.{TakenInTurn, held_at}
use Rattle.mqb_commands.specs.declared.status.Status.{Status}
use Rattle.mqb_commands.specs.declared.status.Status.TheVariants as status

-- it is refused, with the line that `take` answers
abbrev pub IsRefused : List Identity → Reply → List ℕ → Status → Type 0
IsRefused hosts why text r = (r ≡ status.Refused) × (text ≡ printed hosts None why)

-- a line for each message, or that there is none
abbrev pub TellsMessages : List Identity → (now : ℕ) → List Message → List ℕ → Status → Type 0
TellsMessages hosts now [] text r = IsRefused hosts (reply.QueueEmpty None) text r
TellsMessages hosts now (m ∷ more) text r =
    (r ≡ status.Done) × (text ≡ flat_map (message_line hosts now) (m ∷ more))

-- The messages of a place are told that would be taken one after another at a moment.
pub record TellsPlace (hosts : List Identity) (s : Places) (at : EntryPlace) (count now : ℕ)
    (text : List ℕ)
    (r : Status) : Type 0 where
  pub taken : List Message
  pub in_turn : TakenInTurn (is_free at now) count (held_at s at) taken
  pub told : TellsMessages hosts now taken text r

-- the place is there, or it is told that it is not
abbrev pub TellsIfThere : State → Option EntryPlace → (count now : ℕ) → List ℕ → Status → Type 0
TellsIfThere s None count now text r = IsRefused (hosts_of s) (reply.NoQueue None) text r
TellsIfThere s (Some at) count now text r = TellsPlace (hosts_of s) s.places at count now text r

-- what is told of a place by name
abbrev pub TellsFirst : State → Place → (count now : ℕ) → List ℕ → Status → Type 0
TellsFirst s place count now text r =
    TellsIfThere s (place_named s.places.queues place) count now text r

-- a manager that is open tells the first messages of a place, or memory ran out
abbrev pub PeeksOn : Place → (count now : ℕ) → ManagerState → List ℕ → Status → Type 0
PeeksOn place count now m text r =
    TellsFirst m.store.state place count now text r ⊎ ((r ≡ status.Memory) × (text ≡ []))

-- A store was opened and not written, and the first messages of a place are told.
pub record IsPeeked (place : Place) (count now : ℕ) (d e : View) (text : List ℕ)
    (r : Status) : Type 0 where
  pub manager : ManagerState
  pub opened : OpensAs d manager
  pub reads : OnlySettles d e
  pub told : TellsFirst manager.store.state place count now text r

-- `peek` at the moment of a clock
pub record Peeks (place : Place) (count : ℕ) (steady : Option ℕ) (d e : View) (text : List ℕ)
    (r : Status) : Type 0 where
  pub now : ℕ
  pub moment : IsMoment steady now
  pub peeked : IsPeeked place count now d e text r ⊎ FailsToOpen d e text r
