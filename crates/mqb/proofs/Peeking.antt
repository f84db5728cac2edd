-- How a peek ends: it is done or refused, or the store was not opened.
use Rattle.std.proofs.Common.{[], ◌∷◌, ◌⊎◌, ◌≡◌, inl, inr, List, None, Option, Some, ℕ}
use Rattle.mqb_base.specs.declared.ids.Identity.{Identity}
use Rattle.mqb_base.specs.declared.message.Message.{Message}
use Rattle.mqb_base.specs.declared.queues.EntryPlace.{EntryPlace}
use Rattle.mqb_base.specs.declared.queues.Place.{Place}
use Rattle.mqb_commands.specs.Peeked.{Peeks, TellsIfThere, TellsMessages}
use Rattle.mqb_commands.specs.Said.{FailsToOpen}
use Rattle.mqb_commands.specs.declared.status.Status.{Status}
use Rattle.mqb_commands.specs.declared.status.Status.TheVariants as status
use Rattle.mqb_outside.specs.Disk.{View}

abbrev pub IsAnswer : Status → Type 0
IsAnswer r = (r ≡ status.Done) ⊎ (r ≡ status.Refused)

messages_answer : (hosts : List Identity) (now : ℕ) (messages : List Message) (text : List ℕ) (r : Status) → TellsMessages hosts now messages text r → IsAnswer r
messages_answer hosts now [] text r told = inr told.0
messages_answer hosts now (m ∷ more) text r told = inl told.0

by_place : (r : Status) (tells : Option EntryPlace → Type 0) → (tells None → IsAnswer r) → ((at : EntryPlace) → tells (Some at) → IsAnswer r)
    → (place : Option EntryPlace) → tells place → IsAnswer r
by_place r tells none some None told = none told
by_place r tells none some (Some at) told = some at told

pub peek_answers : (place : Place) (count : ℕ) (steady : Option ℕ) (d e : View) (text : List ℕ) (r : Status) → Peeks place count steady d e text r
    → IsAnswer r ⊎ FailsToOpen d e text r
peek_answers place count steady d e text r peeks = elim peeks.peeked [
  | inl peeked ↦ inl (by_place r (λ at. TellsIfThere peeked.manager.store.state at count peeks.now text r) (λ told. inr told.0)
      (λ at told. messages_answer _ peeks.now told.taken text r told.told) _ peeked.told)
  | inr failed ↦ inr failed
]
