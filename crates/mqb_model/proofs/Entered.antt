-- What holds of the record of an outcome, where there is one.
use Rattle.std.specs.Option.{option_map_or}
use Rattle.std.specs.Prelude.{◌==◌, Bool, Err, IfSome, None, Option, Result, Some, cond, false, length, true, ℕ}
use Rattle.mqb_base.specs.declared.ids.MessageId.{MessageId}
use Rattle.mqb_base.specs.declared.message.Lane.{Lane}
use Rattle.mqb_base.specs.declared.message.Lane.TheVariants as lane
use Rattle.mqb_base.specs.declared.message.Message.{Message}
use Rattle.mqb_base.specs.declared.queues.EntryPlace.{EntryPlace}
use Rattle.mqb_base.specs.declared.queues.Place.{Place}
use Rattle.mqb_queue.specs.Places.{lists_at, place_named}
use Rattle.mqb_model.specs.calls.Purge.{purge, purge_at, purge_refusal, purging}
use Rattle.mqb_model.specs.calls.SetRoll.{store_refusal}
use Rattle.mqb_model.specs.calls.Take.{first_in, take_at, take_message, take_position, take_refusal, taking}
use Rattle.mqb_model.specs.calls.Tick.{tick, ticking}
use Rattle.mqb_model.specs.declared.faults.PurgeFault.TheVariants as purge_fault
use Rattle.mqb_model.specs.declared.faults.TakeFault.TheVariants as take_fault
use Rattle.mqb_model.specs.managers.Manager.{Manager}
use Rattle.mqb_model.specs.managers.Outcomes.{Outcome, answering, unless}
use Rattle.mqb_model.specs.records.Record as entry
use Rattle.mqb_model.specs.records.Record.{Record}
use Rattle.mqb_model.specs.rules.Takes.{message_at}
use Rattle.mqb_model.specs.rules.Timeouts.{durable_due}

abbrev Has : {A : Type 0} → (Record → Type 0) → Outcome A → Type 0
Has p outcome = IfSome outcome.entry p

pub unless_has : {V E : Type 0} (p : Record → Type 0) (m : Manager) (refusal : Option E) (outcome : Outcome (Result V E)) → Has p outcome → Has p (unless m refusal outcome)
unless_has p m (Some fault) outcome h = tt
unless_has p m None outcome h = h

or_has : {X A : Type 0} (p : Record → Type 0) (f : X → Outcome A) (o : Option X) (other : Outcome A) → ((x : X) → Has p (f x)) → Has p other → Has p (option_map_or f o other)
or_has p f None other some none = none
or_has p f (Some x) other some none = some x

either_has : (p : Record → Type 0) (b : Bool) (r : Record) → p r → IfSome (cond b None (Some r)) p
either_has p true r h = tt
either_has p false r h = h

taking_has : (p : Record → Type 0) (m : Manager) (at : EntryPlace) (now : ℕ) (kind : Lane) (k : ℕ) (message : Message) → p (entry.Taken now at message.id)
    → Has p (taking m at now kind k message)
taking_has p m at now lane.Durable k message h = h
taking_has p m at now lane.Express k message h = tt

pub take_has : (p : Record → Type 0) (m : Manager) (place : Place) (now : ℕ) → ((at : EntryPlace) (id : MessageId) → p (entry.Taken now at id)) → Has p (take_message m place now)
take_has p m place now h = unless_has p m (take_refusal m) (option_map_or (take_at m now) (place_named m.state.places.queues place) (answering m (Err take_fault.NoQueue)))
    (or_has p (take_at m now) (place_named m.state.places.queues place) (answering m (Err take_fault.NoQueue))
    (λ at. or_has p (take_position m at now) (first_in m.state at now) (answering m (Err take_fault.QueueEmpty))
    (λ q. or_has p (taking m at now q.lane q.index) (message_at q.lane m.state at q.index) (answering m (Err take_fault.QueueEmpty))
    (λ message. taking_has p m at now q.lane q.index message (h at message.id)) tt) tt) tt)

pub purge_has : (p : Record → Type 0) (m : Manager) (place : Place) (now : ℕ) → ((at : EntryPlace) → p (entry.Purged now at)) → Has p (purge m place now)
purge_has p m place now h = unless_has p m (purge_refusal m) (option_map_or (purge_at m now) (place_named m.state.places.queues place) (answering m (Err purge_fault.NoQueue)))
    (or_has p (purge_at m now) (place_named m.state.places.queues place) (answering m (Err purge_fault.NoQueue))
    (λ at. or_has p (purging m now at) (lists_at m.state.places at) (answering m (Err purge_fault.NoQueue)) (λ l. either_has p (length l.durable == 0) (entry.Purged now at) (h at)) tt) tt)

pub tick_has : (p : Record → Type 0) (m : Manager) (now : ℕ) → p (entry.Ticked now) → Has p (tick m now)
tick_has p m now h = unless_has p m (store_refusal m) (ticking m now) (either_has p (durable_due m.state now == 0) (entry.Ticked now) h)
