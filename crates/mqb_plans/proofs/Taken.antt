-- A take of a message that is there.
use Rattle.std.proofs.Common.{◌≡◌, ◌∙◌, ◌<◌, ℕ, Bool, false, List, [], ◌∷◌, Option, None, Some, Result, Err, length, get_or, refl, sym, ap, subst, arith}
use Rattle.std.proofs.lemmas.Option.{slice_get-get_or}
use Rattle.std.specs.Option.{option_map_or}
use Rattle.std.specs.Prelude.{IsOk, IsSomeAnd, if◌then◌else◌, option_and_then, slice_get}
use Rattle.mqb_base.specs.declared.message.Lane.{Lane}
use Rattle.mqb_base.specs.declared.message.Lane.TheVariants as lane
use Rattle.mqb_base.specs.declared.message.Message.{Message}
use Rattle.mqb_base.specs.declared.queues.EntryPlace.{EntryPlace}
use Rattle.mqb_base.specs.declared.queues.Place.{Place}
use Rattle.mqb_queue.specs.Lists.{Lists, messages_in}
use Rattle.mqb_queue.specs.Places.{lists_at, place_named}
use Rattle.mqb_queue.specs.declared.first.Position.{Position}
use Rattle.mqb_model.specs.calls.Take.{first_in, take_at, take_message, take_position, taking}
use Rattle.mqb_model.specs.declared.faults.TakeFault.{TakeFault}
use Rattle.mqb_model.specs.declared.faults.TakeFault.TheVariants as fault
use Rattle.mqb_model.specs.managers.Manager.{Manager, is_down}
use Rattle.mqb_model.specs.managers.Outcomes.{Outcome, answering, unless}
use Rattle.mqb_model.specs.state.State.{State}
use Rattle.mqb_plans.specs.Plans.{OfManagers}

-- a list has a message at each index within it
abbrev IsWithin : Position → Lists → Type 0
IsWithin p l = p.index < length (messages_in p.lane l)

module _ (m : Manager) (at : EntryPlace) (now : ℕ) where
  answered : (of : Lane) (k : ℕ) (message : Message) → IsOk (taking m at now of k message).answer
  answered lane.Durable k message = refl
  answered lane.Express k message = refl

  abbrev taken_of : Position → Option Message → Outcome (Result Message TakeFault)
  taken_of p found = option_map_or (taking m at now p.lane p.index) found (answering m (Err fault.QueueEmpty))

  of_list : (p : Position) (ms : List Message) → p.index < length ms → IsOk (taken_of p (slice_get ms p.index)).answer
  of_list p [] within = absurd (omega arith)
  of_list p (x ∷ ms) within = subst (λ (found : Option Message). IsOk (taken_of p found).answer) (sym (slice_get-get_or (x ∷ ms) p.index x within))
      (answered p.lane p.index (get_or (x ∷ ms) p.index x))

  of_place : (p : Position) (l : Option Lists) → IsSomeAnd l (IsWithin p) → IsOk (taken_of p (option_and_then (λ l. slice_get (messages_in p.lane l) p.index) l)).answer
  of_place p None within = absurd within
  of_place p (Some l) within = of_list p (messages_in p.lane l) within

-- the manager that takes it is up
by_manager : (m : Manager) (place : Place) (now : ℕ) (at : EntryPlace) (p : Position) → is_down m ≡ false → place_named m.state.places.queues place ≡ Some at
    → first_in m.state at now ≡ Some p → IsSomeAnd (lists_at m.state.places at) (IsWithin p) → IsOk (take_message m place now).answer
by_manager m place now at p up named first within =
    subst (λ (o : Outcome (Result Message TakeFault)). IsOk o.answer) (sym comes) (of_place m at now p (lists_at m.state.places at) within)
  where
    comes : take_message m place now ≡ take_position m at now p
    comes =
        ap (λ (b : Bool). unless m (if b then Some fault.Down else None)
        (option_map_or (take_at m now) (place_named m.state.places.queues place) (answering m (Err fault.NoQueue)))) up
        ∙ ap (λ (o : Option EntryPlace). option_map_or (take_at m now) o (answering m (Err fault.NoQueue))) named
        ∙ ap (λ (o : Option Position). option_map_or (take_position m at now) o (answering m (Err fault.QueueEmpty))) first

-- It is answered, where its place is there and the first message of that stands within its list.
pub take_found : (s : State) (place : Place) (now : ℕ) (at : EntryPlace) (p : Position) → place_named s.places.queues place ≡ Some at → first_in s at now ≡ Some p
    → IsSomeAnd (lists_at s.places at) (IsWithin p) → OfManagers s (λ m. IsOk (take_message m place now).answer)
take_found s place now at p named first within = λ m same up.
    by_manager m place now at p up (ap (λ (t : State). place_named t.places.queues place) same ∙ named) (ap (λ (t : State). first_in t at now) same ∙ first)
    (subst (λ (t : State). IsSomeAnd (lists_at t.places at) (IsWithin p)) (sym same) within)
