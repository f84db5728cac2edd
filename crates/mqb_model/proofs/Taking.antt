-- The record of a take fits: the message that is taken is the first with its identifier.
use Rattle.std.proofs.Common.{refl, ap, sym, subst, ◌∙◌, ◌⊎◌, inl, inr, length, arith}
use Rattle.std.proofs.lemmas.Bool.{cases_lt}
use Rattle.std.proofs.lemmas.Bool.Decides.{nat_tests}
use Rattle.std.proofs.lemmas.List.Quantifiers.{position-Some}
use Rattle.std.proofs.lemmas.Option.{get_or_from_slice_get}
use Rattle.std.specs.Option.{option_map_or}
use Rattle.std.specs.Prelude.{◌&&◌, ◌++◌, ◌-◌, ◌<◌, ◌==◌, ◌∷◌, ◌≡◌, ◌≤◌, [], Bool, Err, IfSome, IsSome, List, None, Option, Some, cond, false, filter, fold, map, max, nat_le, nat_lt, option_and_then, option_map, slice_get, suc, true, zero, ℕ}
use Rattle.mqb_base.specs.Same.{same_id}
use Rattle.mqb_base.specs.declared.message.Lane.{Lane}
use Rattle.mqb_base.specs.declared.message.Lane.TheVariants as lane
use Rattle.mqb_base.specs.declared.message.Message.{Message}
use Rattle.mqb_base.specs.declared.queues.EntryPlace.{EntryPlace}
use Rattle.mqb_queue.specs.First.{first_index, first_position, index_named, is_free, is_wanted, position_of, top_priority}
use Rattle.mqb_queue.specs.Lists.{Lists}
use Rattle.mqb_queue.specs.Places.{lists_at}
use Rattle.mqb_model.specs.calls.Take.{take_at, take_position, taking}
use Rattle.mqb_model.specs.declared.faults.TakeFault.TheVariants as fault
use Rattle.mqb_model.specs.laws.Fitting.{IsFitting}
use Rattle.mqb_model.specs.managers.Manager.{Manager}
use Rattle.mqb_model.specs.managers.Outcomes.{answering}
use Rattle.mqb_model.specs.rules.Takes.{message_at}
use Rattle.mqb_model.proofs.Linking.{itself, position_there, same_itself}
use Rattle.mqb_model.proofs.Members.{split_and}

-- The free message of the greatest priority.

-- the greatest priority, from this one on
abbrev pub top_from : (Message → Bool) → ℕ → List Message → ℕ
top_from free low held = fold max low (map (λ m. m.priority) (filter free held))

-- a free message that none is above
abbrev pub HasTop : (Message → Bool) → ℕ → List Message → Type 0
HasTop free top held = (k : ℕ) × (m : Message) × (slice_get held k ≡ Some m) × (free m ≡ true) × (top ≤ m.priority)

behind : (free : Message → Bool) (top : ℕ) (m : Message) (held : List Message) → HasTop free top held → HasTop free top (m ∷ held)
behind free top m held h = (suc h.0, h.1, h.2, h.3, h.4)

-- the greatest priority is that from which it began, or that of a free message
pub tops : (free : Message → Bool) (low : ℕ) (held : List Message) → (top_from free low held ≤ low) ⊎ HasTop free (top_from free low held) held
tops free low [] = inl (omega arith)
tops free low (m ∷ held) = at (free m) refl (tops free low held) (tops free (max low m.priority) held)
  where
    at : (b : Bool) → free m ≡ b → (top_from free low held ≤ low) ⊎ HasTop free (top_from free low held) held
        → (top_from free (max low m.priority) held ≤ max low m.priority) ⊎ HasTop free (top_from free (max low m.priority) held) held
        → (fold max low (map (λ m. m.priority) (cond b (m ∷ filter free held) (filter free held))) ≤ low)
        ⊎ HasTop free (fold max low (map (λ m. m.priority) (cond b (m ∷ filter free held) (filter free held)))) (m ∷ held)
    at false e (inl le) more = inl le
    at false e (inr h) more = inr (behind free (top_from free low held) m held h)
    at true e less (inr h) = inr (behind free (top_from free (max low m.priority) held) m held h)
    at true e less (inl le) = by (cases_lt low m.priority)
      where
        by : (low < m.priority) ⊎ (m.priority ≤ low) → (top_from free (max low m.priority) held ≤ low) ⊎ HasTop free (top_from free (max low m.priority) held) (m ∷ held)
        by (inl lt) = inr (0, m, refl, e, omega (arith, le, lt))
        by (inr ge) = inl (omega (arith, le, ge))

-- where some message is free, one is the first
first_there : (free : Message → Bool) (held : List Message) (k : ℕ) (m : Message) → slice_get held k ≡ Some m → free m ≡ true → IsSome (first_index free held)
first_there free held k m e f = by (tops free 0 held)
  where
    passes : Message → Bool
    passes o = free o && nat_le (top_priority free held) o.priority

    both : (o : Message) → free o ≡ true → top_priority free held ≤ o.priority → passes o ≡ true
    both o f le = ap (λ b. b && nat_le (top_priority free held) o.priority) f ∙ most (top_priority free held) o.priority le
      where
        most : (a b : ℕ) → a ≤ b → nat_le a b ≡ true
        most a b le = grind (arith, nat_tests)

    by : (top_from free 0 held ≤ 0) ⊎ HasTop free (top_from free 0 held) held → IsSome (first_index free held)
    by (inl none) = position_there passes held k m e (both m f (let least : top_priority free held ≤ 0 = none in omega arith))
    by (inr h) = position_there passes held h.0 h.1 h.2 (both h.1 h.3 h.4)

-- A message that is first is free.
pub first_free : (free : Message → Bool) (held : List Message) (k : ℕ) (m : Message) → first_index free held ≡ Some k → slice_get held k ≡ Some m → free m ≡ true
first_free free held k m found there = (split_and (free m) (nat_le (top_priority free held) m.priority)
    (subst (λ o. (free o && nat_le (top_priority free held) o.priority) ≡ true) (get_or_from_slice_get held k m m there)
    (position-Some (λ m. free m && nat_le (top_priority free held) m.priority) held k m found).1)).0

-- Of the durable messages and the express ones behind them those before the count of the durable ones are these.
front : (xs ys : List Message) (k : ℕ) (m : Message) → slice_get xs k ≡ Some m → slice_get (xs ++ ys) k ≡ Some m
front [] ys k m e = absurd (let none : ⊥ = cc in none)
front (x ∷ xs) ys zero m e = e
front (x ∷ xs) ys (suc k) m e = front xs ys k m e

-- The record of a take.

durable_fits : (m : Manager) (now : ℕ) (at : EntryPlace) (l : Lists) (k : ℕ) (message : Message) → lists_at m.state.places at ≡ Some l
    → first_index (is_free at now) (l.durable ++ l.express) ≡ Some k → slice_get l.durable k ≡ Some message
    → IsSome (index_named m.state.places at message.id now)
durable_fits m now at l k message there found e = subst (λ o. IsSome (option_and_then (λ l. first_index (is_wanted at now (Some message.id)) l.durable) o)) (sym there)
    (first_there (is_wanted at now (Some message.id)) l.durable k message e wanted)
  where
    free : is_free at now message ≡ true
    free = first_free (is_free at now) (l.durable ++ l.express) k message found (front l.durable l.express k message e)

    wanted : is_wanted at now (Some message.id) message ≡ true
    wanted = ap (λ b. b && same_id message.id message.id) free ∙ ap (λ b. b && message.id.number == message.id.number) (same_itself message.id.qm.0) ∙ itself message.id.number

pub taking_fits : (m : Manager) (now : ℕ) (at : EntryPlace) → IsFitting m (take_at m now at)
taking_fits m now at = by (lists_at m.state.places at) refl
  where
    answer : (kind : Lane) (k : ℕ) (o : Option Message) → (kind ≡ lane.Durable → IfSome o (λ message. IsSome (index_named m.state.places at message.id now)))
        → IsFitting m (option_map_or (taking m at now kind k) o (answering m (Err fault.QueueEmpty)))
    answer kind k None h = tt
    answer lane.Durable k (Some message) h = h refl
    answer lane.Express k (Some message) h = tt

    chosen : (l : Lists) → lists_at m.state.places at ≡ Some l → (o : Option ℕ) → first_index (is_free at now) (l.durable ++ l.express) ≡ o
        → IsFitting m (option_map_or (take_position m at now) (option_map (position_of l) o) (answering m (Err fault.QueueEmpty)))
    chosen l there None e = tt
    chosen l there (Some k) e = split (nat_lt k (length l.durable))
      where
        of : (o : Option Message) → slice_get l.durable k ≡ o → IfSome o (λ message. IsSome (index_named m.state.places at message.id now))
        of None g = tt
        of (Some message) g = durable_fits m now at l k message there e g

        split : (b : Bool) → IsFitting m (take_position m at now (cond b (record { lane = lane.Durable; index = k }) (record { lane = lane.Express; index = k - length l.durable })))
        split true = answer lane.Durable k (message_at lane.Durable m.state at k) (λ same. subst (λ o. IfSome (option_and_then (λ l. slice_get l.durable k) o) (λ message. IsSome (index_named m.state.places at message.id now)))
            (sym there) (of (slice_get l.durable k) refl))
        split false = answer lane.Express (k - length l.durable) (message_at lane.Express m.state at (k - length l.durable)) (λ other. absurd (let none : ⊥ = cc in none))

    by : (o : Option Lists) → lists_at m.state.places at ≡ o
        → IsFitting m (option_map_or (take_position m at now) (option_and_then (first_position (is_free at now)) o) (answering m (Err fault.QueueEmpty)))
    by None e = tt
    by (Some l) e = chosen l e (first_index (is_free at now) (l.durable ++ l.express)) refl
