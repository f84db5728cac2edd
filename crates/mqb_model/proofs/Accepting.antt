-- States stand where a manager's own plain message is sent, and where a message arrives and is put or refused.
use Rattle.std.proofs.Common.{refl, ap, sym, subst, ◌∙◌, arith}
use Rattle.std.proofs.lemmas.Bool.Decides.{nat_tests}
use Rattle.std.specs.Option.{option_map_or}
use Rattle.std.specs.Prelude.{◌&&◌, ◌==◌, ◌≡◌, ◌≤◌, Bool, IfSome, IsTrue, None, Option, Some, cond, false, is_none, nat_le, not, true, ℕ}
use Rattle.mqb_base.specs.Bits.{keeps_copy}
use Rattle.mqb_base.specs.Classes.{is_class}
use Rattle.mqb_base.specs.Lanes.{lane_of}
use Rattle.mqb_base.specs.Same.{same_guid}
use Rattle.mqb_base.specs.declared.class.Class.{Class}
use Rattle.mqb_base.specs.declared.class.TheConstants.Class.{BAD_DESTINATION, MESSAGE_NOT_TRANSACTIONAL, QUEUE_NOT_TRANSACTIONAL, QUOTA_EXCEEDED, REACHED_QUEUE, REACH_TIMEOUT}
use Rattle.mqb_base.specs.declared.ids.Guid.{Guid}
use Rattle.mqb_base.specs.declared.ids.MessageId.{MessageId}
use Rattle.mqb_base.specs.declared.message.Delivery.{Delivery}
use Rattle.mqb_base.specs.declared.message.Delivery.TheVariants as delivery
use Rattle.mqb_base.specs.declared.message.Message.{Message}
use Rattle.mqb_base.specs.declared.queues.EntryPlace.TheVariants as place
use Rattle.mqb_base.specs.declared.queues.QueuePlan.{QueuePlan}
use Rattle.mqb_fate.specs.Asking.{is_transactional}
use Rattle.mqb_packet.specs.declared.packet.Headers.TheVariants as headers
use Rattle.mqb_packet.specs.declared.packet.UserPacket.{UserPacket}
use Rattle.mqb_plain.specs.Plain.{pushed}
use Rattle.mqb_queue.specs.Arrival.{length_met, queue_refusal}
use Rattle.mqb_queue.specs.Places.{Queue, numbered}
use Rattle.mqb_model.specs.declared.limits.TheConstants.{MAX_NUMBER}
use Rattle.mqb_model.specs.declared.target.Target.{Target}
use Rattle.mqb_model.specs.declared.target.Target.TheVariants.{AtPeer, Here, Nowhere}
use Rattle.mqb_model.specs.laws.Keeping.{SentIsValid}
use Rattle.mqb_model.specs.records.Decisions.{message_stored}
use Rattle.mqb_model.specs.records.Packets.{is_own_packet, is_recoverable, is_too_large}
use Rattle.mqb_model.specs.rules.Arrivals.{is_recorded, refusal_by, refusal_of, storing_refusal, target_refusal}
use Rattle.mqb_model.specs.rules.Notices.{arrived, meets}
use Rattle.mqb_model.specs.rules.Numbers.{is_numbered, numbers_taken, own_id}
use Rattle.mqb_model.specs.rules.Sends.{delivered, journalled}
use Rattle.mqb_model.specs.state.Places.{placed, put_at, with_plain}
use Rattle.mqb_model.specs.state.Resolving.{guid_at, is_for_order_layer, is_found, resolved}
use Rattle.mqb_model.specs.state.State.{State}
use Rattle.mqb_model.specs.state.Valid.{IsCarried}
use Rattle.mqb_model.proofs.Departing.{valid_stands}
use Rattle.mqb_model.proofs.Followed.{meets_stands, next_is_fresh}
use Rattle.mqb_model.proofs.Holding.{not_express}
use Rattle.mqb_model.proofs.Members.{not_true, split_and}
use Rattle.mqb_model.proofs.Names.{same_guid_is}
use Rattle.mqb_model.proofs.Remaining.{IsFresh, IsPlaced, Stands, number_stands, pushed_stands, put_stands}

-- Sends.

pub journalled_stands : (whose : Guid) (low high : ℕ) (s : State) (m : Message) → IsPlaced m → Stands whose low high s → Stands whose low high (journalled s m)
journalled_stands whose low high s m p h = at (keeps_copy m)
  where
    at : (b : Bool) → Stands whose low high (cond b (put_at s place.Journal m) s)
    at true = put_stands whose low high s place.Journal m p h
    at false = h

pub journalled_fresh : (whose : Guid) (low high : ℕ) (s : State) (m : Message) → IsFresh whose low high s m → IsFresh whose low high (journalled s m) m
journalled_fresh whose low high s m f = at (keeps_copy m)
  where
    at : (b : Bool) → IsFresh whose low high (cond b (put_at s place.Journal m) s) m
    at true = record { own = f.own; before = f.before; behind = f.behind; apart = f.apart }
    at false = f

-- a message that is put here, or goes nowhere, meets the class of that
pub here_stands : (whose : Guid) (low high : ℕ) (s : State) (queue : Option ℕ) (m : Message) (now : ℕ) → IsPlaced m → Stands whose low high s → Stands whose low high (delivered s (Here queue) m now)
here_stands whose low high s None m now p h = meets_stands whose low high s m REACHED_QUEUE now p refl h
here_stands whose low high s (Some number) m now p h = meets_stands whose low high (put_at s (place.Queue number) m) m REACHED_QUEUE now p refl
    (put_stands whose low high s (place.Queue number) m p h)

pub delivered_stands : (whose : Guid) (low high : ℕ) (s : State) (t : Target) (m : Message) (now : ℕ) → IsPlaced m → IsCarried headers.Session m → is_recoverable m.delivery ≡ true
    → IsFresh whose low high s m → Stands whose low high s → Stands whose low high (delivered s t m now)
delivered_stands whose low high s (Here queue) m now p c r f h = here_stands whose low high s queue m now p h
delivered_stands whose low high s Nowhere m now p c r f h = meets_stands whose low high s m REACHED_QUEUE now p refl h
delivered_stands whose low high s (AtPeer k) m now p c r f h = by m.delivery r
  where
    by : (x : Delivery) → is_recoverable x ≡ true → Stands whose low high (with_plain (pushed (lane_of x) m) s k)
    by delivery.Express e = absurd (let none : ⊥ = cc in none)
    by delivery.Recoverable e = pushed_stands whose low high s k m c r f h
    by delivery.Transactional e = pushed_stands whose low high s k m c r f h

same_number : (a b : ℕ) → (a == b) ≡ true → a ≡ b
same_number a b h = grind (arith, nat_tests)

at_most : (a b : ℕ) → nat_le a b ≡ true → a ≤ b
at_most a b h = grind (arith, nat_tests)

-- an identifier that tests as the manager's own of a number is
pub own_is : (s : State) (number : ℕ) (m : Message) → is_numbered s number m ≡ true → m.id ≡ own_id s number
own_is s number m h = let both = split_and (same_guid m.id.qm s.identity.guid) (m.id.number == number) h in
    ap (λ guid. with_guid guid) (same_guid_is m.id.qm s.identity.guid both.0) ∙ ap (λ n. with_number n) (same_number m.id.number number both.1)
  where
    with_guid : Guid → MessageId
    with_guid guid = record { qm = guid; number = m.id.number }

    with_number : ℕ → MessageId
    with_number n = record { qm = s.identity.guid; number = n }

-- what a packet of the manager's own says
pub record IsOwnPacket (s : State) (number : ℕ) (p : UserPacket) : Type 0 where
  pub own : p.message.id ≡ own_id s number
  pub left : number ≤ MAX_NUMBER
  pub recoverable : is_recoverable p.message.delivery ≡ true

pub own_packet : (s : State) (number : ℕ) (p : UserPacket) → is_own_packet s number p ≡ true → IsOwnPacket s number p
own_packet s number p h =
    let one = is_numbered s number p.message in let two = nat_le number MAX_NUMBER in let three = is_recoverable p.message.delivery in
    let four = is_none p.tx in let five = is_none p.session in let six = is_found (resolved s p.message.destination) in
    let seven = same_guid p.to (guid_at s (resolved s p.message.destination)) in
    let a = split_and (((((one && two) && three) && four) && five) && six) seven h in
    let b = split_and ((((one && two) && three) && four) && five) six a.0 in
    let c = split_and (((one && two) && three) && four) five b.0 in
    let d = split_and ((one && two) && three) four c.0 in
    let e = split_and (one && two) three d.0 in
    let f = split_and one two e.0 in
    record { own = own_is s number p.message f.0; left = at_most number MAX_NUMBER f.1; recoverable = e.1 }

pub sent_is_valid : SentIsValid
sent_is_valid s now p v told f = (delivered_stands s.identity.guid 0 0 (journalled after m) (resolved after m.destination) m now is_placed carried own.recoverable
    (journalled_fresh s.identity.guid 0 0 after m (next_is_fresh s.identity.guid 0 0 s m own.own stands)) (journalled_stands s.identity.guid 0 0 after m is_placed (number_stands s.identity.guid 0 0 s own.left stands))).valid
  where
    m : Message
    m = p.message

    after : State
    after = numbers_taken s 1

    stands : Stands s.identity.guid 0 0 s
    stands = valid_stands s v

    both : (is_own_packet s s.next_number p ≡ true) × (not (is_too_large headers.Session p.message) ≡ true)
    both = split_and (is_own_packet s s.next_number p) (not (is_too_large headers.Session p.message)) f

    own : IsOwnPacket s s.next_number p
    own = own_packet s s.next_number p both.0

    is_placed : IsPlaced m
    is_placed = (told, not_express p.message.delivery own.recoverable)

    carried : IsCarried headers.Session m
    carried = record { well_formed = told.well_formed; named = told.named; size = not_true (is_too_large headers.Session p.message) both.1 }

-- Arrivals.

abbrev pub Known : Class → Type 0
Known class = IsTrue (is_class class.0)

queue_known : (plan : QueuePlan) (messages : ℕ) (transactional : Bool) → IfSome (queue_refusal plan messages transactional) Known
queue_known plan messages transactional = at (transactional && not plan.transactional) (not transactional && plan.transactional) (nat_le plan.quota messages)
  where
    at : (a b c : Bool) → IfSome (cond a (Some QUEUE_NOT_TRANSACTIONAL) (cond b (Some MESSAGE_NOT_TRANSACTIONAL) (cond c (Some QUOTA_EXCEEDED) None))) Known
    at true b c = refl
    at false true c = refl
    at false false true = refl
    at false false false = tt

target_known : (s : State) (t : Target) (x : Delivery) → IfSome (target_refusal s t x) Known
target_known s (Here (Some number)) x = at (numbered s.places.queues number)
  where
    at : (o : Option Queue) → IfSome (option_map_or (refusal_by x) o (Some BAD_DESTINATION)) Known
    at None = refl
    at (Some q) = queue_known q.plan (length_met (is_recorded x) q.lists) (is_transactional x)
target_known s t x = refl

pub refusal_known : (s : State) (p : UserPacket) → IfSome (refusal_of s p) Known
refusal_known s p = at (p.remaining == 0)
  where
    at : (b : Bool) → IfSome (cond b (Some REACH_TIMEOUT) (target_refusal s (resolved s p.message.destination) p.message.delivery)) Known
    at true = refl
    at false = target_known s (resolved s p.message.destination) p.message.delivery

pub storing_known : (s : State) (p : UserPacket) → IfSome (storing_refusal s p) Known
storing_known s p = at (is_for_order_layer s p.message.destination)
  where
    at : (b : Bool) → IfSome (cond b (Some BAD_DESTINATION) (refusal_of s p)) Known
    at true = refl
    at false = refusal_known s p

-- what is not refused goes into a queue here
abbrev pub IsHere : Target → Type 0
IsHere t = (number : ℕ) × (t ≡ Here (Some number))

target_here : (s : State) (t : Target) (x : Delivery) → target_refusal s t x ≡ None → IsHere t
target_here s (Here (Some number)) x e = (number, refl)
target_here s t x e = absurd (let none : ⊥ = cc in none)

pub refusal_here : (s : State) (p : UserPacket) → refusal_of s p ≡ None → IsHere (resolved s p.message.destination)
refusal_here s p e = at (p.remaining == 0) e
  where
    at : (b : Bool) → cond b (Some REACH_TIMEOUT) (target_refusal s (resolved s p.message.destination) p.message.delivery) ≡ None → IsHere (resolved s p.message.destination)
    at true e = absurd (let none : ⊥ = cc in none)
    at false e = target_here s (resolved s p.message.destination) p.message.delivery e

pub storing_here : (s : State) (p : UserPacket) → storing_refusal s p ≡ None → IsHere (resolved s p.message.destination)
storing_here s p e = at (is_for_order_layer s p.message.destination) e
  where
    at : (b : Bool) → cond b (Some BAD_DESTINATION) (refusal_of s p) ≡ None → IsHere (resolved s p.message.destination)
    at true e = absurd (let none : ⊥ = cc in none)
    at false e = refusal_here s p e

-- a message is put into a queue here, or meets the class of its refusal
pub arrived_stands : (whose : Guid) (low high : ℕ) (s : State) (m : Message) (now : ℕ) (refusal : Option Class) → IfSome refusal Known → (refusal ≡ None → IsHere (resolved s m.destination))
    → IsPlaced m → Stands whose low high s → Stands whose low high (arrived s m now refusal)
arrived_stands whose low high s m now (Some class) known here p h = meets_stands whose low high s m class now p known h
arrived_stands whose low high s m now None known here p h = subst (λ t. Stands whose low high (meets (placed s t m) m REACHED_QUEUE now)) (sym (here refl).1)
    (meets_stands whose low high (put_at s (place.Queue (here refl).0) m) m REACHED_QUEUE now p refl (put_stands whose low high s (place.Queue (here refl).0) m p h))

pub stored_stands : (whose : Guid) (low high now : ℕ) (s : State) (p : UserPacket) → IsPlaced p.message → Stands whose low high s → Stands whose low high (message_stored now s p).state
stored_stands whose low high now s p placed h = arrived_stands whose low high s p.message now (storing_refusal s p) (storing_known s p) (storing_here s p) placed h
