-- Whatever a manager keeps says of other messages what the ledger says of them, and each message bears the number of its kind.
use Rattle.std.proofs.Common.{refl, ap, sym, subst, ◌∙◌, arith, inl, inr}
use Rattle.std.specs.List.{AllByRecursion}
use Rattle.std.specs.Option.{option_map_or}
use Rattle.std.specs.Prelude.{[], ◌+◌, ◌<◌, ◌==◌, ◌∷◌, ◌≡◌, ◌≤◌, ◌⊎◌, Bool, IfSome, List, None, Option, Some, cond, false, nat_le, remove, slice_get, slice_set, suc, true, zero, ℕ}
use Rattle.mqb_base.specs.Classes.{is_arrival_refusal}
use Rattle.mqb_base.specs.declared.class.Class.{Class}
use Rattle.mqb_base.specs.declared.class.TheConstants.Class.{NORMAL, ORDER_ACKNOWLEDGEMENT, QUEUE_PURGED, REACHED_QUEUE, REACH_TIMEOUT, RECEIVED, RECEIVE_TIMEOUT}
use Rattle.mqb_base.specs.declared.ids.Guid.{Guid}
use Rattle.mqb_base.specs.declared.ids.MessageId.{MessageId}
use Rattle.mqb_base.specs.declared.ledger.Line.{Line}
use Rattle.mqb_base.specs.declared.ledger.Line.TheVariants as line
use Rattle.mqb_base.specs.declared.message.Message.{Message}
use Rattle.mqb_fate.specs.Orders.{is_final_class}
use Rattle.mqb_history.proofs.Having.{PlacesHave, weaker_have}
use Rattle.mqb_model.specs.Lists.{with_changed}
use Rattle.mqb_model.specs.declared.limits.TheConstants.{FIRST_EXPRESS, MAX_EXPRESS}
use Rattle.mqb_model.specs.rules.Numbers.{express_after}
use Rattle.mqb_model.specs.state.Places.{is_express}
use Rattle.mqb_model.specs.state.State.{State}
use Rattle.mqb_orders.specs.Rows.{Row}
use Rattle.mqb_orders.specs.declared.kept.Kept.{Kept}
use Rattle.mqb_plain.specs.Plain.{PlainLists}
use Rattle.mqb_plain.specs.declared.outgoing.Outgoing.{Outgoing}
use Rattle.mqb_queue.specs.Lists.{Lists}
use Rattle.mqb_history.proofs.Lists.{all_weaker, clash, other_numbers, same_number}

-- What lines say.

-- that a message was refused where it arrived, or did not reach its queue in its time
abbrev pub IsFailureOf : MessageId → Line → Type 0
IsFailureOf id (line.Expired stream number other moment) = other ≡ id
IsFailureOf id (line.Refused stream number class other) = other ≡ id
IsFailureOf id (line.Bounced class other) = other ≡ id
IsFailureOf id (line.Lapsed other) = other ≡ id
IsFailureOf id _ = ⊥

-- that a message left its queue and was not received
abbrev pub IsMissOf : MessageId → Line → Type 0
IsMissOf id (line.Purged other) = other ≡ id
IsMissOf id (line.Swept other) = other ≡ id
IsMissOf id _ = ⊥

-- that it met a class of which final acknowledgements tell
abbrev pub IsMetBy : Class → MessageId → Line → Type 0
IsMetBy class id (line.Took other) = (other ≡ id) × (class ≡ RECEIVED)
IsMetBy class id (line.Purged other) = (other ≡ id) × (class ≡ QUEUE_PURGED)
IsMetBy class id (line.Swept other) = (other ≡ id) × (class ≡ RECEIVE_TIMEOUT)
IsMetBy class id (line.Refused stream number met other) = (other ≡ id) × (met ≡ class)
IsMetBy class id (line.Expired stream number other moment) = other ≡ id
IsMetBy class id (line.Bounced met other) = other ≡ id
IsMetBy class id (line.Lapsed other) = other ≡ id
IsMetBy class id _ = ⊥

-- a line that is known says it, or the message is express
abbrev pub IsTold : (Line → Type 0) → (MessageId → Line → Type 0) → MessageId → Type 0
IsTold T Of id = ((l : Line) × T l × Of id l) ⊎ (FIRST_EXPRESS ≤ id.number)

-- what a class says of a message is told
pub record HasFate (T : Line → Type 0) (id : MessageId) (class : Class) : Type 0 where
  pub fails : is_arrival_refusal class.0 ≡ true → IsTold T IsFailureOf id
  pub misses : nat_le 0xC000 class.0 ≡ true → IsTold T IsMissOf id
  pub final : is_final_class class ≡ true → IsTold T (IsMetBy class) id

-- a message says what is told, and an express one has an express number, as no other has
pub record IsFair (T : Line → Type 0) (m : Message) : Type 0 where
  pub fate : HasFate T m.correlation m.class
  pub express : is_express m.delivery ≡ true → FIRST_EXPRESS ≤ m.id.number
  pub durable : is_express m.delivery ≡ false → m.id.number < FIRST_EXPRESS

told_more : (T U : Line → Type 0) (Of : MessageId → Line → Type 0) (id : MessageId) → ((l : Line) → T l → U l) → IsTold T Of id → IsTold U Of id
told_more T U Of id more (inl (l, t, o)) = inl (l, more l t, o)
told_more T U Of id more (inr e) = inr e

pub fate_more : (T U : Line → Type 0) (id : MessageId) (class : Class) → ((l : Line) → T l → U l) → HasFate T id class → HasFate U id class
fate_more T U id class more h = record {
  fails = λ e. told_more T U IsFailureOf id more (h.fails e);
  misses = λ e. told_more T U IsMissOf id more (h.misses e);
  final = λ e. told_more T U (IsMetBy class) id more (h.final e);
}

pub fair_more : (T U : Line → Type 0) → ((l : Line) → T l → U l) → (m : Message) → IsFair T m → IsFair U m
fair_more T U more m h = record { fate = fate_more T U m.correlation m.class more h.fate; express = h.express; durable = h.durable }

-- Classes.

pub normal_fate : (T : Line → Type 0) (id : MessageId) → HasFate T id NORMAL
normal_fate T id = record { fails = λ e. absurd (let none : ⊥ = cc in none); misses = λ e. absurd (let none : ⊥ = cc in none); final = λ e. absurd (let none : ⊥ = cc in none) }

pub reached_fate : (T : Line → Type 0) (id : MessageId) → HasFate T id REACHED_QUEUE
reached_fate T id = record { fails = λ e. absurd (let none : ⊥ = cc in none); misses = λ e. absurd (let none : ⊥ = cc in none); final = λ e. absurd (let none : ⊥ = cc in none) }

pub acknowledged_fate : (T : Line → Type 0) (id : MessageId) → HasFate T id ORDER_ACKNOWLEDGEMENT
acknowledged_fate T id = record { fails = λ e. absurd (let none : ⊥ = cc in none); misses = λ e. absurd (let none : ⊥ = cc in none); final = λ e. absurd (let none : ⊥ = cc in none) }

pub received_fate : (T : Line → Type 0) (id : MessageId) → IsTold T (IsMetBy RECEIVED) id → HasFate T id RECEIVED
received_fate T id met = record { fails = λ e. absurd (let none : ⊥ = cc in none); misses = λ e. absurd (let none : ⊥ = cc in none); final = λ e. met }

pub purged_fate : (T : Line → Type 0) (id : MessageId) → IsTold T IsMissOf id → IsTold T (IsMetBy QUEUE_PURGED) id → HasFate T id QUEUE_PURGED
purged_fate T id h met = record { fails = λ e. absurd (let none : ⊥ = cc in none); misses = λ e. h; final = λ e. met }

pub swept_fate : (T : Line → Type 0) (id : MessageId) → IsTold T IsMissOf id → IsTold T (IsMetBy RECEIVE_TIMEOUT) id → HasFate T id RECEIVE_TIMEOUT
swept_fate T id h met = record { fails = λ e. absurd (let none : ⊥ = cc in none); misses = λ e. h; final = λ e. met }

pub late_fate : (T : Line → Type 0) (id : MessageId) → IsTold T IsFailureOf id → IsTold T (IsMetBy REACH_TIMEOUT) id → HasFate T id REACH_TIMEOUT
late_fate T id h met = record { fails = λ e. h; misses = λ e. absurd (let none : ⊥ = cc in none); final = λ e. met }

-- a class of a refusal says that a message failed
abbrev pub IsRefusal : Class → Type 0
IsRefusal class = nat_le 0xC000 class.0 ≡ false

pub refused_fate : (T : Line → Type 0) (id : MessageId) (class : Class) → IsRefusal class → IsTold T IsFailureOf id → IsTold T (IsMetBy class) id → HasFate T id class
refused_fate T id class r h met = record { fails = λ e. h; misses = λ e. absurd (clash (sym e ∙ r)); final = λ e. met }

pub express_fate : (T : Line → Type 0) (id : MessageId) (class : Class) → FIRST_EXPRESS ≤ id.number → HasFate T id class
express_fate T id class h = record { fails = λ e. inr h; misses = λ e. inr h; final = λ e. inr h }

-- What a manager keeps.

-- Its GUID, the numbers that are given to what its record sends, from low and below base, to which peer each number below low went, and what is
-- known of the plain messages that waited before.
pub record Frame : Type 1 where
  pub own : Guid
  pub low : ℕ
  pub base : ℕ
  pub went : ℕ → ℕ
  pub Old : MessageId → Type 0

-- a recoverable message waits for the peer at an index: the manager's own, under a number that was given to no send
pub record IsWaiting (f : Frame) (goes : ℕ → ℕ) (next k : ℕ) (m : Message) : Type 0 where
  pub durable : is_express m.delivery ≡ false
  pub source : m.id.qm ≡ f.own
  pub below : m.id.number < next
  pub place : goes m.id.number ≡ k
  pub known : ((m.id.number < f.low) × f.Old m.id) ⊎ (f.base ≤ m.id.number)

abbrev pub WaitsFairly : Frame → (Line → Type 0) → (ℕ → ℕ) → ℕ → ℕ → Outgoing → Type 0
WaitsFairly f T goes next k o = IsFair T o.message × IsWaiting f goes next k o.message

-- a fair express message
abbrev pub IsFairExpress : (Line → Type 0) → Message → Type 0
IsFairExpress T m = IsFair T m × (is_express m.delivery ≡ true)

pub record PlainFair (f : Frame) (T : Line → Type 0) (goes : ℕ → ℕ) (next k : ℕ) (p : PlainLists) : Type 0 where
  pub recoverable : AllByRecursion (WaitsFairly f T goes next k) p.recoverable
  pub express : AllByRecursion (λ o. IsFairExpress T o.message) p.express

pub record ListsFair (T : Line → Type 0) (l : Lists) : Type 0 where
  pub durable : AllByRecursion (IsFair T) l.durable
  pub express : AllByRecursion (IsFairExpress T) l.express

-- members have it by their indexes
abbrev pub AllFrom : {X : Type 0} → (ℕ → X → Type 0) → ℕ → List X → Type 0
AllFrom P k [] = Unit {0}
AllFrom P k (x ∷ xs) = P k x × AllFrom P (k + 1) xs

abbrev pub RowFair : (Line → Type 0) → Row → Type 0
RowFair T row = AllByRecursion (λ (k : Kept). IsFair T k.message) row.kept

pub record Keeps (f : Frame) (T : Line → Type 0) (s : State) : Type 0 where
  pub own : s.identity.guid ≡ f.own
  pub order : f.low ≤ f.base
  pub low : f.base ≤ s.next_number
  pub high : s.next_number ≤ FIRST_EXPRESS
  pub express : FIRST_EXPRESS ≤ s.next_express
  pub places : PlacesHave (ListsFair T) s.places
  -- the peer for which each number waits
  pub goes : ℕ → ℕ
  pub same : (n : ℕ) → n < f.low → goes n ≡ f.went n
  pub plain : AllFrom (PlainFair f T goes s.next_number) 0 s.plain
  pub outs : AllByRecursion (RowFair T) s.outs

-- Lists.

pub from_weaker : {X : Type 0} (P Q : ℕ → X → Type 0) → ((k : ℕ) (x : X) → P k x → Q k x) → (k : ℕ) (xs : List X) → AllFrom P k xs → AllFrom Q k xs
from_weaker P Q weaker k [] h = tt
from_weaker P Q weaker k (x ∷ xs) h = (weaker k x h.0, from_weaker P Q weaker (k + 1) xs h.1)

pub from_set : {X : Type 0} (P : ℕ → X → Type 0) (k : ℕ) (xs : List X) (n : ℕ) (y : X) → P (k + n) y → AllFrom P k xs → AllFrom P k (slice_set xs n y)
from_set P k [] n y p h = tt
from_set P k (x ∷ xs) zero y p h = (subst (λ j. P j y) (let e : k + 0 ≡ k = omega arith in e) p, h.1)
from_set P k (x ∷ xs) (suc n) y p h = (h.0, from_set P (k + 1) xs n y (subst (λ j. P j y) (let e : k + suc n ≡ k + 1 + n = omega arith in e) p) h.1)

pub from_get : {X : Type 0} (P : ℕ → X → Type 0) (k : ℕ) (xs : List X) (n : ℕ) → AllFrom P k xs → IfSome (slice_get xs n) (P (k + n))
from_get P k [] n h = tt
from_get P k (x ∷ xs) zero h = subst (λ j. P j x) (let e : k ≡ k + 0 = omega arith in e) h.0
from_get {X} P k (x ∷ xs) (suc n) h = subst (λ j. IfSome (slice_get xs n) (P j)) (let e : k + 1 + n ≡ k + suc n = omega arith in e) (from_get P (k + 1) xs n h.1)

pub from_changed : {X : Type 0} (P : ℕ → X → Type 0) (change : X → X) (xs : List X) (n : ℕ) → ((x : X) → P n x → P n (change x)) → AllFrom P 0 xs → AllFrom P 0 (with_changed change xs n)
from_changed {X} P change xs n keeps h = at (slice_get xs n) (subst (λ j. IfSome (slice_get xs n) (P j)) zero_plus (from_get P 0 xs n h))
  where
    zero_plus : 0 + n ≡ n
    zero_plus = omega arith

    at : (o : Option X) → IfSome o (P n) → AllFrom P 0 (option_map_or (λ x. slice_set xs n (change x)) o xs)
    at None g = h
    at (Some x) g = from_set P 0 xs n (change x) (subst (λ j. P j (change x)) (sym zero_plus) (keeps x g)) h

pub removed_all : {X : Type 0} (P : X → Type 0) (xs : List X) (k : ℕ) → AllByRecursion P xs → AllByRecursion P (remove xs k)
removed_all P [] zero h = tt
removed_all P [] (suc k) h = tt
removed_all P (x ∷ xs) zero h = h.1
removed_all P (x ∷ xs) (suc k) h = (h.0, removed_all P xs k h.1)

-- More is known.

waiting_more : (f : Frame) (old goes : ℕ → ℕ) (a b k : ℕ) (m : Message) → ((n : ℕ) → n < a → goes n ≡ old n) → a ≤ b → IsWaiting f old a k m → IsWaiting f goes b k m
waiting_more f old goes a b k m same le h = record {
  durable = h.durable;
  source = h.source;
  below = let lt = h.below in omega (arith, le, lt);
  place = same m.id.number h.below ∙ h.place;
  known = h.known;
}

pub plain_more : (f : Frame) (T U : Line → Type 0) (old goes : ℕ → ℕ) (a b k : ℕ) → ((l : Line) → T l → U l) → ((n : ℕ) → n < a → goes n ≡ old n) → a ≤ b → (p : PlainLists) → PlainFair f T old a k p → PlainFair f U goes b k p
plain_more f T U old goes a b k more same le p h = record {
  recoverable = all_weaker (WaitsFairly f T old a k) (WaitsFairly f U goes b k) (λ o g. (fair_more T U more o.message g.0, waiting_more f old goes a b k o.message same le g.1)) p.recoverable h.recoverable;
  express = all_weaker (λ (o : Outgoing). IsFairExpress T o.message) (λ o. IsFairExpress U o.message) (λ o g. (fair_more T U more o.message g.0, g.1)) p.express h.express;
}

lists_more : (T U : Line → Type 0) → ((l : Line) → T l → U l) → (l : Lists) → ListsFair T l → ListsFair U l
lists_more T U more l h = record {
  durable = all_weaker (IsFair T) (IsFair U) (fair_more T U more) l.durable h.durable;
  express = all_weaker (IsFairExpress T) (IsFairExpress U) (λ m g. (fair_more T U more m g.0, g.1)) l.express h.express;
}

pub row_more : (T U : Line → Type 0) → ((l : Line) → T l → U l) → (row : Row) → RowFair T row → RowFair U row
row_more T U more row h = all_weaker (λ (k : Kept). IsFair T k.message) (λ k. IsFair U k.message) (λ k g. fair_more T U more k.message g) row.kept h

pub keeps_more : (f : Frame) (T U : Line → Type 0) → ((l : Line) → T l → U l) → (s : State) → Keeps f T s → Keeps f U s
keeps_more f T U more s h = record {
  own = h.own;
  order = h.order;
  low = h.low;
  high = h.high;
  express = h.express;
  places = weaker_have (ListsFair T) (ListsFair U) (lists_more T U more) s.places h.places;
  goes = h.goes;
  same = h.same;
  plain = from_weaker (PlainFair f T h.goes s.next_number) (PlainFair f U h.goes s.next_number)
      (λ k p g. plain_more f T U h.goes h.goes s.next_number s.next_number k more (λ n lt. refl) (omega arith) p g) 0 s.plain h.plain;
  outs = all_weaker (RowFair T) (RowFair U) (row_more T U more) s.outs h.outs;
}

-- a number goes to a peer
abbrev pub going : (ℕ → ℕ) → ℕ → ℕ → ℕ → ℕ
going goes next k n = cond (n == next) k (goes n)

pub going_there : (goes : ℕ → ℕ) (next k : ℕ) → going goes next k next ≡ k
going_there goes next k = ap (λ b. cond b k (goes next)) (same_number next)

pub going_before : (goes : ℕ → ℕ) (next k n : ℕ) → n < next → going goes next k n ≡ goes n
going_before goes next k n lt = ap (λ b. cond b k (goes n)) (other_numbers n next (λ e. omega (arith, lt, e)))

pub above_first : (n : ℕ) → FIRST_EXPRESS ≤ n → FIRST_EXPRESS ≤ express_after n
above_first n le = at (n == MAX_EXPRESS)
  where
    at : (b : Bool) → FIRST_EXPRESS ≤ cond b FIRST_EXPRESS (n + 1)
    at true = omega arith
    at false = omega (arith, le)
