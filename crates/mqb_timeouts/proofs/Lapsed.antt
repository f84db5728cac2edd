-- How plain messages lapse.
use Rattle.std.proofs.Common.{◌≡◌, ◌≢◌, ℕ, zero, suc, ◌+◌, ◌<◌, ◌≤◌, Bool, cond, false, List, [], ◌∷◌, length, map, take, Option, Some, None, refl, sym, ap, ◌∙◌, subst, arith}
use Rattle.std.specs.List.{All, position}
use Rattle.std.specs.Option.{option_map_or}
use Rattle.std.specs.Prelude.{count_by, option_map, remove, slice_get, slice_set, sum_by}
use Rattle.std.proofs.lemmas.List.Elements.{All-cons, All-head, All-nil, All-tail}
use Rattle.std.proofs.lemmas.List.Sums.{sum_by-cons}
use Rattle.std.proofs.lemmas.Option.{none-some, same_Some, slice_get_within}
use Rattle.mqb_base.specs.declared.class.TheConstants.Class.{REACH_TIMEOUT}
use Rattle.mqb_base.specs.declared.message.Lane.{Lane}
use Rattle.mqb_base.specs.declared.message.Lane.TheVariants as lane
use Rattle.mqb_base.specs.declared.message.Message.{Message}
use Rattle.mqb_plain.specs.Lists.{messages_of}
use Rattle.mqb_plain.specs.Plain.{PlainLists, outgoing_in, without}
use Rattle.mqb_plain.specs.declared.outgoing.Outgoing.{Outgoing}
use Rattle.mqb_queue.proofs.Positions.{position_map}
use Rattle.mqb_contents.specs.mqb_tables.Waits.{plain_count}
use Rattle.mqb_contents.proofs.mqb_tables.Members.{changed_is, changed_there, get-set_other}
use Rattle.mqb_model.specs.Lists.{with_changed}
use Rattle.mqb_model.specs.Loops.{for_each_below, repeated}
use Rattle.mqb_model.specs.rules.Effects.{Effect, joined}
use Rattle.mqb_model.specs.rules.Notices.{meets}
use Rattle.mqb_model.specs.rules.Timeouts.{cannot_reach, lapses, lapsing, lapsing_in, message_lapsed, next_lapsed, peer_lapsed, sweeping_in}
use Rattle.mqb_model.specs.state.Places.{with_plain}
use Rattle.mqb_model.specs.state.State.{State}
use Rattle.mqb_timeouts.specs.Waiting.{NoneLapses, lapsed_count, queued, swept_count, waiting}
use Rattle.mqb_timeouts.proofs.Appended.{Appended, appended_count, none_before, none_passes_then, same_sums}
use Rattle.mqb_timeouts.proofs.Due.{IsUndue, meets_undue}
use Rattle.mqb_timeouts.proofs.Swept.{swept_count_is}

-- Messages as they are seen without their marks.

pub position_of : (now : ℕ) (os : List Outgoing) → position (cannot_reach now) (messages_of os) ≡ position (lapses now) os
position_of now os = position_map (λ (o : Outgoing). o.message) (cannot_reach now) os

pub count_of : (now : ℕ) (os : List Outgoing) → count_by (cannot_reach now) (messages_of os) ≡ count_by (lapses now) os
count_of now [] = refl
count_of now (o ∷ os) =
    let h = count_of now os in
    let a = sum_by-cons (λ (m : Message). cond (cannot_reach now m) 1 0) o.message (messages_of os) in
    let b = sum_by-cons (λ (x : Outgoing). cond (lapses now x) 1 0) o os in
    omega (arith, h, a, b)

pub none_of : (now count : ℕ) (os : List Outgoing) → All (λ o. lapses now o ≡ false) (take count os) → All (λ m. cannot_reach now m ≡ false) (take count (messages_of os))
none_of now zero os none = All-nil (λ m. cannot_reach now m ≡ false)
none_of now (suc count) [] none = All-nil (λ m. cannot_reach now m ≡ false)
none_of now (suc count) (o ∷ os) none = All-cons (λ m. cannot_reach now m ≡ false) o.message (take count (messages_of os))
    (All-head (λ x. lapses now x ≡ false) o (take count os) none) (none_of now count os (All-tail (λ x. lapses now x ≡ false) o (take count os) none))

-- the plain messages for a peer that is there, as they are seen
waiting_seen : (kind : Lane) (s : State) (k : ℕ) (ms : List Message) → Some ms ≡ option_map (λ p. messages_of (outgoing_in kind p)) (slice_get s.plain k)
    → ms ≡ messages_of (waiting kind s k)
waiting_seen kind s k ms is = by (slice_get s.plain k) is
  where
    by : (o : Option PlainLists) → Some ms ≡ option_map (λ p. messages_of (outgoing_in kind p)) o → ms ≡ messages_of (option_map_or (outgoing_in kind) o [])
    by None h = absurd (none-some ms (sym h))
    by (Some p) h = same_Some ms (messages_of (outgoing_in kind p)) h

pub lapsing_seen : (kind : Lane) (now : ℕ) (s : State) (k : ℕ) (ms : List Message) → Some ms ≡ option_map (λ p. messages_of (outgoing_in kind p)) (slice_get s.plain k)
    → position (cannot_reach now) ms ≡ position (lapses now) (waiting kind s k)
lapsing_seen kind now s k ms is = ap (position (cannot_reach now)) (waiting_seen kind s k ms is) ∙ position_of now (waiting kind s k)

pub lapsing_none : (kind : Lane) (now : ℕ) (s : State) (k count : ℕ) (ms : List Message)
    → Some ms ≡ option_map (λ p. messages_of (outgoing_in kind p)) (slice_get s.plain k) → NoneLapses kind now s k count
    → All (λ m. cannot_reach now m ≡ false) (take count ms)
lapsing_none kind now s k count ms is none = subst (λ (l : List Message). All (λ m. cannot_reach now m ≡ false) (take count l))
    (sym (waiting_seen kind s k ms is)) (none_of now count (waiting kind s k) none)

pub count_waiting : (kind : Lane) (s : State) (k : ℕ) → plain_count s.plain k kind ≡ length (waiting kind s k)
count_waiting kind s k = by (slice_get s.plain k)
  where
    by : (o : Option PlainLists) → option_map_or (λ p. length (outgoing_in kind p)) o 0 ≡ length (option_map_or (outgoing_in kind) o [])
    by None = refl
    by (Some p) = refl

-- the plain message of a lane for the peer at an index lapses, where it is there
abbrev lapsed_at : Lane → ℕ → ℕ → ℕ → Effect → Effect
lapsed_at kind now k index e = option_map_or (λ m. joined e (message_lapsed kind now k index e.state m))
    (option_map (λ o. o.message) (slice_get (waiting kind e.state k) index)) e

-- the next one that is due does
pub next_lapsed_is : (kind : Lane) (now k : ℕ) (e : Effect)
    → next_lapsed kind now k e ≡ option_map_or (λ index. lapsed_at kind now k index e) (position (lapses now) (waiting kind e.state k)) e
next_lapsed_is kind now k e = by (slice_get e.state.plain k)
  where
    message : (index : ℕ) (o : Option Outgoing) → option_map_or (λ o. joined e (message_lapsed kind now k index e.state o.message)) o e
        ≡ option_map_or (λ m. joined e (message_lapsed kind now k index e.state m)) (option_map (λ o. o.message) o) e
    message index None = refl
    message index (Some o) = refl

    found : (p : PlainLists) (o : Option ℕ)
        → option_map_or (λ index. option_map_or (λ o. joined e (message_lapsed kind now k index e.state o.message)) (slice_get (outgoing_in kind p) index) e) o e
        ≡ option_map_or (λ index. option_map_or (λ m. joined e (message_lapsed kind now k index e.state m))
        (option_map (λ o. o.message) (slice_get (outgoing_in kind p) index)) e) o e
    found p None = refl
    found p (Some index) = message index (slice_get (outgoing_in kind p) index)

    by : (o : Option PlainLists) → option_map_or (λ p. option_map_or (λ index. option_map_or (λ o. joined e (message_lapsed kind now k index e.state o.message))
        (slice_get (outgoing_in kind p) index) e) (lapsing kind now p) e) o e
        ≡ option_map_or (λ index. option_map_or (λ m. joined e (message_lapsed kind now k index e.state m))
        (option_map (λ o. o.message) (slice_get (option_map_or (outgoing_in kind) o []) index)) e) (position (lapses now) (option_map_or (outgoing_in kind) o [])) e
    by None = refl
    by (Some p) = found p (lapsing kind now p)

pub lapsed_count_is : (kind : Lane) (now : ℕ) (s : State) (k : ℕ) → lapsed_count kind now s k ≡ count_by (lapses now) (waiting kind s k)
lapsed_count_is kind now s k = by (slice_get s.plain k)
  where
    by : (o : Option PlainLists) → option_map_or (lapsing_in kind now) o 0 ≡ count_by (lapses now) (option_map_or (outgoing_in kind) o [])
    by None = refl
    by (Some p) = refl

without_is : (kind : Lane) (k : ℕ) (p : PlainLists) → outgoing_in kind (without kind k p) ≡ remove (outgoing_in kind p) k
without_is lane.Durable k p = refl
without_is lane.Express k p = refl

-- the plain messages without the one
left_waiting : (kind : Lane) (s : State) (k index : ℕ) (p : PlainLists) → slice_get s.plain k ≡ Some p
    → waiting kind (with_plain (without kind index) s k) k ≡ remove (outgoing_in kind p) index
left_waiting kind s k index p is = ap (λ (o : Option PlainLists). option_map_or (outgoing_in kind) o []) (changed_there (without kind index) s.plain k p is)
    ∙ without_is kind index p

-- once it lapsed, none before it is due
pub none_lapses_before : (kind : Lane) (now k index : ℕ) (e : Effect) → position (lapses now) (waiting kind e.state k) ≡ Some index
    → NoneLapses kind now (lapsed_at kind now k index e).state k index
none_lapses_before kind now k index e found = by (slice_get e.state.plain k) refl found
  where
    p : Outgoing → Bool
    p = lapses now

    gone : (l : PlainLists) → slice_get e.state.plain k ≡ Some l → position p (outgoing_in kind l) ≡ Some index
        → (o : Option Outgoing) → slice_get (outgoing_in kind l) index ≡ o
        → NoneLapses kind now (option_map_or (λ m. joined e (message_lapsed kind now k index e.state m)) (option_map (λ o. o.message) o) e).state k index
    gone l is found None there = none_before p (waiting kind e.state k) index (ap (λ (o : Option PlainLists). position p (option_map_or (outgoing_in kind) o [])) is ∙ found)
    gone l is found (Some o) there =
        let left = with_plain (without kind index) e.state k in
        let then = meets left o.message REACH_TIMEOUT now in
        none_passes_then p (outgoing_in kind l) (waiting kind then k) index found (slice_get_within (outgoing_in kind l) index o there)
        (subst (λ (os : List Outgoing). Appended p os (waiting kind then k)) (left_waiting kind e.state k index l is)
        ((meets_undue now left o.message REACH_TIMEOUT now).plain kind k))

    by : (o : Option PlainLists) → slice_get e.state.plain k ≡ o → position p (option_map_or (outgoing_in kind) o []) ≡ Some index
        → NoneLapses kind now (option_map_or (λ m. joined e (message_lapsed kind now k index e.state m))
        (option_map (λ o. o.message) (slice_get (option_map_or (outgoing_in kind) o []) index)) e).state k index
    by None is found = absurd (none-some index found)
    by (Some l) is found = gone l is found (slice_get (outgoing_in kind l) index) refl

-- The other plain messages stay, and so does what is due in queues.

other_waiting : (kind : Lane) (s : State) (k j : ℕ) (change : PlainLists → PlainLists) → j ≢ k → waiting kind (with_plain change s k) j ≡ waiting kind s j
other_waiting kind s k j change other = by (slice_get s.plain k)
  where
    by : (o : Option PlainLists)
        → option_map_or (outgoing_in kind) (slice_get (option_map_or (λ p. slice_set s.plain k (change p)) o s.plain) j) [] ≡ waiting kind s j
    by None = refl
    by (Some p) = ap (λ (o : Option PlainLists). option_map_or (outgoing_in kind) o []) (get-set_other s.plain k j (change p) other)

-- two states of which as much is due: plain messages for the peer at j, and messages of all queues
record IsAsDue (kind : Lane) (now j : ℕ) (s t : State) : Type 0 where
  plain : lapsed_count kind now t j ≡ lapsed_count kind now s j
  queues : (i : ℕ) → swept_count kind now t i ≡ swept_count kind now s i

as_due_refl : (kind : Lane) (now j : ℕ) (s : State) → IsAsDue kind now j s s
as_due_refl kind now j s = record { plain = refl; queues = λ i. refl }

as_due_trans : (kind : Lane) (now j : ℕ) (s t u : State) → IsAsDue kind now j s t → IsAsDue kind now j t u → IsAsDue kind now j s u
as_due_trans kind now j s t u a b = record { plain = b.plain ∙ a.plain; queues = λ i. b.queues i ∙ a.queues i }

lapsed_others : (kind : Lane) (now k index j : ℕ) (e : Effect) → j ≢ k → IsAsDue kind now j e.state (lapsed_at kind now k index e).state
lapsed_others kind now k index j e other = by (option_map (λ o. o.message) (slice_get (waiting kind e.state k) index))
  where
    by : (o : Option Message) → IsAsDue kind now j e.state (option_map_or (λ m. joined e (message_lapsed kind now k index e.state m)) o e).state
    by None = as_due_refl kind now j e.state
    by (Some m) =
        let left = with_plain (without kind index) e.state k in
        let then = meets left m REACH_TIMEOUT now in
        let undue = meets_undue now left m REACH_TIMEOUT now in
        record {
          plain = lapsed_count_is kind now then j
              ∙ (appended_count (lapses now) (waiting kind left j) (waiting kind then j) (undue.plain kind j)
              ∙ (ap (count_by (lapses now)) (other_waiting kind e.state k j (without kind index) other)
              ∙ sym (lapsed_count_is kind now e.state j)));
          queues = λ i. swept_count_is kind now then i
              ∙ (appended_count _ (queued kind left i) (queued kind then i) (undue.queues kind i) ∙ sym (swept_count_is kind now e.state i));
        }

-- j is another peer, or one that is not there
next_others : (kind : Lane) (now k j : ℕ) (e : Effect) → j ≢ k → IsAsDue kind now j e.state (next_lapsed kind now k e).state
next_others kind now k j e other = subst (λ (x : Effect). IsAsDue kind now j e.state x.state) (sym (next_lapsed_is kind now k e))
    (by (position (lapses now) (waiting kind e.state k)))
  where
    by : (o : Option ℕ) → IsAsDue kind now j e.state (option_map_or (λ index. lapsed_at kind now k index e) o e).state
    by None = as_due_refl kind now j e.state
    by (Some index) = lapsed_others kind now k index j e other

peer_others : (kind : Lane) (now k j n : ℕ) (e : Effect) → j ≢ k → IsAsDue kind now j e.state (repeated n (next_lapsed kind now k) e).state
peer_others kind now k j zero e other = as_due_refl kind now j e.state
peer_others kind now k j (suc n) e other = let before = repeated n (next_lapsed kind now k) e in
    as_due_trans kind now j e.state before.state (next_lapsed kind now k before).state (peer_others kind now k j n e other) (next_others kind now k j before other)

later_due : (kind : Lane) (now j n : ℕ) (e : Effect) → n ≤ j → IsAsDue kind now j e.state (for_each_below n (peer_lapsed kind now) e).state
later_due kind now j zero e h = as_due_refl kind now j e.state
later_due kind now j (suc n) e h =
    let before = for_each_below n (peer_lapsed kind now) e in
    let other : j ≢ n = omega (arith, h) in
    as_due_trans kind now j e.state before.state (peer_lapsed kind now n before).state (later_due kind now j n e (omega (arith, h)))
    (peer_others kind now n j (option_map_or (lapsing_in kind now) (slice_get before.state.plain n) 0) before other)

pub later_lapsed : (kind : Lane) (now j n : ℕ) (e : Effect) → n ≤ j
    → lapsed_count kind now (for_each_below n (peer_lapsed kind now) e).state j ≡ lapsed_count kind now e.state j
later_lapsed kind now j n e h = (later_due kind now j n e h).plain

-- as many messages of queues are due as before
pub sweeping_stays : (kind : Lane) (now n : ℕ) (e : Effect)
    → sum_by (sweeping_in kind now) (for_each_below n (peer_lapsed kind now) e).state.places.queues ≡ sum_by (sweeping_in kind now) e.state.places.queues
sweeping_stays kind now n e = same_sums (sweeping_in kind now) e.state.places.queues (for_each_below n (peer_lapsed kind now) e).state.places.queues
    (later_due kind now n n e (omega arith)).queues
