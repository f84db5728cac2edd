-- What leaves places and lists is told by a line, and so are the notices that follow.
use Rattle.std.proofs.Common.{refl, subst, arith, inl, inr}
use Rattle.std.specs.List.{AllByRecursion}
use Rattle.std.specs.Option.{option_map_or}
use Rattle.std.specs.Prelude.{[], ◌+◌, ◌<◌, ◌∷◌, ◌≡◌, ◌≤◌, ◌⊎◌, Bool, IfSome, List, None, Option, Some, cond, false, length, option_and_then, slice_get, suc, true, zero, ℕ}
use Rattle.mqb_base.specs.declared.class.TheConstants.Class.{QUEUE_PURGED, REACH_TIMEOUT, RECEIVED, RECEIVE_TIMEOUT}
use Rattle.mqb_base.specs.declared.ids.MessageId.{MessageId}
use Rattle.mqb_base.specs.declared.ledger.Line.{Line}
use Rattle.mqb_base.specs.declared.ledger.Line.TheVariants as line
use Rattle.mqb_base.specs.declared.message.Lane.{Lane}
use Rattle.mqb_base.specs.declared.message.Lane.TheVariants as lane
use Rattle.mqb_base.specs.declared.message.Message.{Message}
use Rattle.mqb_base.specs.declared.queues.EntryPlace.{EntryPlace}
use Rattle.mqb_base.specs.declared.queues.EntryPlace.TheVariants as place
use Rattle.mqb_exactly_once.specs.Words.{In}
use Rattle.mqb_history.proofs.Having.{QueueHas, lists_have}
use Rattle.mqb_model.specs.Loops.{for_each_below, repeated}
use Rattle.mqb_model.specs.rules.Effects.{Effect, joined, with_line}
use Rattle.mqb_model.specs.rules.Notices.{meets}
use Rattle.mqb_model.specs.rules.Purges.{count_at, message_purged, oldest_purged, purged}
use Rattle.mqb_model.specs.rules.Takes.{after_take, copied, message_at, message_taken, take_line, taken, taken_at}
use Rattle.mqb_model.specs.rules.Timeouts.{lane_ticked, lapsing, lapsing_in, message_lapsed, message_swept, next_lapsed, next_swept, peer_lapsed, queue_swept, sweeping, sweeping_in}
use Rattle.mqb_model.specs.state.Places.{is_express, put_at, with_plain, without_at}
use Rattle.mqb_model.specs.state.State.{State}
use Rattle.mqb_plain.specs.Plain.{PlainLists, outgoing_in, without}
use Rattle.mqb_plain.specs.declared.outgoing.Outgoing.{Outgoing}
use Rattle.mqb_queue.specs.First.{index_named, is_queue}
use Rattle.mqb_queue.specs.Lists.{Lists, messages_in}
use Rattle.mqb_queue.specs.Places.{Queue, lists_at, numbered}
use Rattle.mqb_history.proofs.Committing.{in_append, in_end}
use Rattle.mqb_history.proofs.Fates.{Frame, IsFair, IsFairExpress, IsFailureOf, IsMetBy, IsMissOf, IsTold, IsWaiting, Keeps, ListsFair, PlainFair, WaitsFairly, from_get, keeps_more, late_fate, purged_fate, received_fate, swept_fate}
use Rattle.mqb_history.proofs.Fairly.{dropped_fair, meets_keeps, plain_keeps, put_keeps, without_keeps}
use Rattle.mqb_history.proofs.Lists.{all_append, all_weaker, if_some}
use Rattle.mqb_history.proofs.Staying.{after_purge_rows, after_take_rows, lapsed_one, swept_one}

-- the lines before an effect are known, and its own
abbrev pub Known : List Line → Effect → Line → Type 0
Known ls e l = In l ls ⊎ In l e.lines

-- a message that lapsed had waited
pub record HasWaited (f : Frame) (next : ℕ) (id : MessageId) : Type 0 where
  pub source : id.qm ≡ f.own
  pub below : id.number < next
  pub known : ((id.number < f.low) × f.Old id) ⊎ (f.base ≤ id.number)

-- a message has a number that was given to a send
pub record IsGiven (f : Frame) (id : MessageId) : Type 0 where
  pub source : id.qm ≡ f.own
  pub low : f.low ≤ id.number
  pub below : id.number < f.base

abbrev pub IsRightLine : Frame → ℕ → Line → Type 0
IsRightLine f next (line.Lapsed id) = HasWaited f next id
IsRightLine f next (line.Committed stream number id) = IsGiven f id
IsRightLine f next (line.Local id) = IsGiven f id
IsRightLine f next _ = Unit {0}

-- what holds of an effect so far
pub record Walks (f : Frame) (ls : List Line) (e : Effect) : Type 0 where
  pub keeps : Keeps f (Known ls e) e.state
  pub lapsed : AllByRecursion (IsRightLine f e.state.next_number) e.lines

-- of what leaves an express lane no line is known
abbrev pub OfLane : Lane → Frame → List Line → Effect → Type 0
OfLane lane.Durable f ls e = Walks f ls e
OfLane lane.Express f ls e = Keeps f (λ l. In l ls) e.state

lapsed_more : (f : Frame) (a b : ℕ) → a ≤ b → (l : Line) → IsRightLine f a l → IsRightLine f b l
lapsed_more f a b le (line.Lapsed id) h = record { source = h.source; below = let lt = h.below in omega (arith, lt, le); known = h.known }
lapsed_more f a b le (line.Committed stream number id) h = h
lapsed_more f a b le (line.Local id) h = h
lapsed_more f a b le x h = tt

-- a step that adds lines
pub walks_on : (f : Frame) (ls : List Line) (e next : Effect) → Keeps f (Known ls (joined e next)) next.state → e.state.next_number ≤ next.state.next_number
    → AllByRecursion (IsRightLine f next.state.next_number) next.lines → Walks f ls e → Walks f ls (joined e next)
walks_on f ls e next keeps le more h = record {
  keeps = keeps;
  lapsed = all_append (IsRightLine f next.state.next_number) e.lines next.lines
      (all_weaker (IsRightLine f e.state.next_number) (IsRightLine f next.state.next_number) (lapsed_more f e.state.next_number next.state.next_number le) e.lines h.lapsed) more;
}

-- what was known is known behind a step, and its line is
pub still_known : (ls : List Line) (e next : Effect) (l : Line) → Known ls e l → Known ls (joined e next) l
still_known ls e next l (inl i) = inl i
still_known ls e next l (inr i) = inr (in_append e.lines next.lines l i)

pub line_known : (ls : List Line) (e : Effect) (l : Line) (s : State) → Known ls (joined e (with_line l s)) l
line_known ls e l s = inr (in_end e.lines l)

-- a step that has one line
pub one_line : (f : Frame) (ls : List Line) (e : Effect) (l : Line) (s : State)
    → ((T : Line → Type 0) → ((x : Line) → In x ls → T x) → T l → Keeps f T e.state → Keeps f T s) → e.state.next_number ≤ s.next_number
    → IsRightLine f s.next_number l → Walks f ls e → Walks f ls (joined e (with_line l s))
one_line f ls e l s make le right h = walks_on f ls e (with_line l s) (make (Known ls (joined e (with_line l s))) (λ x i. inl i) (line_known ls e l s)
    (keeps_more f (Known ls e) (Known ls (joined e (with_line l s))) (still_known ls e (with_line l s)) e.state h.keeps)) le (right, tt) h

-- a message of a lane leaves
leaves : (kind : Lane) (f : Frame) (ls : List Line) (e : Effect) (l : Line) (s : State) → ((T : Line → Type 0) → (kind ≡ lane.Durable → T l) → Keeps f T e.state → Keeps f T s)
    → e.state.next_number ≤ s.next_number → IsRightLine f s.next_number l ⊎ (kind ≡ lane.Express) → OfLane kind f ls e → OfLane kind f ls (joined e (with_line l s))
leaves lane.Durable f ls e l s make le (inl right) h = one_line f ls e l s (λ T old known. make T (λ same. known)) le right h
leaves lane.Durable f ls e l s make le (inr other) h = absurd (let none : ⊥ = cc in none)
leaves lane.Express f ls e l s make le right h = make (λ x. In x ls) (λ other. absurd (let none : ⊥ = cc in none)) h

-- its line says what became of it, or it is express
told_by : (kind : Lane) (T : Line → Type 0) (Of : MessageId → Line → Type 0) (l : Line) (m : Message) → (kind ≡ lane.Durable → T l) → Of m.id l → IsFair T m
    → (kind ≡ lane.Express → is_express m.delivery ≡ true) → IsTold T Of m.id
told_by lane.Durable T Of l m known says fair express = inl (l, known refl, says)
told_by lane.Express T Of l m known says fair express = inr (fair.express (express refl))

-- a message of a lane
abbrev LaneFair : Lane → (Line → Type 0) → Message → Type 0
LaneFair kind T m = IsFair T m × (kind ≡ lane.Express → is_express m.delivery ≡ true)

get_all : {X : Type 0} (P : X → Type 0) (xs : List X) (k : ℕ) → AllByRecursion P xs → IfSome (slice_get xs k) P
get_all P [] k h = tt
get_all P (x ∷ xs) zero h = h.0
get_all P (x ∷ xs) (suc k) h = get_all P xs k h.1

lists_fair : (kind : Lane) (T : Line → Type 0) (l : Lists) (k : ℕ) → ListsFair T l → IfSome (slice_get (messages_in kind l) k) (LaneFair kind T)
lists_fair lane.Durable T l k h = if_some (IsFair T) (LaneFair lane.Durable T) (slice_get l.durable k) (λ m g. (g, λ other. absurd (let none : ⊥ = cc in none))) (get_all (IsFair T) l.durable k h.durable)
lists_fair lane.Express T l k h = if_some (IsFairExpress T) (LaneFair lane.Express T) (slice_get l.express k) (λ m g. (g.0, λ same. g.1)) (get_all (IsFairExpress T) l.express k h.express)

placed_fair : (kind : Lane) (f : Frame) (T : Line → Type 0) (s : State) (at : EntryPlace) (k : ℕ) → Keeps f T s → IfSome (message_at kind s at k) (LaneFair kind T)
placed_fair kind f T s at k h = by (lists_at s.places at) (lists_have (ListsFair T) s.places at h.places)
  where
    by : (o : Option Lists) → IfSome o (ListsFair T) → IfSome (option_and_then (λ l. slice_get (messages_in kind l) k) o) (LaneFair kind T)
    by None g = tt
    by (Some l) g = lists_fair kind T l k g

some_of : {X : Type 0} (P : X → Type 0) (o : Option X) (x : X) → o ≡ Some x → IfSome o P → P x
some_of P o x e h = subst (λ y. IfSome y P) e h

-- Takes.

take_rightly : (f : Frame) (n : ℕ) (at : EntryPlace) (m : Message) → IsRightLine f n (take_line at m)
take_rightly f n at m = by (is_queue at)
  where
    by : (b : Bool) → IsRightLine f n (cond b (line.Took m.id) (line.Emptied m.id))
    by true = tt
    by false = tt

after_take_keeps : (kind : Lane) (f : Frame) (T : Line → Type 0) (s : State) (at : EntryPlace) (m : Message) (now : ℕ) → (kind ≡ lane.Durable → T (take_line at m)) → LaneFair kind T m
    → Keeps f T s → Keeps f T (after_take s at m now)
after_take_keeps kind f T s (place.Queue n) m now known g h = meets_keeps f T (copied s n m) m RECEIVED now g.0
    (received_fate T m.id (told_by kind T (IsMetBy RECEIVED) (line.Took m.id) m known (refl, refl) g.0 g.1)) (by (numbered s.places.queues n))
  where
    journal : (b : Bool) → Keeps f T (cond b (put_at s (place.JournalOf n) m) s)
    journal true = put_keeps f T s (place.JournalOf n) m g.0 h
    journal false = h

    by : (o : Option Queue) → Keeps f T (option_map_or (λ q. cond q.plan.journal (put_at s (place.JournalOf n) m) s) o s)
    by None = h
    by (Some q) = journal q.plan.journal
after_take_keeps kind f T s at m now known g h = h

pub taken_at_walks : (kind : Lane) (f : Frame) (ls : List Line) (at : EntryPlace) (k now : ℕ) (e : Effect) → OfLane kind f ls e → OfLane kind f ls (taken_at kind at k now e)
taken_at_walks kind f ls at k now e h = by (message_at kind e.state at k) refl
  where
    by : (o : Option Message) → message_at kind e.state at k ≡ o → OfLane kind f ls (option_map_or (λ m. joined e (message_taken kind at k now e.state m)) o e)
    by None f = h
    by (Some m) there = leaves kind f ls e (take_line at m) (after_take (without_at kind e.state at k) at m now)
        (λ T known g. after_take_keeps kind f T (without_at kind e.state at k) at m now known (some_of (LaneFair kind T) (message_at kind e.state at k) m there (placed_fair kind f T e.state at k g))
        (without_keeps f T kind e.state at k g))
        (after_take_rows (without_at kind e.state at k) at m now).numbers (inl (take_rightly f (after_take (without_at kind e.state at k) at m now).next_number at m)) h

pub taken_walks : (f : Frame) (ls : List Line) (at : EntryPlace) (id : MessageId) (now : ℕ) (e : Effect) → Walks f ls e → Walks f ls (taken at id now e)
taken_walks f ls at id now e h = by (index_named e.state.places at id now)
  where
    by : (o : Option ℕ) → Walks f ls (option_map_or (λ k. taken_at lane.Durable at k now e) o e)
    by None = h
    by (Some k) = taken_at_walks lane.Durable f ls at k now e h

-- Loops.

pub repeated_walks : (P : Effect → Type 0) (step : Effect → Effect) → ((e : Effect) → P e → P (step e)) → (n : ℕ) (e : Effect) → P e → P (repeated n step e)
repeated_walks P step keeps zero e h = h
repeated_walks P step keeps (suc n) e h = keeps (repeated n step e) (repeated_walks P step keeps n e h)

pub each_walks : (P : Effect → Type 0) (step : ℕ → Effect → Effect) → ((k : ℕ) (e : Effect) → P e → P (step k e)) → (n : ℕ) (e : Effect) → P e → P (for_each_below n step e)
each_walks P step keeps zero e h = h
each_walks P step keeps (suc n) e h = keeps n (for_each_below n step e) (each_walks P step keeps n e h)

-- Purges.

oldest_walks : (kind : Lane) (f : Frame) (ls : List Line) (at : EntryPlace) (now : ℕ) (e : Effect) → OfLane kind f ls e → OfLane kind f ls (oldest_purged kind at now e)
oldest_walks kind f ls at now e h = by (message_at kind e.state at 0) refl
  where
    left : State
    left = without_at kind e.state at 0

    purges : (m : Message) → message_at kind e.state at 0 ≡ Some m → (b : Bool) → e.state.next_number ≤ (cond b (meets left m QUEUE_PURGED now) left).next_number
        → OfLane kind f ls (joined e (with_line (cond b (line.Purged m.id) (line.Emptied m.id)) (cond b (meets left m QUEUE_PURGED now) left)))
    purges m there true le = leaves kind f ls e (line.Purged m.id) (meets left m QUEUE_PURGED now)
        (λ T known g. let fair = some_of (LaneFair kind T) (message_at kind e.state at 0) m there (placed_fair kind f T e.state at 0 g) in
        meets_keeps f T left m QUEUE_PURGED now fair.0 (purged_fate T m.id (told_by kind T IsMissOf (line.Purged m.id) m known refl fair.0 fair.1)
        (told_by kind T (IsMetBy QUEUE_PURGED) (line.Purged m.id) m known (refl, refl) fair.0 fair.1)) (without_keeps f T kind e.state at 0 g))
        le (inl tt) h
    purges m there false le = leaves kind f ls e (line.Emptied m.id) left (λ T known g. without_keeps f T kind e.state at 0 g) le (inl tt) h

    by : (o : Option Message) → message_at kind e.state at 0 ≡ o → OfLane kind f ls (option_map_or (λ m. joined e (message_purged kind at now e.state m)) o e)
    by None f = h
    by (Some m) there = purges m there (is_queue at) (after_purge_rows left at m now).numbers

pub purged_walks : (kind : Lane) (f : Frame) (ls : List Line) (at : EntryPlace) (now : ℕ) (e : Effect) → OfLane kind f ls e → OfLane kind f ls (purged kind at now e)
purged_walks kind f ls at now e h = repeated_walks (OfLane kind f ls) (oldest_purged kind at now) (oldest_walks kind f ls at now) (count_at kind e.state at) e h

-- Plain messages lapse.

-- a plain message of a lane
record LapsesFairly (kind : Lane) (f : Frame) (T : Line → Type 0) (goes : ℕ → ℕ) (next k : ℕ) (m : Message) : Type 0 where
  pub fair : LaneFair kind T m
  pub waits : kind ≡ lane.Durable → IsWaiting f goes next k m

plain_at_fair : (kind : Lane) (f : Frame) (T : Line → Type 0) (goes : ℕ → ℕ) (next k index : ℕ) (p : PlainLists) → PlainFair f T goes next k p
    → IfSome (slice_get (outgoing_in kind p) index) (λ o. LapsesFairly kind f T goes next k o.message)
plain_at_fair lane.Durable f T goes next k index p h = if_some (WaitsFairly f T goes next k) (λ o. LapsesFairly lane.Durable f T goes next k o.message) (slice_get p.recoverable index)
    (λ o g. record { fair = (g.0, λ other. absurd (let none : ⊥ = cc in none)); waits = λ same. g.1 }) (get_all (WaitsFairly f T goes next k) p.recoverable index h.recoverable)
plain_at_fair lane.Express f T goes next k index p h = if_some (λ (o : Outgoing). IsFairExpress T o.message) (λ o. LapsesFairly lane.Express f T goes next k o.message) (slice_get p.express index)
    (λ o g. record { fair = (g.0, λ same. g.1); waits = λ other. absurd (let none : ⊥ = cc in none) }) (get_all (λ (o : Outgoing). IsFairExpress T o.message) p.express index h.express)

has_waited : (f : Frame) (goes : ℕ → ℕ) (next k : ℕ) (m : Message) → IsWaiting f goes next k m → HasWaited f next m.id
has_waited f goes next k m h = record { source = h.source; below = h.below; known = h.known }

pub lists_at_peer : (f : Frame) (T : Line → Type 0) (s : State) (k : ℕ) (p : PlainLists) → slice_get s.plain k ≡ Some p → (h : Keeps f T s) → PlainFair f T h.goes s.next_number k p
lists_at_peer f T s k p e h = subst (λ j. PlainFair f T h.goes s.next_number j p) (let same : 0 + k ≡ k = omega arith in same)
    (some_of (PlainFair f T h.goes s.next_number (0 + k)) (slice_get s.plain k) p e (from_get (PlainFair f T h.goes s.next_number) 0 s.plain k h.plain))

lapsed_walks : (kind : Lane) (f : Frame) (ls : List Line) (now k : ℕ) (e : Effect) → OfLane kind f ls e → OfLane kind f ls (next_lapsed kind now k e)
lapsed_walks kind f ls now k e h = at (slice_get e.state.plain k) refl
  where
    one : (p : PlainLists) → slice_get e.state.plain k ≡ Some p → (index : ℕ) (o : Outgoing) → slice_get (outgoing_in kind p) index ≡ Some o
        → OfLane kind f ls (joined e (message_lapsed kind now k index e.state o.message))
    one p there index o inside = leaves kind f ls e (line.Lapsed m.id) after
        (λ T known g. let fair = (waiting T g).fair in meets_keeps f T left m REACH_TIMEOUT now fair.0 (late_fate T m.id (told_by kind T IsFailureOf (line.Lapsed m.id) m known refl fair.0 fair.1)
        (told_by kind T (IsMetBy REACH_TIMEOUT) (line.Lapsed m.id) m known refl fair.0 fair.1))
        (plain_keeps f T e.state k (without kind index) g (λ q d. dropped_fair f T g.goes e.state.next_number k kind index q d)))
        le (rightly kind refl) h
      where
        m : Message
        m = o.message

        left : State
        left = with_plain (without kind index) e.state k

        after : State
        after = meets left m REACH_TIMEOUT now

        le : e.state.next_number ≤ after.next_number
        le = (lapsed_one kind now k index e.state m).numbers

        waiting : (T : Line → Type 0) (g : Keeps f T e.state) → LapsesFairly kind f T g.goes e.state.next_number k m
        waiting T g = some_of (λ (x : Outgoing). LapsesFairly kind f T g.goes e.state.next_number k x.message) (slice_get (outgoing_in kind p) index) o inside
            (plain_at_fair kind f T g.goes e.state.next_number k index p (lists_at_peer f T e.state k p there g))

        rightly : (x : Lane) → kind ≡ x → HasWaited f after.next_number m.id ⊎ (kind ≡ lane.Express)
        rightly lane.Express same = inr same
        rightly lane.Durable same = inl (lapsed_more f e.state.next_number after.next_number le (line.Lapsed m.id)
            (let walked : Walks f ls e = subst (λ x. OfLane x f ls e) same h in has_waited f walked.keeps.goes e.state.next_number k m ((waiting (Known ls e) walked.keeps).waits same)))

    each : (p : PlainLists) → slice_get e.state.plain k ≡ Some p → (index : ℕ) (o : Option Outgoing) → slice_get (outgoing_in kind p) index ≡ o
        → OfLane kind f ls (option_map_or (λ x. joined e (message_lapsed kind now k index e.state x.message)) o e)
    each p there index None f = h
    each p there index (Some o) inside = one p there index o inside

    first : (p : PlainLists) → slice_get e.state.plain k ≡ Some p → (o : Option ℕ)
        → OfLane kind f ls (option_map_or (λ index. option_map_or (λ x. joined e (message_lapsed kind now k index e.state x.message)) (slice_get (outgoing_in kind p) index) e) o e)
    first p there None = h
    first p there (Some index) = each p there index (slice_get (outgoing_in kind p) index) refl

    at : (o : Option PlainLists) → slice_get e.state.plain k ≡ o → OfLane kind f ls (option_map_or (λ p. option_map_or (λ index.
        option_map_or (λ x. joined e (message_lapsed kind now k index e.state x.message)) (slice_get (outgoing_in kind p) index) e) (lapsing kind now p) e) o e)
    at None f = h
    at (Some p) there = first p there (lapsing kind now p)

-- Messages of queues are swept.

swept_walks : (kind : Lane) (f : Frame) (ls : List Line) (now k : ℕ) (e : Effect) → OfLane kind f ls e → OfLane kind f ls (next_swept kind now k e)
swept_walks kind f ls now k e h = at (slice_get e.state.places.queues k) refl
  where
    one : (q : Queue) → slice_get e.state.places.queues k ≡ Some q → (index : ℕ) (m : Message) → slice_get (messages_in kind q.lists) index ≡ Some m
        → OfLane kind f ls (joined e (message_swept kind now (k + 1) index e.state m))
    one q there index m inside = leaves kind f ls e (line.Swept m.id) (meets left m RECEIVE_TIMEOUT now)
        (λ T known g. let fair = held T g in meets_keeps f T left m RECEIVE_TIMEOUT now fair.0 (swept_fate T m.id (told_by kind T IsMissOf (line.Swept m.id) m known refl fair.0 fair.1)
        (told_by kind T (IsMetBy RECEIVE_TIMEOUT) (line.Swept m.id) m known (refl, refl) fair.0 fair.1))
        (without_keeps f T kind e.state (place.Queue (k + 1)) index g))
        (swept_one kind now (k + 1) index e.state m).numbers (inl tt) h
      where
        left : State
        left = without_at kind e.state (place.Queue (k + 1)) index

        held : (T : Line → Type 0) → Keeps f T e.state → LaneFair kind T m
        held T g = some_of (LaneFair kind T) (slice_get (messages_in kind q.lists) index) m inside
            (lists_fair kind T q.lists index (some_of (QueueHas (ListsFair T)) (slice_get e.state.places.queues k) q there (get_all (QueueHas (ListsFair T)) e.state.places.queues k g.places.queues)).0)

    each : (q : Queue) → slice_get e.state.places.queues k ≡ Some q → (index : ℕ) (o : Option Message) → slice_get (messages_in kind q.lists) index ≡ o
        → OfLane kind f ls (option_map_or (λ m. joined e (message_swept kind now (k + 1) index e.state m)) o e)
    each q there index None f = h
    each q there index (Some m) inside = one q there index m inside

    first : (q : Queue) → slice_get e.state.places.queues k ≡ Some q → (o : Option ℕ)
        → OfLane kind f ls (option_map_or (λ index. option_map_or (λ m. joined e (message_swept kind now (k + 1) index e.state m)) (slice_get (messages_in kind q.lists) index) e) o e)
    first q there None = h
    first q there (Some index) = each q there index (slice_get (messages_in kind q.lists) index) refl

    at : (o : Option Queue) → slice_get e.state.places.queues k ≡ o → OfLane kind f ls (option_map_or (λ q. option_map_or (λ index.
        option_map_or (λ m. joined e (message_swept kind now (k + 1) index e.state m)) (slice_get (messages_in kind q.lists) index) e) (sweeping kind now q) e) o e)
    at None f = h
    at (Some q) there = first q there (sweeping kind now q)

-- The tick of a lane.

pub ticked_walks : (kind : Lane) (f : Frame) (ls : List Line) (now : ℕ) (e : Effect) → OfLane kind f ls e → OfLane kind f ls (lane_ticked kind now e)
ticked_walks kind f ls now e h = each_walks (OfLane kind f ls) (queue_swept kind now)
    (λ k d g. repeated_walks (OfLane kind f ls) (next_swept kind now k) (swept_walks kind f ls now k) (option_map_or (sweeping_in kind now) (slice_get d.state.places.queues k) 0) d g)
    (length e.state.places.queues) (for_each_below (length e.state.plain) (peer_lapsed kind now) e)
    (each_walks (OfLane kind f ls) (peer_lapsed kind now)
    (λ k d g. repeated_walks (OfLane kind f ls) (next_lapsed kind now k) (lapsed_walks kind f ls now k) (option_map_or (lapsing_in kind now) (slice_get d.state.plain k) 0) d g)
    (length e.state.plain) e h)
