-- What a manager lacks for a peer it lacks behind whatever it sends and hears, but for notices about what it hears.
use Rattle.std.proofs.Common.{◌≡◌, ℕ, zero, suc, ◌⊎◌, inl, inr, ◌==◌, ◌&&◌, ◌||◌, Bool, true, false, cond, max, nat_lt, List, [], ◌∷◌, Option, Some, None, refl, sym, ap, subst, ◌∙◌, arith}
use Rattle.std.proofs.lemmas.Bool.{true≢false}
use Rattle.std.proofs.lemmas.Bool.Decides.{nat_tests}
use Rattle.std.specs.List.{AllByRecursion, list_any}
use Rattle.std.specs.Option.{option_map_or}
use Rattle.std.specs.Prelude.{IfSome, filter, fold, map, option_and_then, position, remove, slice_get}
use Rattle.mqb_base.specs.Bits.{keeps_dead}
use Rattle.mqb_base.specs.Classes.{is_negative}
use Rattle.mqb_base.specs.Lanes.{lane_of}
use Rattle.mqb_base.specs.declared.class.Class.{Class}
use Rattle.mqb_base.specs.declared.class.TheConstants.Class.{NORMAL, REACHED_QUEUE}
use Rattle.mqb_base.specs.declared.heads.TxHead.{TxHead}
use Rattle.mqb_base.specs.declared.ids.MessageId.{MessageId}
use Rattle.mqb_base.specs.declared.message.Delivery.{Delivery}
use Rattle.mqb_base.specs.declared.message.Delivery.TheVariants as delivery
use Rattle.mqb_base.specs.declared.message.Lane.TheVariants as lane
use Rattle.mqb_base.specs.declared.message.Message.{Message}
use Rattle.mqb_base.specs.declared.queue_names.QueueName.{QueueName}
use Rattle.mqb_base.specs.declared.queues.EntryPlace.TheVariants as place
use Rattle.mqb_fate.specs.Asking.{is_ordinary}
use Rattle.mqb_fate.specs.Notices.{notice_about}
use Rattle.mqb_model.specs.Lists.{with_changed, with_first_changed, without_first}
use Rattle.mqb_model.specs.declared.target.Target.{Target}
use Rattle.mqb_model.specs.declared.target.Target.TheVariants.{AtPeer, Here, Nowhere}
use Rattle.mqb_model.specs.managers.Beside.{all_unmarked}
use Rattle.mqb_model.specs.managers.Readers.{awaits}
use Rattle.mqb_model.specs.records.Arrived.{part_made}
use Rattle.mqb_model.specs.records.Decisions.{message_decided, with_decided}
use Rattle.mqb_model.specs.records.Finals.{dead_for, final_stored, finished_at, finished_by, finished_row, index_finished, is_offered_as, kept_named, with_finished}
use Rattle.mqb_model.specs.records.Record.{Decided, Final, Nothing, OrderAcknowledged, Part, Stored}
use Rattle.mqb_model.specs.records.Releases.{has_recoverable, is_released_by, message_released, without_recoverable}
use Rattle.mqb_model.specs.rules.Arrivals.{refusal_of, storing_refusal}
use Rattle.mqb_model.specs.rules.Effects.{Effect, joined}
use Rattle.mqb_model.specs.rules.Notices.{arrived, may_go, meets, told}
use Rattle.mqb_model.specs.rules.Numbers.{number_taken}
use Rattle.mqb_model.specs.state.Places.{is_express, placed, put_at, with_plain}
use Rattle.mqb_model.specs.state.Resolving.{peer_known, resolved}
use Rattle.mqb_model.specs.state.Rows.{has_ordinal, with_row}
use Rattle.mqb_model.specs.state.State.{State}
use Rattle.mqb_orders.specs.Rows.{Row, acknowledged}
use Rattle.mqb_orders.specs.declared.kept.Kept.{Kept}
use Rattle.mqb_packet.specs.declared.packet.Packet.{Packet}
use Rattle.mqb_packet.specs.declared.packet.Packet.TheVariants as packet
use Rattle.mqb_packet.specs.declared.packet.UserPacket.{UserPacket}
use Rattle.mqb_plain.specs.Lists.{unmarked, unsent}
use Rattle.mqb_plain.specs.Plain.{PlainLists, pushed}
use Rattle.mqb_plain.specs.declared.outgoing.Outgoing.{Outgoing}
use Rattle.mqb_law_meetings.proofs.Firsts.{all_append, all_weaker, changed_all, changed_cons}
use Rattle.mqb_law_meetings.proofs.Noticing.{IsOfNotice, lands, meets_by, refuses, refuses_stored, stored_unrefused}

-- no message among these passes a test
abbrev pub NoneOf : (Message → Bool) → List Outgoing → Type 0
NoneOf test items = AllByRecursion (λ o. test o.message ≡ false) items

abbrev pub HasNone : (Message → Bool) → PlainLists → Type 0
HasNone test p = NoneOf test p.recoverable

-- for the peer at an index no number of a row waits, and no recoverable message that passes a test
pub record Lacks (test : Message → Bool) (s : State) (k : ℕ) : Type 0 where
  pub plain : IfSome (slice_get s.plain k) (HasNone test)
  pub rows : AllByRecursion (λ row. awaits k row ≡ false) s.outs

-- whatever one state lacks, another one lacks
pub record Lessens (test : Message → Bool) (s t : State) : Type 0 where
  pub lacks : (k : ℕ) → Lacks test s k → Lacks test t k

-- a test that no notice passes
abbrev pub IsOfOrdinary : (Message → Bool) → Type 0
IsOfOrdinary test = (m : Message) → is_ordinary m ≡ false → test m ≡ false

-- no notice about a message passes: there is none, or none does
abbrev pub TellsNone : (Message → Bool) → Message → Type 0
TellsNone test m = (is_ordinary m ≡ false) ⊎ IsOfOrdinary test

-- what a packet says is not ordinary
abbrev pub SaysNoOrdinary : Packet → Type 0
SaysNoOrdinary (packet.User u) = is_ordinary u.message ≡ false
SaysNoOrdinary _ = Unit {0}

-- no notice that passes comes of what a manager has for the peer at an index
abbrev pub BringsNone : (Message → Bool) → State → ℕ → Type 0
BringsNone test s k = Lacks is_ordinary s k ⊎ IsOfOrdinary test

-- Lists of which a member is another one, or leaves.

changed_if : {X : Type 0} (P : X → Type 0) (change : X → X) → ((x : X) → P x → P (change x)) → (xs : List X) (i k : ℕ) → IfSome (slice_get xs k) P → IfSome (slice_get (with_changed change xs i) k) P
changed_if P change keeps [] i k h = h
changed_if P change keeps (x ∷ xs) zero zero h = keeps x h
changed_if P change keeps (x ∷ xs) zero (suc k) h = h
changed_if P change keeps (x ∷ xs) (suc i) zero h = subst (λ ys. IfSome (slice_get ys 0) P) (sym (changed_cons change x xs i)) h
changed_if P change keeps (x ∷ xs) (suc i) (suc k) h = subst (λ ys. IfSome (slice_get ys (suc k)) P) (sym (changed_cons change x xs i)) (changed_if P change keeps xs i k h)

first_changed_if : {X : Type 0} (P : X → Type 0) (change : X → X) (passes : X → Bool) → ((x : X) → P x → P (change x)) → (xs : List X) (k : ℕ) → IfSome (slice_get xs k) P
    → IfSome (slice_get (with_first_changed change passes xs) k) P
first_changed_if P change passes keeps xs k h = at (position passes xs)
  where
    at : (o : Option ℕ) → IfSome (slice_get (option_map_or (with_changed change xs) o xs) k) P
    at None = h
    at (Some i) = changed_if P change keeps xs i k h

first_changed_all : {X : Type 0} (P : X → Type 0) (change : X → X) (passes : X → Bool) → ((x : X) → P x → P (change x)) → (xs : List X) → AllByRecursion P xs
    → AllByRecursion P (with_first_changed change passes xs)
first_changed_all P change passes keeps xs h = at (position passes xs)
  where
    at : (o : Option ℕ) → AllByRecursion P (option_map_or (with_changed change xs) o xs)
    at None = h
    at (Some i) = changed_all P change keeps xs i h

all_removed : {X : Type 0} (P : X → Type 0) (xs : List X) (i : ℕ) → AllByRecursion P xs → AllByRecursion P (remove xs i)
all_removed P [] zero h = tt
all_removed P [] (suc i) h = tt
all_removed P (x ∷ xs) zero h = h.1
all_removed P (x ∷ xs) (suc i) h = (h.0, all_removed P xs i h.1)

all_without : {X : Type 0} (P : X → Type 0) (passes : X → Bool) (xs : List X) → AllByRecursion P xs → AllByRecursion P (without_first passes xs)
all_without P passes xs h = at (position passes xs)
  where
    at : (o : Option ℕ) → AllByRecursion P (option_map_or (remove xs) o xs)
    at None = h
    at (Some i) = all_removed P xs i h

all_filtered : {X : Type 0} (P : X → Type 0) (f : X → Bool) (xs : List X) → AllByRecursion P xs → AllByRecursion P (filter f xs)
all_filtered P f [] h = tt
all_filtered P f (x ∷ xs) h = at (f x) h.0 (all_filtered P f xs h.1)
  where
    at : (b : Bool) → P x → AllByRecursion P (filter f xs) → AllByRecursion P (cond b (x ∷ filter f xs) (filter f xs))
    at true head rest = (head, rest)
    at false head rest = rest

-- none passes where each fails
pub each_fails : {X : Type 0} (f : X → Bool) (xs : List X) → list_any f xs ≡ false → AllByRecursion (λ x. f x ≡ false) xs
each_fails f [] none = tt
each_fails f (x ∷ xs) none = at (f x) refl none (each_fails f xs)
  where
    at : (b : Bool) → f x ≡ b → (b || list_any f xs) ≡ false → (list_any f xs ≡ false → AllByRecursion (λ y. f y ≡ false) xs) → AllByRecursion (λ y. f y ≡ false) (x ∷ xs)
    at true e none rest = absurd (true≢false none)
    at false e none rest = (e, rest none)

pub none_passes : {X : Type 0} (f : X → Bool) (xs : List X) → AllByRecursion (λ x. f x ≡ false) xs → list_any f xs ≡ false
none_passes f [] h = refl
none_passes f (x ∷ xs) h = ap (λ b. b || list_any f xs) h.0 ∙ none_passes f xs h.1

-- A row of which no number waits, once more of it is acknowledged, or a number is finished.

acknowledged_awaits : (number k : ℕ) (row : Row) → awaits k row ≡ false → awaits k (acknowledged number row) ≡ false
acknowledged_awaits number k row none = at (row.peer == k) none
  where
    high : ℕ
    high = max row.acked number

    over : (n : Kept) → nat_lt row.acked n.number ≡ false → nat_lt high n.number ≡ false
    over n e = grind (arith, nat_tests, e)

    at : (b : Bool) → (b && list_any (λ n. nat_lt row.acked n.number) row.kept) ≡ false → (b && list_any (λ n. nat_lt high n.number) (acknowledged number row).kept) ≡ false
    at true h = none_passes (λ (n : Kept). nat_lt high n.number) (acknowledged number row).kept
        (all_filtered (λ n. nat_lt high n.number ≡ false) (λ n. nat_lt high n.number || keeps_dead n.message) row.kept
        (all_weaker (λ n. nat_lt row.acked n.number ≡ false) (λ n. nat_lt high n.number ≡ false) over row.kept (each_fails (λ (n : Kept). nat_lt row.acked n.number) row.kept h)))
    at false h = refl

finished_awaits : (id : MessageId) (number k : ℕ) (row : Row) → awaits k row ≡ false → awaits k (finished_row id number row) ≡ false
finished_awaits id number k row none = acknowledged_awaits number k (record row { kept = without_first (is_offered_as id row) row.kept }) (at (row.peer == k) none)
  where
    waits : Kept → Bool
    waits n = nat_lt row.acked n.number

    at : (b : Bool) → (b && list_any waits row.kept) ≡ false → (b && list_any waits (without_first (is_offered_as id row) row.kept)) ≡ false
    at true h = none_passes waits (without_first (is_offered_as id row) row.kept) (all_without (λ n. waits n ≡ false) (is_offered_as id row) row.kept (each_fails waits row.kept h))
    at false h = refl

module _ (test : Message → Bool) where
  -- States of which the one lacks what the other one lacks.

  pub lessens_same : (s t : State) → t.plain ≡ s.plain → t.outs ≡ s.outs → Lessens test s t
  lessens_same s t plain outs = record {
    lacks = λ k h. record {
      plain = subst (λ (ps : List PlainLists). IfSome (slice_get ps k) (HasNone test)) (sym plain) h.plain;
      rows = subst (λ (rows : List Row). AllByRecursion (λ row. awaits k row ≡ false) rows) (sym outs) h.rows;
    };
  }

  pub stays : (s : State) → Lessens test s s
  stays s = record { lacks = λ k h. h }

  pub then : (s t u : State) → Lessens test s t → Lessens test t u → Lessens test s u
  then s t u one two = record { lacks = λ k h. two.lacks k (one.lacks k h) }

  pub plain_lessens : (change : PlainLists → PlainLists) → ((p : PlainLists) → HasNone test p → HasNone test (change p)) → (s t : State) (i : ℕ) → t.plain ≡ with_changed change s.plain i → t.outs ≡ s.outs
      → Lessens test s t
  plain_lessens change keeps s t i plain outs = record {
    lacks = λ k h. record {
      plain = subst (λ (ps : List PlainLists). IfSome (slice_get ps k) (HasNone test)) (sym plain) (changed_if (HasNone test) change keeps s.plain i k h.plain);
      rows = subst (λ (rows : List Row). AllByRecursion (λ row. awaits k row ≡ false) rows) (sym outs) h.rows;
    };
  }

  pub row_lessens : (change : Row → Row) → ((k : ℕ) (row : Row) → awaits k row ≡ false → awaits k (change row) ≡ false) → (s : State) (ordinal : ℕ) → Lessens test s (with_row change s ordinal)
  row_lessens change keeps s ordinal = record {
    lacks = λ k h. record {
      plain = h.plain;
      rows = first_changed_all (λ row. awaits k row ≡ false) change (has_ordinal ordinal) (keeps k) s.outs h.rows;
    };
  }

  -- A message that a final acknowledgement names.

  pub final_lessens : (s : State) (m : Message) → Lessens test s (final_stored s m).state
  final_lessens s m = known (peer_known s m.id.qm)
    where
      named : (i : ℕ) (o : Option Kept) → Lessens test s (option_map_or (λ n. dead_for m.class (with_finished m.correlation s i n) n.message) o s)
      named i None = stays s
      named i (Some n) = then s (with_finished m.correlation s i n) (dead_for m.class (with_finished m.correlation s i n) n.message)
          (record { lacks = λ k h. record { plain = h.plain; rows = changed_all (λ row. awaits k row ≡ false) (finished_row m.correlation n.number) (finished_awaits m.correlation n.number k) s.outs i h.rows } })
          (by (is_negative m.class.0))
        where
          by : (b : Bool) → Lessens test (with_finished m.correlation s i n) (cond b (put_at (with_finished m.correlation s i n) place.DeadXact n.message) (with_finished m.correlation s i n))
          by true = lessens_same (with_finished m.correlation s i n) _ refl refl
          by false = stays (with_finished m.correlation s i n)

      indexed : (o : Option ℕ) → Lessens test s (option_map_or (finished_at s m) o s)
      indexed None = stays s
      indexed (Some i) = named i (option_and_then (kept_named m.correlation) (slice_get s.outs i))

      known : (o : Option ℕ) → Lessens test s (option_map_or (λ peer. finished_by s peer m) o s)
      known None = stays s
      known (Some peer) = indexed (index_finished s peer m)

  -- What is released.

  pub released_lessens : (e : Effect) (numbers : List ℕ) → Lessens test e.state (fold message_released e numbers).state
  released_lessens e [] = stays e.state
  released_lessens e (n ∷ numbers) = then e.state (message_released e n).state (fold message_released e (n ∷ numbers)).state
      (record {
        lacks = λ k h. record {
          plain = first_changed_if (HasNone test) (without_recoverable e.state n) (has_recoverable e.state n)
              (λ p none. all_without (λ (o : Outgoing). test o.message ≡ false) (is_released_by e.state n) p.recoverable none) e.state.plain k h.plain;
          rows = h.rows;
        };
      })
      (released_lessens (message_released e n) numbers)

  -- Notices.

  told_lessens : (s : State) (target : Target) (notice : Message) → test notice ≡ false → Lessens test s (told s target notice)
  told_lessens s target notice none = at (may_go s target notice.delivery)
    where
      peer : (d : Delivery) (k : ℕ) → Lessens test s (with_plain (pushed (lane_of d) notice) (number_taken s d) k)
      peer delivery.Express k = plain_lessens (pushed lane.Express notice) (λ p h. h) s _ k refl refl
      peer delivery.Recoverable k = plain_lessens (pushed lane.Durable notice) (λ p h. all_append (λ (o : Outgoing). test o.message ≡ false) p.recoverable (unsent notice ∷ []) h (none, tt)) s _ k refl refl
      peer delivery.Transactional k = plain_lessens (pushed lane.Durable notice) (λ p h. all_append (λ (o : Outgoing). test o.message ≡ false) p.recoverable (unsent notice ∷ []) h (none, tt)) s _ k refl refl

      taken : (d : Delivery) → Lessens test s (number_taken s d)
      taken delivery.Express = lessens_same s _ refl refl
      taken delivery.Recoverable = lessens_same s _ refl refl
      taken delivery.Transactional = lessens_same s _ refl refl

      go : (t : Target) → Lessens test s (placed (number_taken s notice.delivery) t notice)
      go (AtPeer k) = peer notice.delivery k
      go (Here None) = taken notice.delivery
      go (Here (Some number)) = then s (number_taken s notice.delivery) _ (taken notice.delivery) (lessens_same (number_taken s notice.delivery) _ refl refl)
      go Nowhere = taken notice.delivery

      at : (b : Bool) → Lessens test s (cond b (placed (number_taken s notice.delivery) target notice) s)
      at true = go target
      at false = stays s

  module _ (m : Message) (class : Class) (now : ℕ) (tells : TellsNone test m) (other : (class.0 == NORMAL.0) ≡ false) where
    -- a notice about an ordinary message does not pass
    unseen : is_ordinary m ≡ true → (d : Delivery) (to : QueueName) (id : MessageId) → test (notice_about m class d to id now) ≡ false
    unseen is d to id = by tells
      where
        by : TellsNone test m → test (notice_about m class d to id now) ≡ false
        by (inl other_class) = absurd (true≢false (sym is ∙ other_class))
        by (inr silent) = silent (notice_about m class d to id now) other

    pub meets_lessens : (s : State) → Lessens test s (meets s m class now)
    meets_lessens = meets_by (λ s t count. Lessens test s t) (λ s count. stays s) (λ s t u i j count within. then s t u) m class now (λ s at. lessens_same s _ refl refl)
        (λ is s target d which to id. told_lessens s target (notice_about m class d to id now) (unseen is d to id))

  -- Arrivals.

  pub arrived_lessens : (s : State) (m : Message) (now : ℕ) (refusal : Option Class) → TellsNone test m → IsOfNotice refusal → (refusal ≡ None → Lessens test s (placed s (resolved s m.destination) m))
      → Lessens test s (arrived s m now refusal)
  arrived_lessens s m now (Some class) tells class_is put = meets_lessens m class now tells class_is s
  arrived_lessens s m now None tells class_is put = then s (placed s (resolved s m.destination) m) _ (put refl) (meets_lessens m REACHED_QUEUE now tells refl (placed s (resolved s m.destination) m))

  -- what is not refused is put here
  puts : (s : State) (p : UserPacket) → refusal_of s p ≡ None → (t : State) → resolved t p.message.destination ≡ resolved s p.message.destination
      → Lessens test t (placed t (resolved t p.message.destination) p.message)
  puts s p e t same_target = let h = lands s p e in subst (λ target. Lessens test t (placed t target p.message)) (sym (same_target ∙ h.1)) (lessens_same t _ refl refl)

  pub express_placed : (s : State) (target : Target) (m : Message) → is_express m.delivery ≡ true → Lessens test s (placed s target m)
  express_placed s (AtPeer k) m express = plain_lessens (pushed (lane_of m.delivery) m) (λ p h. by p m.delivery express h) s _ k refl refl
    where
      by : (p : PlainLists) (d : Delivery) → is_express d ≡ true → HasNone test p → HasNone test (pushed (lane_of d) m p)
      by p delivery.Express e h = h
      by p delivery.Recoverable e h = absurd (let no : ⊥ = cc in no)
      by p delivery.Transactional e h = absurd (let no : ⊥ = cc in no)
  express_placed s (Here None) m express = stays s
  express_placed s (Here (Some number)) m express = lessens_same s _ refl refl
  express_placed s Nowhere m express = stays s

  -- no notice comes about what a part of a record brings
  abbrev pub PartTellsNone : Part → Type 0
  PartTellsNone (Decided p) = TellsNone test p.message
  PartTellsNone (Stored p) = TellsNone test p.message
  PartTellsNone _ = Unit {0}

  pub part_lessens : (now : ℕ) (e : Effect) (part : Part) → PartTellsNone part → Lessens test e.state (part_made now e part).state
  part_lessens now e Nothing tells = stays e.state
  part_lessens now e (Decided p) tells = at p.tx
    where
      at : (o : Option TxHead) → Lessens test e.state (option_map_or (λ tx. joined e (message_decided now e.state p tx)) o e).state
      at None = stays e.state
      at (Some tx) = then e.state (with_decided e.state p.message tx) _ (lessens_same e.state (with_decided e.state p.message tx) refl refl)
          (arrived_lessens (with_decided e.state p.message tx) p.message now (refusal_of e.state p) tells (refuses e.state p)
          (λ none. puts e.state p none (with_decided e.state p.message tx) refl))
  part_lessens now e (Stored p) tells = arrived_lessens e.state p.message now (storing_refusal e.state p) tells (refuses_stored e.state p)
      (λ none. puts e.state p (stored_unrefused e.state p none) e.state refl)
  part_lessens now e (OrderAcknowledged ordinal number) tells = row_lessens (acknowledged number) (acknowledged_awaits number) e.state ordinal
  part_lessens now e (Final p) tells = final_lessens e.state p.message

-- no notice is ordinary
pub of_ordinary : IsOfOrdinary is_ordinary
of_ordinary m other = other

pub brings_still : (test : Message → Bool) (s t : State) (k : ℕ) → Lessens is_ordinary s t → BringsNone test s k → BringsNone test t k
brings_still test s t k less (inl lacks) = inl (less.lacks k lacks)
brings_still test s t k less (inr silent) = inr silent

-- A connection ends.

unmarked_if : (test : Message → Bool) (ps : List PlainLists) (k : ℕ) → IfSome (slice_get ps k) (HasNone test) → IfSome (slice_get (map all_unmarked ps) k) (HasNone test)
unmarked_if test [] k h = h
unmarked_if test (p ∷ ps) zero h = each p.recoverable h
  where
    each : (items : List Outgoing) → NoneOf test items → NoneOf test (unmarked items)
    each [] h = tt
    each (o ∷ items) h = (h.0, each items h.1)
unmarked_if test (p ∷ ps) (suc k) h = unmarked_if test ps k h

pub parted_lessens : (test : Message → Bool) (s : State) → Lessens test s (record s { plain = map all_unmarked s.plain })
parted_lessens test s = record { lacks = λ k h. record { plain = unmarked_if test s.plain k h.plain; rows = h.rows } }
