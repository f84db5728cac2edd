-- A state whose durable lists have no express message, and what keeps it so.
use Rattle.std.proofs.Common.{refl, sym}
use Rattle.std.proofs.lemmas.List.Elements.{All-append, All-cons, All-drop, All-head, All-nil, All-push, All-tail, All-take}
use Rattle.std.specs.List.{AllByRecursion, flat_map}
use Rattle.std.specs.Option.{option_map_or}
use Rattle.std.specs.Prelude.{◌++◌, ◌-◌, ◌==◌, ◌∷◌, ◌≡◌, [], All, Bool, IfSome, List, None, Option, Some, cond, drop, false, length, option_and_then, option_map, remove, slice_get, slice_set, suc, take, true, zero, ℕ}
use Rattle.mqb_base.specs.Lanes.{lane_of}
use Rattle.mqb_base.specs.declared.class.Class.{Class}
use Rattle.mqb_base.specs.declared.ids.Identity.{Identity}
use Rattle.mqb_base.specs.declared.message.Delivery.{Delivery}
use Rattle.mqb_base.specs.declared.message.Delivery.TheVariants as delivery
use Rattle.mqb_base.specs.declared.message.Lane.TheVariants as lane
use Rattle.mqb_base.specs.declared.message.Message.{Message}
use Rattle.mqb_base.specs.declared.queues.EntryPlace.{EntryPlace}
use Rattle.mqb_base.specs.declared.queues.EntryPlace.TheVariants as place
use Rattle.mqb_base.specs.declared.queues.Place.{Place}
use Rattle.mqb_orders.specs.Rows.{Row}
use Rattle.mqb_plain.specs.Lists.{messages_of, unsent}
use Rattle.mqb_plain.specs.Plain.{PlainLists, pushed}
use Rattle.mqb_plain.specs.declared.outgoing.Outgoing.{Outgoing}
use Rattle.mqb_queue.specs.Lists.{Lists, put, without}
use Rattle.mqb_queue.specs.Places.{Places, Queue, lists_at, numbered, place_named, with_lists, with_numbered}
use Rattle.mqb_fate.specs.Asking.{goes_dead, is_transactional}
use Rattle.mqb_model.specs.Lists.{with_changed}
use Rattle.mqb_model.specs.declared.target.Target.{Target}
use Rattle.mqb_model.specs.declared.target.Target.TheVariants.{AtPeer, Here, Nowhere}
use Rattle.mqb_model.specs.rules.Notices.{admin_about, admin_told, buried, final_about, final_told, final_told_at, may_go, meets, told}
use Rattle.mqb_model.specs.rules.Numbers.{number_taken}
use Rattle.mqb_model.specs.state.Places.{is_express, placed, put_at, with_place, with_plain, without_at}
use Rattle.mqb_model.specs.state.Resolving.{peer_known, resolved}
use Rattle.mqb_model.specs.records.Packets.{is_recoverable}
use Rattle.mqb_model.specs.state.State.{State}
use Rattle.mqb_model.specs.state.Valid.{IsInOrder, IsValidState}
use Rattle.mqb_model.proofs.Lenses.{clash}
use Rattle.mqb_model.proofs.Meeting.{admin_durable, final_durable}

-- a message of a durable list
abbrev pub IsDurable : Message → Type 0
IsDurable m = is_express m.delivery ≡ false

-- a queue's durable messages are
abbrev pub QueueHolds : Queue → Type 0
QueueHolds q = All IsDurable q.lists.durable × All IsDurable q.journal.durable

-- so are a peer's
abbrev pub PlainHolds : PlainLists → Type 0
PlainHolds p = All (λ o. IsDurable o.message) p.recoverable

-- and a row's
abbrev pub RowHolds : Row → Type 0
RowHolds row = All (λ k. IsDurable k.message) row.kept

-- all places, peers and rows do
pub record HoldsIn (places : Places) (plain : List PlainLists) (outs : List Row) : Type 0 where
  pub queues : AllByRecursion QueueHolds places.queues
  pub dead : All IsDurable places.dead.durable
  pub dead_xact : All IsDurable places.dead_xact.durable
  pub journal : All IsDurable places.journal.durable
  pub waiting : AllByRecursion PlainHolds plain
  pub rows : AllByRecursion RowHolds outs

abbrev pub Holds : State → Type 0
Holds s = HoldsIn s.places s.plain s.outs

-- Lists.

set_holds : {X : Type 0} (Q : X → Type 0) (xs : List X) (i : ℕ) (y : X) → Q y → AllByRecursion Q xs → AllByRecursion Q (slice_set xs i y)
set_holds Q [] i y h all = tt
set_holds Q (x ∷ xs) zero y h all = (h, all.1)
set_holds Q (x ∷ xs) (suc i) y h all = (all.0, set_holds Q xs i y h all.1)

pub get_holds : {X : Type 0} (Q : X → Type 0) (xs : List X) (k : ℕ) → AllByRecursion Q xs → IfSome (slice_get xs k) Q
get_holds Q [] k all = tt
get_holds Q (x ∷ xs) zero all = all.0
get_holds Q (x ∷ xs) (suc k) all = get_holds Q xs k all.1

pub numbered_holds : {X : Type 0} (Q : X → Type 0) (xs : List X) (n : ℕ) → AllByRecursion Q xs → IfSome (numbered xs n) Q
numbered_holds Q xs n all = at (n == 0)
  where
    at : (b : Bool) → IfSome (cond b None (slice_get xs (n - 1))) Q
    at true = tt
    at false = get_holds Q xs (n - 1) all

pub changed_holds : {X : Type 0} (Q : X → Type 0) (change : X → X) (xs : List X) (k : ℕ) → ((x : X) → Q x → Q (change x)) → AllByRecursion Q xs
    → AllByRecursion Q (with_changed change xs k)
changed_holds Q change xs k keeps all = at (slice_get xs k) (get_holds Q xs k all)
  where
    at : (o : Option _) → IfSome o Q → AllByRecursion Q (option_map_or (λ x. slice_set xs k (change x)) o xs)
    at None h = all
    at (Some x) h = set_holds Q xs k (change x) (keeps x h) all

pub with_numbered_holds : {X : Type 0} (Q : X → Type 0) (change : X → X) (xs : List X) (n : ℕ) → ((x : X) → Q x → Q (change x)) → AllByRecursion Q xs
    → AllByRecursion Q (with_numbered xs n change)
with_numbered_holds Q change xs n keeps all = at (numbered xs n) (numbered_holds Q xs n all)
  where
    at : (o : Option _) → IfSome o Q → AllByRecursion Q (option_map_or (λ x. slice_set xs (n - 1) (change x)) o xs)
    at None h = all
    at (Some x) h = set_holds Q xs (n - 1) (change x) (keeps x h) all

pub removed_holds : {X : Type 0} (P : X → Type 0) (xs : List X) (k : ℕ) → All P xs → All P (remove xs k)
removed_holds P xs k h = All-append P (take k xs) (drop (suc k) xs) (All-take P k xs h) (All-drop P (suc k) xs h)

pub item_holds : {X : Type 0} (P : X → Type 0) (xs : List X) (k : ℕ) → All P xs → IfSome (slice_get xs k) P
item_holds P [] k h = tt
item_holds P (x ∷ xs) zero h = All-head P x xs h
item_holds P (x ∷ xs) (suc k) h = item_holds P xs k (All-tail P x xs h)

-- Places.

pub lists_hold : (s : State) (at : EntryPlace) → Holds s → IfSome (lists_at s.places at) (λ l. All IsDurable l.durable)
lists_hold s (place.Queue n) h = of (numbered s.places.queues n) (numbered_holds QueueHolds s.places.queues n h.queues)
  where
    of : (o : Option Queue) → IfSome o QueueHolds → IfSome (option_map (λ q. q.lists) o) (λ l. All IsDurable l.durable)
    of None h = tt
    of (Some q) h = h.0
lists_hold s (place.JournalOf n) h = of (numbered s.places.queues n) (numbered_holds QueueHolds s.places.queues n h.queues)
  where
    of : (o : Option Queue) → IfSome o QueueHolds → IfSome (option_map (λ q. q.journal) o) (λ l. All IsDurable l.durable)
    of None h = tt
    of (Some q) h = h.1
lists_hold s place.Dead h = h.dead
lists_hold s place.DeadXact h = h.dead_xact
lists_hold s place.Journal h = h.journal

with_lists_hold : (s : State) (at : EntryPlace) (l : Lists) → Holds s → All IsDurable l.durable → HoldsIn (with_lists s.places at l) s.plain s.outs
with_lists_hold s (place.Queue n) l h d = record {
  queues = with_numbered_holds QueueHolds (λ q. record q { lists = l }) s.places.queues n (λ q k. (d, k.1)) h.queues;
  dead = h.dead;
  dead_xact = h.dead_xact;
  journal = h.journal;
  waiting = h.waiting;
  rows = h.rows;
}
with_lists_hold s (place.JournalOf n) l h d = record {
  queues = with_numbered_holds QueueHolds (λ q. record q { journal = l }) s.places.queues n (λ q k. (k.0, d)) h.queues;
  dead = h.dead;
  dead_xact = h.dead_xact;
  journal = h.journal;
  waiting = h.waiting;
  rows = h.rows;
}
with_lists_hold s place.Dead l h d = record { queues = h.queues; dead = d; dead_xact = h.dead_xact; journal = h.journal; waiting = h.waiting; rows = h.rows }
with_lists_hold s place.DeadXact l h d = record { queues = h.queues; dead = h.dead; dead_xact = d; journal = h.journal; waiting = h.waiting; rows = h.rows }
with_lists_hold s place.Journal l h d = record { queues = h.queues; dead = h.dead; dead_xact = h.dead_xact; journal = d; waiting = h.waiting; rows = h.rows }

place_holds : (s : State) (at : EntryPlace) (g : Lists → Lists) → ((l : Lists) → All IsDurable l.durable → All IsDurable (g l).durable) → Holds s → Holds (with_place g s at)
place_holds s at g keeps h = by (lists_at s.places at) (lists_hold s at h)
  where
    by : (o : Option Lists) → IfSome o (λ l. All IsDurable l.durable) → HoldsIn (option_map_or (λ l. with_lists s.places at (g l)) o s.places) s.plain s.outs
    by None d = h
    by (Some l) d = with_lists_hold s at (g l) h (keeps l d)

pub put_holds : (s : State) (at : EntryPlace) (m : Message) → IsDurable m → Holds s → Holds (put_at s at m)
put_holds s at m d h = by m.delivery d
  where
    by : (x : Delivery) → is_express x ≡ false → Holds (with_place (put (lane_of x) m) s at)
    by delivery.Express e = absurd (clash e)
    by delivery.Recoverable e = place_holds s at (put lane.Durable m) (λ l k. All-push IsDurable l.durable m k d) h
    by delivery.Transactional e = place_holds s at (put lane.Durable m) (λ l k. All-push IsDurable l.durable m k d) h

pub without_holds : (s : State) (at : EntryPlace) (k : ℕ) → Holds s → Holds (without_at lane.Durable s at k)
without_holds s at k h = place_holds s at (without lane.Durable k) (λ l d. removed_holds IsDurable l.durable k d) h

-- Peers.

pub plain_holds : (s : State) (k : ℕ) (g : PlainLists → PlainLists) → ((p : PlainLists) → PlainHolds p → PlainHolds (g p)) → Holds s → Holds (with_plain g s k)
plain_holds s k g keeps h = record {
  queues = h.queues;
  dead = h.dead;
  dead_xact = h.dead_xact;
  journal = h.journal;
  waiting = changed_holds PlainHolds g s.plain k keeps h.waiting;
  rows = h.rows;
}

pushed_holds : (s : State) (k : ℕ) (m : Message) → IsDurable m → Holds s → Holds (with_plain (pushed (lane_of m.delivery) m) s k)
pushed_holds s k m d h = by m.delivery d
  where
    by : (x : Delivery) → is_express x ≡ false → Holds (with_plain (pushed (lane_of x) m) s k)
    by delivery.Express e = absurd (clash e)
    by delivery.Recoverable e = plain_holds s k (pushed lane.Durable m) (λ p r. All-push (λ o. IsDurable o.message) p.recoverable (unsent m) r d) h
    by delivery.Transactional e = plain_holds s k (pushed lane.Durable m) (λ p r. All-push (λ o. IsDurable o.message) p.recoverable (unsent m) r d) h

-- Notices.

pub placed_holds : (s : State) (t : Target) (m : Message) → IsDurable m → Holds s → Holds (placed s t m)
placed_holds s (Here None) m d h = h
placed_holds s (Here (Some n)) m d h = put_holds s (place.Queue n) m d h
placed_holds s (AtPeer k) m d h = pushed_holds s k m d h
placed_holds s Nowhere m d h = h

number_holds : (s : State) (x : Delivery) → Holds s → Holds (number_taken s x)
number_holds s delivery.Express h = h
number_holds s x h = h

told_holds : (s : State) (t : Target) (n : Message) → IsDurable n → Holds s → Holds (told s t n)
told_holds s t n d h = at (may_go s t n.delivery)
  where
    at : (b : Bool) → Holds (cond b (placed (number_taken s n.delivery) t n) s)
    at true = placed_holds (number_taken s n.delivery) t n d (number_holds s n.delivery h)
    at false = h

admin_holds : (s : State) (m : Message) (class : Class) (now : ℕ) → IsDurable m → Holds s → Holds (admin_told s m class now)
admin_holds s m class now d h = at (admin_about s m class now) (admin_durable s m class now d)
  where
    at : (o : Option Message) → IfSome o IsDurable → Holds (option_map_or (λ n. told s (resolved s n.destination) n) o s)
    at None e = h
    at (Some n) e = told_holds s (resolved s n.destination) n e h

final_holds : (s : State) (m : Message) (class : Class) (now : ℕ) → Holds s → Holds (final_told s m class now)
final_holds s m class now h = at (peer_known s m.id.qm)
  where
    told_to : (k : ℕ) (o : Option Message) → IfSome o IsDurable → Holds (option_map_or (told s (AtPeer k)) o s)
    told_to k None e = h
    told_to k (Some n) e = told_holds s (AtPeer k) n e h

    to : (k : ℕ) (o : Option Identity) → Holds (option_map_or (λ peer. final_told_at s k peer m class now) o s)
    to k None = h
    to k (Some peer) = told_to k (final_about s peer m class now) (final_durable s peer m class now)

    at : (o : Option ℕ) → Holds (option_map_or (λ k. option_map_or (λ peer. final_told_at s k peer m class now) (slice_get s.peers k) s) o s)
    at None = h
    at (Some k) = to k (slice_get s.peers k)

buried_holds : (s : State) (m : Message) (class : Class) → IsDurable m → Holds s → Holds (buried s m class)
buried_holds s m class d h = at (goes_dead m class s.identity.guid)
  where
    into : (o : Option EntryPlace) → Holds (option_map_or (λ at. put_at s at m) o s)
    into None = h
    into (Some at) = put_holds s at m d h

    at : (o : Option Place) → Holds (option_map_or (λ at. put_at s at m) (option_and_then (place_named s.places.queues) o) s)
    at None = h
    at (Some p) = into (place_named s.places.queues p)

pub meets_holds : (s : State) (m : Message) (class : Class) (now : ℕ) → IsDurable m → Holds s → Holds (meets s m class now)
meets_holds s m class now d h = let one = admin_told s m class now in let two = final_told one m class now in
    buried_holds two m class d (final_holds one m class now (admin_holds s m class now d h))

-- Valid states.

append_left : {X : Type 0} (P : X → Type 0) (xs ys : List X) → All P (xs ++ ys) → All P xs
append_left P [] ys h = All-nil P
append_left P (x ∷ xs) ys h = All-cons P x xs (All-head P x (xs ++ ys) h) (append_left P xs ys (All-tail P x (xs ++ ys) h))

append_right : {X : Type 0} (P : X → Type 0) (xs ys : List X) → All P (xs ++ ys) → All P ys
append_right P [] ys h = h
append_right P (x ∷ xs) ys h = append_right P xs ys (All-tail P x (xs ++ ys) h)

queues_of : (qs : List Queue) → All IsDurable (flat_map (λ q. q.lists.durable ++ q.journal.durable) qs) → AllByRecursion QueueHolds qs
queues_of [] h = tt
queues_of (q ∷ qs) h = let rest = flat_map (λ q. q.lists.durable ++ q.journal.durable) qs in
    let both = append_left IsDurable (q.lists.durable ++ q.journal.durable) rest h in (
      (append_left IsDurable q.lists.durable q.journal.durable both, append_right IsDurable q.lists.durable q.journal.durable both),
      queues_of qs (append_right IsDurable (q.lists.durable ++ q.journal.durable) rest h),
    )

pub not_express : (d : Delivery) → is_recoverable d ≡ true → is_express d ≡ false
not_express delivery.Express h = refl_of h
  where
    refl_of : false ≡ true → true ≡ false
    refl_of h = sym h
not_express delivery.Recoverable h = refl
not_express delivery.Transactional h = refl

pub transactional_durable : (d : Delivery) → is_transactional d ≡ true → is_express d ≡ false
transactional_durable delivery.Express h = sym h
transactional_durable delivery.Recoverable h = refl
transactional_durable delivery.Transactional h = refl

items_of : (items : List Outgoing) → All (λ m. is_recoverable m.delivery ≡ true) (messages_of items) → All (λ o. IsDurable o.message) items
items_of [] h = All-nil _
items_of (o ∷ items) h = All-cons (λ o. IsDurable o.message) o items (not_express o.message.delivery (All-head (λ m. is_recoverable m.delivery ≡ true) o.message (messages_of items) h))
    (items_of items (All-tail (λ m. is_recoverable m.delivery ≡ true) o.message (messages_of items) h))

plain_of : (ps : List PlainLists) → All (λ m. is_recoverable m.delivery ≡ true) (flat_map (λ p. messages_of p.recoverable) ps) → AllByRecursion PlainHolds ps
plain_of [] h = tt
plain_of (p ∷ ps) h = (
  items_of p.recoverable (append_left (λ m. is_recoverable m.delivery ≡ true) (messages_of p.recoverable) (flat_map (λ p. messages_of p.recoverable) ps) h),
  plain_of ps (append_right (λ m. is_recoverable m.delivery ≡ true) (messages_of p.recoverable) (flat_map (λ p. messages_of p.recoverable) ps) h),
)

rows_of : (peers : ℕ) (rows : List Row) → All (IsInOrder peers) rows → AllByRecursion RowHolds rows
rows_of peers [] h = tt
rows_of peers (row ∷ rows) h = (
  λ k d lt. transactional_durable _ (((All-head (IsInOrder peers) row rows h).kept k d lt).transactional),
  rows_of peers rows (All-tail (IsInOrder peers) row rows h),
)

pub valid_holds : (s : State) → IsValidState s → Holds s
valid_holds s v = record {
  queues = queues_of s.places.queues (append_left IsDurable in_queues s.places.dead.durable two);
  dead = append_right IsDurable in_queues s.places.dead.durable two;
  dead_xact = append_right IsDurable (in_queues ++ s.places.dead.durable) s.places.dead_xact.durable three;
  journal = append_right IsDurable (in_queues ++ s.places.dead.durable ++ s.places.dead_xact.durable) s.places.journal.durable v.durable;
  waiting = plain_of s.plain v.recoverable;
  rows = rows_of (length s.peers) s.outs v.rows;
}
  where
    in_queues : List Message
    in_queues = flat_map (λ q. q.lists.durable ++ q.journal.durable) s.places.queues

    three : All IsDurable (in_queues ++ s.places.dead.durable ++ s.places.dead_xact.durable)
    three = append_left IsDurable (in_queues ++ s.places.dead.durable ++ s.places.dead_xact.durable) s.places.journal.durable v.durable

    two : All IsDurable (in_queues ++ s.places.dead.durable)
    two = append_left IsDurable (in_queues ++ s.places.dead.durable) s.places.dead_xact.durable three
