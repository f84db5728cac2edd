-- What stands in queues, and what waits for peers, is still there behind whatever lets none of it leave.
use Rattle.std.proofs.Common.{refl, ap, sym, subst, ◌∙◌, arith, inl, inr}
use Rattle.std.specs.Option.{option_map_or}
use Rattle.std.specs.Prelude.{[], ◌++◌, ◌-◌, ◌∷◌, ◌≡◌, ◌≤◌, ◌⊎◌, Bool, List, None, Option, Some, cond, false, fold, is_none, length, map, option_and_then, option_map, remove, slice_get, slice_set, suc, true, zero, ℕ}
use Rattle.mqb_base.specs.Bits.{keeps_copy}
use Rattle.mqb_base.specs.Lanes.{lane_of}
use Rattle.mqb_base.specs.declared.class.Class.{Class}
use Rattle.mqb_base.specs.declared.class.TheConstants.Class.{REACHED_QUEUE}
use Rattle.mqb_base.specs.declared.heads.SessionHead.{SessionHead}
use Rattle.mqb_base.specs.declared.message.Delivery.{Delivery}
use Rattle.mqb_base.specs.declared.message.Delivery.TheVariants as delivery
use Rattle.mqb_base.specs.declared.message.Lane.{Lane}
use Rattle.mqb_base.specs.declared.message.Lane.TheVariants as lane
use Rattle.mqb_base.specs.declared.message.Message.{Message}
use Rattle.mqb_base.specs.declared.queues.EntryPlace.{EntryPlace}
use Rattle.mqb_base.specs.declared.queues.EntryPlace.TheVariants as place
use Rattle.mqb_exactly_once.specs.Words.{In}
use Rattle.mqb_model.specs.declared.target.Target.{Target}
use Rattle.mqb_model.specs.declared.target.Target.TheVariants.{AtPeer, Here, Nowhere}
use Rattle.mqb_model.specs.managers.Beside.{Origin, all_unmarked, noted, noted_as, with_marked, without_acked}
use Rattle.mqb_model.specs.managers.Beside as beside
use Rattle.mqb_model.specs.rules.Notices.{admin_about, admin_told, arrived, buried, dead_place, final_about, final_told, final_told_at, may_go, meets, told}
use Rattle.mqb_model.specs.rules.Numbers.{number_taken}
use Rattle.mqb_model.specs.rules.Sends.{delivered, journalled, plain_sent}
use Rattle.mqb_model.specs.rules.Takes.{copied}
use Rattle.mqb_model.specs.state.Durable.{durable, durable_plain, durable_queue}
use Rattle.mqb_model.specs.state.Places.{placed, put_at, with_plain, without_at}
use Rattle.mqb_model.specs.state.Resolving.{peer_known, resolved}
use Rattle.mqb_model.specs.state.State.{State}
use Rattle.mqb_plain.specs.Lists.{marked_next, messages_of, unmarked, unsent}
use Rattle.mqb_plain.specs.Plain.{PlainLists, pushed, without}
use Rattle.mqb_plain.specs.declared.outgoing.Outgoing.{Outgoing}
use Rattle.mqb_queue.specs.First.{is_queue}
use Rattle.mqb_queue.specs.Lists.{Lists, put}
use Rattle.mqb_queue.specs.Lists as held
use Rattle.mqb_queue.specs.Places.{Places, Queue, changed_at, lists_at, numbered}
use Rattle.mqb_history.proofs.Carrying.{place_there}
use Rattle.mqb_history.proofs.Committing.{in_append}
use Rattle.mqb_history.proofs.Lists.{changed_get, changed_length, clash, none_some, some_is}
use Rattle.mqb_history.proofs.Orderly.{map_get}
use Rattle.mqb_history.proofs.Staying.{IsSameManager, manager_then, same_manager}

-- Lists.

set_in : {X : Type 0} (xs : List X) (k : ℕ) (x y : X) → slice_get xs k ≡ Some x → In y (slice_set xs k y)
set_in [] k x y e = absurd (none_some e)
set_in (z ∷ xs) zero x y e = inl refl
set_in (z ∷ xs) (suc k) x y e = inr (set_in xs k x y e)

-- a member stays where another is written, unless it stood there
set_keeps : {X : Type 0} (xs : List X) (k : ℕ) (x y z : X) → slice_get xs k ≡ Some x → In z xs → In z (slice_set xs k y) ⊎ (x ≡ z)
set_keeps [] k x y z e i = absurd i
set_keeps (w ∷ xs) zero x y z e (inl f) = inr (sym (some_is w x e) ∙ f)
set_keeps (w ∷ xs) zero x y z e (inr i) = inl (inr i)
set_keeps (w ∷ xs) (suc k) x y z e (inl f) = inl (inl f)
set_keeps (w ∷ xs) (suc k) x y z e (inr i) = at (set_keeps xs k x y z e i)
  where
    at : In z (slice_set xs k y) ⊎ (x ≡ z) → In z (w ∷ slice_set xs k y) ⊎ (x ≡ z)
    at (inl j) = inl (inr j)
    at (inr f) = inr f

-- and where one leaves, unless it is that
pub removed_or : {X : Type 0} (xs : List X) (k : ℕ) (x : X) → In x xs → In x (remove xs k) ⊎ (slice_get xs k ≡ Some x)
removed_or [] k x i = absurd i
removed_or (y ∷ xs) zero x (inl e) = inr (ap (λ z. Some z) e)
removed_or (y ∷ xs) zero x (inr i) = inl i
removed_or (y ∷ xs) (suc k) x (inl e) = inl (inl e)
removed_or (y ∷ xs) (suc k) x (inr i) = at (removed_or xs k x i)
  where
    at : In x (remove xs k) ⊎ (slice_get xs k ≡ Some x) → In x (y ∷ remove xs k) ⊎ (slice_get xs k ≡ Some x)
    at (inl j) = inl (inr j)
    at (inr f) = inr f

mapped_in : {X Y : Type 0} (f : X → Y) (xs : List X) (x : X) → In x xs → In (f x) (map f xs)
mapped_in f [] x i = absurd i
mapped_in f (y ∷ xs) x (inl e) = inl (ap f e)
mapped_in f (y ∷ xs) x (inr i) = inr (mapped_in f xs x i)

mapped_length : {X Y : Type 0} (f : X → Y) (xs : List X) → length (map f xs) ≡ length xs
mapped_length f [] = refl
mapped_length f (x ∷ xs) = ap (λ n. suc n) (mapped_length f xs)

-- What stands and waits.

module _ (m : Message) where
  abbrev pub StandsAt : Places → Type 0
  StandsAt p = (q : Queue) × In q p.queues × In m q.lists.durable

  queue_set : (p : Places) (k : ℕ) (q new : Queue) → slice_get p.queues k ≡ Some q → (In m q.lists.durable → In m new.lists.durable) → StandsAt p → StandsAt (record p { queues = slice_set p.queues k new })
  queue_set p k q new e keeps h = at (set_keeps p.queues k q new h.0 e h.1)
    where
      at : In h.0 (slice_set p.queues k new) ⊎ (q ≡ h.0) → StandsAt (record p { queues = slice_set p.queues k new })
      at (inl i) = (h.0, i, h.2)
      at (inr same) = (new, set_in p.queues k q new e, keeps (subst (λ (x : Queue). In m x.lists.durable) (sym same) h.2))

  -- a place that is no queue changes
  pub aside_stands : (p : Places) (at : EntryPlace) (g : Lists → Lists) → is_queue at ≡ false → StandsAt p → StandsAt (changed_at p at g)
  aside_stands p (place.Queue k) g e h = absurd (clash e)
  aside_stands p (place.JournalOf k) g e h = by (numbered p.queues k) refl
    where
      by : (o : Option Queue) → numbered p.queues k ≡ o
          → StandsAt (option_map_or (λ l. record p { queues = option_map_or (λ q. slice_set p.queues (k - 1) (record q { journal = g l })) o p.queues }) (option_map (λ q. q.journal) o) p)
      by None f = h
      by (Some q) f = queue_set p (k - 1) q (record q { journal = g q.journal }) (place_there p.queues k q f) (λ i. i) h
  aside_stands p at g e h = h

  pub changed_stands : (p : Places) (at : EntryPlace) (g : Lists → Lists) → ((l : Lists) → In m l.durable → In m (g l).durable) → StandsAt p → StandsAt (changed_at p at g)
  changed_stands p (place.Queue k) g keeps h = by (numbered p.queues k) refl
    where
      by : (o : Option Queue) → numbered p.queues k ≡ o
          → StandsAt (option_map_or (λ l. record p { queues = option_map_or (λ q. slice_set p.queues (k - 1) (record q { lists = g l })) o p.queues }) (option_map (λ q. q.lists) o) p)
      by None f = h
      by (Some q) f = queue_set p (k - 1) q (record q { lists = g q.lists }) (place_there p.queues k q f) (keeps q.lists) h
  changed_stands p at g keeps h = aside_stands p at g refl h

  -- it stays where a message leaves a queue, unless it is that
  pub left_stands : (p : Places) (k index : ℕ) (x : Message) → option_and_then (λ l. slice_get l.durable index) (lists_at p (place.Queue k)) ≡ Some x → StandsAt p
      → StandsAt (changed_at p (place.Queue k) (held.without lane.Durable index)) ⊎ (x ≡ m)
  left_stands p k index x there h = by (numbered p.queues k) refl there
    where
      by : (o : Option Queue) → numbered p.queues k ≡ o → option_and_then (λ (l : Lists). slice_get l.durable index) (option_map (λ (q : Queue). q.lists) o) ≡ Some x
          → StandsAt (option_map_or (λ l. record p { queues = option_map_or (λ q. slice_set p.queues (k - 1) (record q { lists = held.without lane.Durable index l })) o p.queues }) (option_map (λ q. q.lists) o) p) ⊎ (x ≡ m)
      by None f e = absurd (none_some e)
      by (Some q) f e = at (set_keeps p.queues (k - 1) q new h.0 (place_there p.queues k q f) h.1)
        where
          new : Queue
          new = record q { lists = held.without lane.Durable index q.lists }

          self : In m (remove q.lists.durable index) ⊎ (slice_get q.lists.durable index ≡ Some m) → StandsAt (record p { queues = slice_set p.queues (k - 1) new }) ⊎ (x ≡ m)
          self (inl i) = inl (new, set_in p.queues (k - 1) q new (place_there p.queues k q f), i)
          self (inr g) = inr (some_is x m (sym e ∙ g))

          at : In h.0 (slice_set p.queues (k - 1) new) ⊎ (q ≡ h.0) → StandsAt (record p { queues = slice_set p.queues (k - 1) new }) ⊎ (x ≡ m)
          at (inl i) = inl (h.0, i, h.2)
          at (inr same) = self (removed_or q.lists.durable index m (subst (λ (y : Queue). In m y.lists.durable) (sym same) h.2))

-- a durable message of a queue of a state
abbrev pub StandsIn : State → Message → Type 0
StandsIn s m = StandsAt m s.places

-- a recoverable one for the peer at an index
abbrev pub WaitsFor : State → ℕ → Message → Type 0
WaitsFor s k m = (p : PlainLists) × (slice_get s.plain k ≡ Some p) × In m (messages_of p.recoverable)

-- From one state to another they stay.
pub record Endures (a b : State) : Type 0 where
  pub manager : IsSameManager a b
  pub numbers : a.next_number ≤ b.next_number
  pub lists : length b.plain ≡ length a.plain
  pub stands : (m : Message) → StandsIn a m → StandsIn b m
  pub waits : (k : ℕ) (m : Message) → WaitsFor a k m → WaitsFor b k m

pub endures_then : (a b c : State) → Endures a b → Endures b c → Endures a c
endures_then a b c f g = record {
  manager = manager_then a b c f.manager g.manager;
  numbers = let one = f.numbers in let two = g.numbers in omega (arith, one, two);
  lists = g.lists ∙ f.lists;
  stands = λ m h. g.stands m (f.stands m h);
  waits = λ k m h. g.waits k m (f.waits k m h);
}

-- places and lists are the same
pub same_endures : (a b : State) → IsSameManager a b → a.next_number ≤ b.next_number → b.places ≡ a.places → b.plain ≡ a.plain → Endures a b
same_endures a b same le places plain = record {
  manager = same;
  numbers = le;
  lists = ap length plain;
  stands = λ m h. subst (StandsAt m) (sym places) h;
  waits = λ k m h. (h.0, subst (λ ps. slice_get ps k ≡ Some h.0) (sym plain) h.1, h.2);
}

pub endures : (s : State) → Endures s s
endures s = same_endures s s (same_manager s) (omega arith) refl refl

pub endures_or : {X : Type 0} (s : State) (f : X → State) (o : Option X) → ((x : X) → Endures s (f x)) → Endures s (option_map_or f o s)
endures_or s f None some = endures s
endures_or s f (Some x) some = some x

pub endures_if : (s : State) (b : Bool) (x y : State) → Endures s x → Endures s y → Endures s (cond b x y)
endures_if s true x y left right = left
endures_if s false x y left right = right

-- a place changes
pub place_endures : (s : State) (at : EntryPlace) (g : Lists → Lists) → ((m : Message) → StandsIn s m → StandsAt m (changed_at s.places at g)) → Endures s (record s { places = changed_at s.places at g })
place_endures s at g stands = record { manager = record { identity = refl; peers = refl }; numbers = omega arith; lists = refl; stands = stands; waits = λ k m h. h }

-- the lists for a peer change
pub plain_endures : (change : PlainLists → PlainLists) (s : State) (j : ℕ) → ((m : Message) (p : PlainLists) → In m (messages_of p.recoverable) → In m (messages_of (change p).recoverable)) → Endures s (with_plain change s j)
plain_endures change s j keeps = record {
  manager = record { identity = refl; peers = refl };
  numbers = omega arith;
  lists = changed_length change s.plain j;
  stands = λ m h. h;
  waits = λ k m h. changed_get (λ o. (p : PlainLists) × (o ≡ Some p) × In m (messages_of p.recoverable)) change s.plain j k h
      (λ same p there. (change p, refl, keeps m p (subst (λ (x : PlainLists). In m (messages_of x.recoverable)) (some_is h.0 p (sym h.1 ∙ there)) h.2)));
}

-- Puts.

put_in : (kind : Lane) (m x : Message) (l : Lists) → In x l.durable → In x (put kind m l).durable
put_in lane.Durable m x l i = in_append l.durable (m ∷ []) x i
put_in lane.Express m x l i = i

pub put_endures : (s : State) (at : EntryPlace) (m : Message) → Endures s (put_at s at m)
put_endures s at m = place_endures s at (put (lane_of m.delivery) m) (λ x h. changed_stands x s.places at (put (lane_of m.delivery) m) (put_in (lane_of m.delivery) m x) h)

messages_append : (os : List Outgoing) (o : Outgoing) (x : Message) → In x (messages_of os) → In x (messages_of (os ++ o ∷ []))
messages_append [] o x i = absurd i
messages_append (p ∷ os) o x (inl e) = inl e
messages_append (p ∷ os) o x (inr i) = inr (messages_append os o x i)

pushed_in : (kind : Lane) (m x : Message) (p : PlainLists) → In x (messages_of p.recoverable) → In x (messages_of (pushed kind m p).recoverable)
pushed_in lane.Durable m x p i = messages_append p.recoverable (unsent m) x i
pushed_in lane.Express m x p i = i

pub placed_endures : (s : State) (t : Target) (m : Message) → Endures s (placed s t m)
placed_endures s (Here None) m = endures s
placed_endures s (Here (Some k)) m = put_endures s (place.Queue k) m
placed_endures s (AtPeer k) m = plain_endures (pushed (lane_of m.delivery) m) s k (pushed_in (lane_of m.delivery) m)
placed_endures s Nowhere m = endures s

pub number_endures : (s : State) (d : Delivery) → Endures s (number_taken s d)
number_endures s delivery.Express = same_endures s (number_taken s delivery.Express) (record { identity = refl; peers = refl }) (omega arith) refl refl
number_endures s delivery.Recoverable = same_endures s (number_taken s delivery.Recoverable) (record { identity = refl; peers = refl }) (omega arith) refl refl
number_endures s delivery.Transactional = same_endures s (number_taken s delivery.Transactional) (record { identity = refl; peers = refl }) (omega arith) refl refl

-- Notices.

pub told_endures : (s : State) (t : Target) (n : Message) → Endures s (told s t n)
told_endures s t n = let one = number_taken s n.delivery in endures_if s (may_go s t n.delivery) (placed one t n) s
    (endures_then s one (placed one t n) (number_endures s n.delivery) (placed_endures one t n)) (endures s)

pub admin_endures : (s : State) (m : Message) (class : Class) (now : ℕ) → Endures s (admin_told s m class now)
admin_endures s m class now = endures_or s (λ n. told s (resolved s n.destination) n) (admin_about s m class now) (λ n. told_endures s (resolved s n.destination) n)

final_endures : (s : State) (m : Message) (class : Class) (now : ℕ) → Endures s (final_told s m class now)
final_endures s m class now = endures_or s (λ k. option_map_or (λ peer. final_told_at s k peer m class now) (slice_get s.peers k) s) (peer_known s m.id.qm)
    (λ k. endures_or s (λ peer. final_told_at s k peer m class now) (slice_get s.peers k) (λ peer. endures_or s (told s (AtPeer k)) (final_about s peer m class now) (told_endures s (AtPeer k))))

pub buried_endures : (s : State) (m : Message) (class : Class) → Endures s (buried s m class)
buried_endures s m class = endures_or s (λ at. put_at s at m) (dead_place s m class) (λ at. put_endures s at m)

pub meets_endures : (s : State) (m : Message) (class : Class) (now : ℕ) → Endures s (meets s m class now)
meets_endures s m class now = let one = admin_told s m class now in let two = final_told one m class now in
    endures_then s one (buried two m class) (admin_endures s m class now) (endures_then one two (buried two m class) (final_endures one m class now) (buried_endures two m class))

pub arrived_endures : (s : State) (m : Message) (now : ℕ) (refusal : Option Class) → Endures s (arrived s m now refusal)
arrived_endures s m now None = let t = placed s (resolved s m.destination) m in endures_then s t (meets t m REACHED_QUEUE now) (placed_endures s (resolved s m.destination) m) (meets_endures t m REACHED_QUEUE now)
arrived_endures s m now (Some class) = meets_endures s m class now

-- Sends.

pub journalled_endures : (s : State) (m : Message) → Endures s (journalled s m)
journalled_endures s m = endures_if s (keeps_copy m) (put_at s place.Journal m) s (put_endures s place.Journal m) (endures s)

pub delivered_endures : (s : State) (t : Target) (m : Message) (now : ℕ) → Endures s (delivered s t m now)
delivered_endures s (AtPeer k) m now = placed_endures s (AtPeer k) m
delivered_endures s (Here queue) m now = endures_then s (placed s (Here queue) m) (meets (placed s (Here queue) m) m REACHED_QUEUE now) (placed_endures s (Here queue) m) (meets_endures (placed s (Here queue) m) m REACHED_QUEUE now)
delivered_endures s Nowhere m now = meets_endures s m REACHED_QUEUE now

pub plain_sent_endures : (s : State) (m : Message) (now : ℕ) → Endures s (plain_sent s m now)
plain_sent_endures s m now = let t = journalled s m in endures_then s t (plain_sent s m now) (journalled_endures s m) (delivered_endures t (resolved s m.destination) m now)

pub copied_endures : (s : State) (n : ℕ) (m : Message) → Endures s (copied s n m)
copied_endures s n m = endures_or s (λ (q : Queue). cond q.plan.journal (put_at s (place.JournalOf n) m) s) (numbered s.places.queues n)
    (λ q. endures_if s q.plan.journal (put_at s (place.JournalOf n) m) s (put_endures s (place.JournalOf n) m) (endures s))

-- What leaves aside.

pub aside_endures : (kind : Lane) (s : State) (at : EntryPlace) (k : ℕ) → is_queue at ≡ false → Endures s (without_at kind s at k)
aside_endures kind s at k e = place_endures s at (held.without kind k) (λ m h. aside_stands m s.places at (held.without kind k) e h)

pub express_endures : (s : State) (at : EntryPlace) (k : ℕ) → Endures s (without_at lane.Express s at k)
express_endures s at k = place_endures s at (held.without lane.Express k) (λ m h. changed_stands m s.places at (held.without lane.Express k) (λ l i. i) h)

pub express_plain_endures : (s : State) (j k : ℕ) → Endures s (with_plain (without lane.Express k) s j)
express_plain_endures s j k = plain_endures (without lane.Express k) s j (λ m p i. i)

pub acked_endures : (number : ℕ) (s : State) (j : ℕ) → Endures s (with_plain (without_acked number) s j)
acked_endures number s j = plain_endures (without_acked number) s j (λ m p i. i)

-- Marks.

unmarked_in : (os : List Outgoing) (x : Message) → In x (messages_of os) → In x (messages_of (unmarked os))
unmarked_in [] x i = absurd i
unmarked_in (o ∷ os) x (inl e) = inl e
unmarked_in (o ∷ os) x (inr i) = inr (unmarked_in os x i)

marked_in : (n : ℕ) (os : List Outgoing) (x : Message) → In x (messages_of os) → In x (messages_of (marked_next n os))
marked_in n [] x i = absurd i
marked_in n (o ∷ os) x i = at (is_none o.mark) i (marked_in n os x)
  where
    at : (b : Bool) → (o.message ≡ x) ⊎ In x (messages_of os) → (In x (messages_of os) → In x (messages_of (marked_next n os)))
        → In x (messages_of (cond b (record o { mark = Some n } ∷ os) (o ∷ marked_next n os)))
    at true (inl e) rest = inl e
    at true (inr j) rest = inr j
    at false (inl e) rest = inl e
    at false (inr j) rest = inr (rest j)

with_marked_in : (kind : Lane) (n : ℕ) (x : Message) (p : PlainLists) → In x (messages_of p.recoverable) → In x (messages_of (with_marked kind n p).recoverable)
with_marked_in lane.Durable n x p i = marked_in n p.recoverable x i
with_marked_in lane.Express n x p i = i

noted_endures : (peer : ℕ) (s : State) (o : Origin) (head : SessionHead) → Endures s (noted_as peer head s o)
noted_endures peer s (beside.Owed row) head = number_endures s delivery.Express
noted_endures peer s beside.OfRecoverable head = plain_endures (with_marked lane.Durable head.recoverable) s peer (with_marked_in lane.Durable head.recoverable)
noted_endures peer s beside.OfExpress head = plain_endures (with_marked lane.Express head.user) s peer (with_marked_in lane.Express head.user)
noted_endures peer s (beside.OfRow row number) head = endures s

pub all_noted_endures : (peer : ℕ) (s : State) (sent : List (Origin × SessionHead)) → Endures s (fold (noted peer) s sent)
all_noted_endures peer s [] = endures s
all_noted_endures peer s (g ∷ gs) = endures_then s (noted peer s g) (fold (noted peer) (noted peer s g) gs) (noted_endures peer s g.0 g.1) (all_noted_endures peer (noted peer s g) gs)

-- the lists for all peers change
mapped_waits : (change : PlainLists → PlainLists) (s : State) → ((m : Message) (p : PlainLists) → In m (messages_of p.recoverable) → In m (messages_of (change p).recoverable))
    → (k : ℕ) (m : Message) → WaitsFor s k m → (p : PlainLists) × (slice_get (map change s.plain) k ≡ Some p) × In m (messages_of p.recoverable)
mapped_waits change s keeps k m h = (change h.0, map_get change s.plain k ∙ ap (option_map change) h.1, keeps m h.0 h.2)

pub unmarks_endure : (s : State) → Endures s (record s { plain = map all_unmarked s.plain })
unmarks_endure s = record {
  manager = record { identity = refl; peers = refl };
  numbers = omega arith;
  lists = mapped_length all_unmarked s.plain;
  stands = λ m h. h;
  waits = mapped_waits all_unmarked s (λ m p i. unmarked_in p.recoverable m i);
}

pub durable_endures : (s : State) → Endures s (durable s)
durable_endures s = record {
  manager = record { identity = refl; peers = refl };
  numbers = omega arith;
  lists = mapped_length durable_plain s.plain;
  stands = λ m h. (durable_queue h.0, mapped_in durable_queue s.places.queues h.0 h.1, h.2);
  waits = mapped_waits durable_plain s (λ m p i. unmarked_in p.recoverable m i);
}
