-- What stands in places and waits for peers, and which messages notices name.
use Rattle.std.proofs.Common.{refl, ap, sym, subst, ◌∙◌, arith, inr}
use Rattle.std.proofs.lemmas.Bool.Decides.{nat_tests}
use Rattle.std.specs.List.{AllByRecursion}
use Rattle.std.specs.Option.{option_map_or}
use Rattle.std.specs.Prelude.{[], ◌&&◌, ◌+◌, ◌-◌, ◌<◌, ◌==◌, ◌∷◌, ◌≡◌, ◌≤◌, ◌⊎◌, Bool, IfSome, List, None, Option, Some, cond, false, nat_le, not, option_and_then, option_map, slice_get, slice_set, suc, true, zero, ℕ}
use Rattle.mqb_base.specs.Lanes.{lane_of}
use Rattle.mqb_base.specs.declared.class.Class.{Class}
use Rattle.mqb_base.specs.declared.class.TheConstants.Class.{ORDER_ACKNOWLEDGEMENT, REACHED_QUEUE}
use Rattle.mqb_base.specs.declared.ids.Guid.{Guid}
use Rattle.mqb_base.specs.declared.ids.Identity.{Identity}
use Rattle.mqb_base.specs.declared.ids.MessageId.{MessageId}
use Rattle.mqb_base.specs.declared.message.Delivery.{Delivery}
use Rattle.mqb_base.specs.declared.message.Delivery.TheVariants as delivery
use Rattle.mqb_base.specs.declared.message.Lane.{Lane}
use Rattle.mqb_base.specs.declared.message.Lane.TheVariants as lane
use Rattle.mqb_base.specs.declared.message.Message.{Message}
use Rattle.mqb_base.specs.declared.queue_names.QueueName.{QueueName}
use Rattle.mqb_base.specs.declared.queues.EntryPlace.{EntryPlace}
use Rattle.mqb_base.specs.declared.queues.EntryPlace.TheVariants as place
use Rattle.mqb_exactly_once.specs.Words.{In}
use Rattle.mqb_fate.specs.Asking.{asks_for, final_is_due, is_ordinary, is_transactional, matching_bit}
use Rattle.mqb_fate.specs.Notices.{admin_delivery, notice_about}
use Rattle.mqb_fate.specs.Orders.{order_layer}
use Rattle.mqb_orders.specs.Rows.{Row}
use Rattle.mqb_orders.specs.declared.kept.Kept.{Kept}
use Rattle.mqb_plain.specs.Lists.{unsent}
use Rattle.mqb_plain.specs.Plain.{PlainLists, pushed}
use Rattle.mqb_plain.specs.declared.outgoing.Outgoing.{Outgoing}
use Rattle.mqb_queue.specs.Lists.{Lists, messages_in, put, without}
use Rattle.mqb_queue.specs.Places.{Places, Queue, changed_at, lists_at, numbered, with_lists}
use Rattle.mqb_model.specs.declared.limits.TheConstants.{MAX_NUMBER}
use Rattle.mqb_model.specs.declared.target.Target.{Target}
use Rattle.mqb_model.specs.declared.target.Target.TheVariants.{AtPeer, Here, Nowhere}
use Rattle.mqb_model.specs.rules.Notices.{admin_about, admin_told, buried, dead_place, final_about, final_told, final_told_at, may_go, meets, told}
use Rattle.mqb_model.specs.rules.Numbers.{number_left, number_taken}
use Rattle.mqb_model.specs.rules.Takes.{message_at}
use Rattle.mqb_model.specs.state.Places.{is_express, placed, put_at, with_plain, without_at}
use Rattle.mqb_model.specs.state.Resolving.{peer_known, resolved}
use Rattle.mqb_model.specs.state.State.{State}
use Rattle.mqb_base.specs.Bits.{has_bit, keeps_dead}
use Rattle.mqb_base.specs.Same.{same_guid}
use Rattle.mqb_history.proofs.Lists.{all_append, all_weaker, clash, equal_numbers, split_and, true_not_false}
use Rattle.mqb_history.proofs.Unreleased.{changed_all, removed_all}

-- A message that is not express and waits for a peer: it is the manager's own, and no transaction has its number. It is ordinary, or it names a
-- message that is known.
pub record IsSafe (own : Guid) (K : MessageId → Type 0) (V : ℕ → Type 0) (low : ℕ) (o : Outgoing) : Type 0 where
  pub source : o.message.id.qm ≡ own
  pub durable : is_express o.message.delivery ≡ false
  pub below : o.message.id.number < low
  pub unused : V o.message.id.number
  pub about : (is_ordinary o.message ≡ true) ⊎ K o.message.correlation

-- an express one is no order acknowledgement
abbrev pub IsQuiet : Outgoing → Type 0
IsQuiet o = (is_express o.message.delivery ≡ true) × ((o.message.class.0 == ORDER_ACKNOWLEDGEMENT.0) ≡ false)

pub record ArePlain (own : Guid) (K : MessageId → Type 0) (V : ℕ → Type 0) (low : ℕ) (p : PlainLists) : Type 0 where
  pub recoverable : AllByRecursion (IsSafe own K V low) p.recoverable
  pub express : AllByRecursion IsQuiet p.express

-- messages of a place: those that are not express are known
pub record AreListed (K : MessageId → Type 0) (l : Lists) : Type 0 where
  pub durable : AllByRecursion (λ m. K m.id) l.durable
  pub express : AllByRecursion (λ m. is_express m.delivery ≡ true) l.express

pub record AreQueued (K : MessageId → Type 0) (q : Queue) : Type 0 where
  pub lists : AreListed K q.lists
  pub journal : AreListed K q.journal

pub record ArePlaced (K : MessageId → Type 0) (p : Places) : Type 0 where
  pub queues : AllByRecursion (AreQueued K) p.queues
  pub dead : AreListed K p.dead
  pub dead_xact : AreListed K p.dead_xact
  pub journal : AreListed K p.journal

-- what a row keeps is the manager's own
abbrev pub KeepsOwn : Guid → Row → Type 0
KeepsOwn own row = (k : Kept) → In k row.kept → k.message.id.qm ≡ own

-- What is known of a manager's messages: K of what it met, and V of numbers that no transaction has.
pub record Knows (own : Guid) (K : MessageId → Type 0) (V : ℕ → Type 0) (s : State) : Type 0 where
  pub identity : s.identity.guid ≡ own
  pub bounded : s.next_number ≤ MAX_NUMBER + 1
  pub fresh : (n : ℕ) → s.next_number ≤ n → V n
  pub plain : AllByRecursion (ArePlain own K V s.next_number) s.plain
  pub places : ArePlaced K s.places
  pub rows : AllByRecursion (KeepsOwn own) s.outs

-- a message that is not express is known
abbrev pub IsMet : (MessageId → Type 0) → Message → Type 0
IsMet K m = is_express m.delivery ≡ false → K m.id

-- Places.

all_get : {X : Type 0} (P : X → Type 0) (xs : List X) (k : ℕ) → AllByRecursion P xs → IfSome (slice_get xs k) P
all_get P [] k h = tt
all_get P (x ∷ xs) zero h = h.0
all_get P (x ∷ xs) (suc k) h = all_get P xs k h.1

all_numbered : {X : Type 0} (P : X → Type 0) (xs : List X) (n : ℕ) → AllByRecursion P xs → IfSome (numbered xs n) P
all_numbered P xs n h = at (n == 0)
  where
    at : (b : Bool) → IfSome (cond b None (slice_get xs (n - 1))) P
    at true = tt
    at false = all_get P xs (n - 1) h

all_set : {X : Type 0} (P : X → Type 0) (xs : List X) (k : ℕ) (x : X) → P x → AllByRecursion P xs → AllByRecursion P (slice_set xs k x)
all_set P [] k x p h = tt
all_set P (y ∷ ys) zero x p h = (p, h.1)
all_set P (y ∷ ys) (suc k) x p h = (h.0, all_set P ys k x p h.1)

numbered_all : {X : Type 0} (P : X → Type 0) (xs : List X) (n : ℕ) (change : X → X) → ((x : X) → P x → P (change x)) → AllByRecursion P xs
    → AllByRecursion P (option_map_or (λ x. slice_set xs (n - 1) (change x)) (numbered xs n) xs)
numbered_all P xs n change keeps h = at (numbered xs n) (all_numbered P xs n h)
  where
    at : (o : Option _) → IfSome o P → AllByRecursion P (option_map_or (λ x. slice_set xs (n - 1) (change x)) o xs)
    at None g = h
    at (Some x) g = all_set P xs (n - 1) (change x) (keeps x g) h

module _ (K : MessageId → Type 0) where
  listed_at : (p : Places) (at : EntryPlace) → ArePlaced K p → IfSome (lists_at p at) (AreListed K)
  listed_at p (place.Queue n) h = by (numbered p.queues n) (all_numbered (AreQueued K) p.queues n h.queues)
    where
      by : (o : Option Queue) → IfSome o (AreQueued K) → IfSome (option_map (λ (q : Queue). q.lists) o) (AreListed K)
      by None g = tt
      by (Some q) g = g.lists
  listed_at p (place.JournalOf n) h = by (numbered p.queues n) (all_numbered (AreQueued K) p.queues n h.queues)
    where
      by : (o : Option Queue) → IfSome o (AreQueued K) → IfSome (option_map (λ (q : Queue). q.journal) o) (AreListed K)
      by None g = tt
      by (Some q) g = g.journal
  listed_at p place.Dead h = h.dead
  listed_at p place.DeadXact h = h.dead_xact
  listed_at p place.Journal h = h.journal

  with_listed : (p : Places) (at : EntryPlace) (l : Lists) → AreListed K l → ArePlaced K p → ArePlaced K (with_lists p at l)
  with_listed p (place.Queue n) l g h = record {
    queues = numbered_all (AreQueued K) p.queues n (λ q. record q { lists = l }) (λ q x. record { lists = g; journal = x.journal }) h.queues;
    dead = h.dead;
    dead_xact = h.dead_xact;
    journal = h.journal;
  }
  with_listed p (place.JournalOf n) l g h = record {
    queues = numbered_all (AreQueued K) p.queues n (λ q. record q { journal = l }) (λ q x. record { lists = x.lists; journal = g }) h.queues;
    dead = h.dead;
    dead_xact = h.dead_xact;
    journal = h.journal;
  }
  with_listed p place.Dead l g h = record { queues = h.queues; dead = g; dead_xact = h.dead_xact; journal = h.journal }
  with_listed p place.DeadXact l g h = record { queues = h.queues; dead = h.dead; dead_xact = g; journal = h.journal }
  with_listed p place.Journal l g h = record { queues = h.queues; dead = h.dead; dead_xact = h.dead_xact; journal = g }

  changed_placed : (p : Places) (at : EntryPlace) (change : Lists → Lists) → ((l : Lists) → AreListed K l → AreListed K (change l)) → ArePlaced K p → ArePlaced K (changed_at p at change)
  changed_placed p at change keeps h = by (lists_at p at) (listed_at p at h)
    where
      by : (o : Option Lists) → IfSome o (AreListed K) → ArePlaced K (option_map_or (λ l. with_lists p at (change l)) o p)
      by None g = h
      by (Some l) g = with_listed p at (change l) (keeps l g) h

  put_listed : (m : Message) → IsMet K m → (l : Lists) → AreListed K l → AreListed K (put (lane_of m.delivery) m l)
  put_listed m met l h = at m.delivery refl
    where
      durable : is_express m.delivery ≡ false → AreListed K (put lane.Durable m l)
      durable e = record { durable = all_append (λ (x : Message). K x.id) l.durable (m ∷ []) h.durable (met e, tt); express = h.express }

      at : (x : Delivery) → m.delivery ≡ x → AreListed K (put (lane_of x) m l)
      at delivery.Express e = record {
        durable = h.durable;
        express = all_append (λ (x : Message). is_express x.delivery ≡ true) l.express (m ∷ []) h.express (subst (λ y. is_express y ≡ true) (sym e) refl, tt);
      }
      at delivery.Recoverable e = durable (subst (λ y. is_express y ≡ false) (sym e) refl)
      at delivery.Transactional e = durable (subst (λ y. is_express y ≡ false) (sym e) refl)

  without_listed : (kind : Lane) (k : ℕ) (l : Lists) → AreListed K l → AreListed K (without kind k l)
  without_listed lane.Durable k l h = record { durable = removed_all (λ (m : Message). K m.id) l.durable k h.durable; express = h.express }
  without_listed lane.Express k l h = record { durable = h.durable; express = removed_all (λ (m : Message). is_express m.delivery ≡ true) l.express k h.express }

  -- what stands in a place was met
  listed_met : (kind : Lane) (l : Lists) (k : ℕ) → AreListed K l → IfSome (slice_get (messages_in kind l) k) (IsMet K)
  listed_met lane.Durable l k h = by (slice_get l.durable k) (all_get (λ (m : Message). K m.id) l.durable k h.durable)
    where
      by : (o : Option Message) → IfSome o (λ m. K m.id) → IfSome o (IsMet K)
      by None g = tt
      by (Some m) g = λ e. g
  listed_met lane.Express l k h = by (slice_get l.express k) (all_get (λ (m : Message). is_express m.delivery ≡ true) l.express k h.express)
    where
      by : (o : Option Message) → IfSome o (λ m. is_express m.delivery ≡ true) → IfSome o (IsMet K)
      by None g = tt
      by (Some m) g = λ e. absurd (true_not_false (is_express m.delivery) g e)

  pub placed_met : (kind : Lane) (s : State) (at : EntryPlace) (k : ℕ) → ArePlaced K s.places → IfSome (message_at kind s at k) (IsMet K)
  placed_met kind s at k h = by (lists_at s.places at) (listed_at s.places at h)
    where
      by : (o : Option Lists) → IfSome o (AreListed K) → IfSome (option_and_then (λ l. slice_get (messages_in kind l) k) o) (IsMet K)
      by None g = tt
      by (Some l) g = listed_met kind l k g

-- an order acknowledgement is no class that is asked for
not_asked : (m : Message) (class : Class) → asks_for m class ≡ true → (class.0 == ORDER_ACKNOWLEDGEMENT.0) ≡ false
not_asked m class asks = at (class.0 == ORDER_ACKNOWLEDGEMENT.0) refl
  where
    at : (b : Bool) → (class.0 == ORDER_ACKNOWLEDGEMENT.0) ≡ b → b ≡ false
    at false e = refl
    at true e = absurd (clash (sym (subst (λ n. option_map_or (λ bit. has_bit m.ack bit) (matching_bit n) false ≡ true) (equal_numbers class.0 ORDER_ACKNOWLEDGEMENT.0 e) asks)))

pub low_more : (own : Guid) (K : MessageId → Type 0) (V : ℕ → Type 0) (low high : ℕ) → low ≤ high → (ps : List PlainLists) → AllByRecursion (ArePlain own K V low) ps → AllByRecursion (ArePlain own K V high) ps
low_more own K V low high le ps h = all_weaker (ArePlain own K V low) (ArePlain own K V high) (λ p g. record {
  recoverable = all_weaker (IsSafe own K V low) (IsSafe own K V high) (λ o x. record {
    source = x.source;
    durable = x.durable;
    below = let less = x.below in omega (arith, less, le);
    unused = x.unused;
    about = x.about;
  }) p.recoverable g.recoverable;
  express = g.express;
}) ps h

module _ (own : Guid) (K : MessageId → Type 0) (V : ℕ → Type 0) (mine : (id : MessageId) → id.qm ≡ own → K id) where
  pub put_knows : (s : State) (at : EntryPlace) (m : Message) → IsMet K m → Knows own K V s → Knows own K V (put_at s at m)
  put_knows s at m met h = record {
    identity = h.identity;
    bounded = h.bounded;
    fresh = h.fresh;
    plain = h.plain;
    places = changed_placed K s.places at (put (lane_of m.delivery) m) (put_listed K m met) h.places;
    rows = h.rows;
  }

  pub without_knows : (kind : Lane) (s : State) (at : EntryPlace) (k : ℕ) → Knows own K V s → Knows own K V (without_at kind s at k)
  without_knows kind s at k h = record {
    identity = h.identity;
    bounded = h.bounded;
    fresh = h.fresh;
    plain = h.plain;
    places = changed_placed K s.places at (without kind k) (without_listed K kind k) h.places;
    rows = h.rows;
  }

  pub plain_knows : (s : State) (k : ℕ) (change : PlainLists → PlainLists)
      → ((p : PlainLists) → ArePlain own K V s.next_number p → ArePlain own K V s.next_number (change p)) → Knows own K V s → Knows own K V (with_plain change s k)
  plain_knows s k change keeps h = record {
    identity = h.identity;
    bounded = h.bounded;
    fresh = h.fresh;
    plain = changed_all (ArePlain own K V s.next_number) change s.plain k keeps h.plain;
    places = h.places;
    rows = h.rows;
  }

  -- a message may wait: an express one is no order acknowledgement, and another one is safe
  pub record MayWait (s : State) (m : Message) : Type 0 where
    pub express : is_express m.delivery ≡ true → (m.class.0 == ORDER_ACKNOWLEDGEMENT.0) ≡ false
    pub durable : is_express m.delivery ≡ false → IsSafe own K V s.next_number (unsent m)

  pushed_plain : (s : State) (m : Message) (p : PlainLists) → MayWait s m → ArePlain own K V s.next_number p → ArePlain own K V s.next_number (pushed (lane_of m.delivery) m p)
  pushed_plain s m p may h = at m.delivery refl
    where
      safe : is_express m.delivery ≡ false → ArePlain own K V s.next_number (pushed lane.Durable m p)
      safe e = record { recoverable = all_append (IsSafe own K V s.next_number) p.recoverable (unsent m ∷ []) h.recoverable (may.durable e, tt); express = h.express }

      at : (x : Delivery) → m.delivery ≡ x → ArePlain own K V s.next_number (pushed (lane_of x) m p)
      at delivery.Express e = let f = subst (λ y. is_express y ≡ true) (sym e) refl in
          record { recoverable = h.recoverable; express = all_append IsQuiet p.express (unsent m ∷ []) h.express ((f, may.express f), tt) }
      at delivery.Recoverable e = safe (subst (λ y. is_express y ≡ false) (sym e) refl)
      at delivery.Transactional e = safe (subst (λ y. is_express y ≡ false) (sym e) refl)

  -- it is met then
  waits_met : (s : State) (m : Message) → MayWait s m → IsMet K m
  waits_met s m may e = mine m.id (may.durable e).source

  pub placed_knows : (s : State) (t : Target) (m : Message) → MayWait s m → Knows own K V s → Knows own K V (placed s t m)
  placed_knows s (Here None) m may h = h
  placed_knows s (Here (Some n)) m may h = put_knows s (place.Queue n) m (waits_met s m may) h
  placed_knows s (AtPeer k) m may h = plain_knows s k (pushed (lane_of m.delivery) m) (λ p g. pushed_plain s m p may g) h
  placed_knows s Nowhere m may h = h

  -- a number is taken
  pub number_knows : (s : State) (x : Delivery) → (is_express x ≡ false → s.next_number ≤ MAX_NUMBER) → Knows own K V s → Knows own K V (number_taken s x)
  number_knows s delivery.Express low h = record { identity = h.identity; bounded = h.bounded; fresh = h.fresh; plain = h.plain; places = h.places; rows = h.rows }
  number_knows s delivery.Recoverable low h = record {
    identity = h.identity;
    bounded = let le = low refl in omega (arith, le);
    fresh = λ n le. h.fresh n (omega (arith, le));
    plain = low_more own K V s.next_number (s.next_number + 1) (omega arith) s.plain h.plain;
    places = h.places;
    rows = h.rows;
  }
  number_knows s delivery.Transactional low h = record {
    identity = h.identity;
    bounded = let le = low refl in omega (arith, le);
    fresh = λ n le. h.fresh n (omega (arith, le));
    plain = low_more own K V s.next_number (s.next_number + 1) (omega arith) s.plain h.plain;
    places = h.places;
    rows = h.rows;
  }

  -- Notices.

  -- a notice takes the next number, and names a message that was met
  record TellsRightly (s : State) (n : Message) : Type 0 where
    pub express : is_express n.delivery ≡ true → (n.class.0 == ORDER_ACKNOWLEDGEMENT.0) ≡ false
    pub durable : is_express n.delivery ≡ false → (n.id ≡ record { qm = own; number = s.next_number }) × (s.next_number ≤ MAX_NUMBER) × K n.correlation

  taken_waits : (s : State) (n : Message) → Knows own K V s → TellsRightly s n → MayWait (number_taken s n.delivery) n
  taken_waits s n h t = record {
    express = t.express;
    durable = λ e. let g = t.durable e in record {
      source = ap (λ (i : MessageId). i.qm) g.0;
      durable = e;
      below = by n.delivery e (ap (λ (i : MessageId). i.number) g.0);
      unused = subst V (sym (ap (λ (i : MessageId). i.number) g.0)) (h.fresh s.next_number (omega arith));
      about = inr g.2;
    };
  }
    where
      by : (x : Delivery) → is_express x ≡ false → n.id.number ≡ s.next_number → n.id.number < (number_taken s x).next_number
      by delivery.Express e same = absurd (clash e)
      by delivery.Recoverable e same = omega (arith, same)
      by delivery.Transactional e same = omega (arith, same)

  told_knows : (s : State) (t : Target) (n : Message) → TellsRightly s n → Knows own K V s → Knows own K V (told s t n)
  told_knows s t n tells h = at (may_go s t n.delivery)
    where
      at : (b : Bool) → Knows own K V (cond b (placed (number_taken s n.delivery) t n) s)
      at true = placed_knows (number_taken s n.delivery) t n (taken_waits s n h tells) (number_knows s n.delivery (λ e. (tells.durable e).1) h)
      at false = h

  left_number : (s : State) → IfSome (number_left s delivery.Recoverable) (λ n. (n ≡ s.next_number) × (s.next_number ≤ MAX_NUMBER))
  left_number s = at (nat_le s.next_number MAX_NUMBER) refl
    where
      low : nat_le s.next_number MAX_NUMBER ≡ true → s.next_number ≤ MAX_NUMBER
      low e = grind (arith, nat_tests)

      at : (b : Bool) → nat_le s.next_number MAX_NUMBER ≡ b → IfSome (cond b (Some s.next_number) None) (λ n. (n ≡ s.next_number) × (s.next_number ≤ MAX_NUMBER))
      at true e = (refl, low e)
      at false e = tt

  admin_tells : (s : State) (m : Message) (class : Class) (now : ℕ) → IsMet K m → Knows own K V s → IfSome (admin_about s m class now) (TellsRightly s)
  admin_tells s m class now met h = at m.delivery refl
    where
      notice : Delivery → QueueName → ℕ → Message
      notice x a number = notice_about m class x a (record { qm = s.identity.guid; number = number }) now

      express : (number : ℕ) (b : Bool) → b ≡ (is_ordinary m && asks_for m class) → (admin : Option QueueName)
          → IfSome (cond b (option_map (λ a. notice delivery.Express a number) admin) None) (TellsRightly s)
      express number true e None = tt
      express number true e (Some a) = record { express = λ f. not_asked m class (split_and (is_ordinary m) (asks_for m class) (sym e)).1; durable = λ f. absurd (clash f) }
      express number false e admin = tt

      durable : (number : ℕ) → (number ≡ s.next_number) × (s.next_number ≤ MAX_NUMBER) → K m.id → (b : Bool) → (admin : Option QueueName)
          → IfSome (cond b (option_map (λ a. notice delivery.Recoverable a number) admin) None) (TellsRightly s)
      durable number left known true None = tt
      durable number left known true (Some a) = record {
        express = λ f. absurd (clash (sym f));
        durable = λ f. (ap (λ g. record { qm = g; number = number }) h.identity ∙ ap (λ n. record { qm = own; number = n }) left.0, left.1, known);
      }
      durable number left known false admin = tt

      numbered_so : K m.id → (o : Option ℕ) → IfSome o (λ n. (n ≡ s.next_number) × (s.next_number ≤ MAX_NUMBER))
          → IfSome (option_and_then (λ number. cond (is_ordinary m && asks_for m class) (option_map (λ a. notice delivery.Recoverable a number) m.admin) None) o) (TellsRightly s)
      numbered_so known None g = tt
      numbered_so known (Some number) g = durable number g known (is_ordinary m && asks_for m class) m.admin

      at : (x : Delivery) → m.delivery ≡ x
          → IfSome (option_and_then (λ number. cond (is_ordinary m && asks_for m class) (option_map (λ a. notice (admin_delivery x) a number) m.admin) None) (number_left s (admin_delivery x)))
          (TellsRightly s)
      at delivery.Express e = express s.next_express (is_ordinary m && asks_for m class) refl m.admin
      at delivery.Recoverable e = numbered_so (met (subst (λ y. is_express y ≡ false) (sym e) refl)) (number_left s delivery.Recoverable) (left_number s)
      at delivery.Transactional e = numbered_so (met (subst (λ y. is_express y ≡ false) (sym e) refl)) (number_left s delivery.Recoverable) (left_number s)

  -- a final acknowledgement is due for a transactional message alone
  due_durable : (m : Message) (class : Class) (mine : Guid) → final_is_due m class mine ≡ true → is_express m.delivery ≡ false
  due_durable m class mine e = at m.delivery (split_and (is_ordinary m) (is_transactional m.delivery)
      (split_and (is_ordinary m && is_transactional m.delivery) (not (same_guid m.id.qm mine))
      (split_and (is_ordinary m && is_transactional m.delivery && not (same_guid m.id.qm mine)) (keeps_dead m)
      (split_and (is_ordinary m && is_transactional m.delivery && not (same_guid m.id.qm mine) && keeps_dead m) (not (class.0 == REACHED_QUEUE.0)) e).0).0).0).1
    where
      at : (x : Delivery) → is_transactional x ≡ true → is_express x ≡ false
      at delivery.Express f = absurd (clash (sym f))
      at delivery.Recoverable f = refl
      at delivery.Transactional f = refl

  final_tells : (s : State) (peer : Identity) (m : Message) (class : Class) (now : ℕ) → IsMet K m → Knows own K V s → IfSome (final_about s peer m class now) (TellsRightly s)
  final_tells s peer m class now met h = at (number_left s delivery.Recoverable) (left_number s)
    where
      made : (number : ℕ) → (number ≡ s.next_number) × (s.next_number ≤ MAX_NUMBER) → (b : Bool) → final_is_due m class s.identity.guid ≡ b
          → IfSome (cond b (Some (notice_about m class delivery.Recoverable (order_layer peer.host) (record { qm = s.identity.guid; number = number }) now)) None) (TellsRightly s)
      made number left true e = record {
        express = λ f. absurd (clash (sym f));
        durable = λ f. (
          ap (λ g. record { qm = g; number = number }) h.identity ∙ ap (λ n. record { qm = own; number = n }) left.0,
          left.1,
          met (due_durable m class s.identity.guid e),
        );
      }
      made number left false e = tt

      at : (o : Option ℕ) → IfSome o (λ n. (n ≡ s.next_number) × (s.next_number ≤ MAX_NUMBER))
          → IfSome (option_and_then (λ number. cond (final_is_due m class s.identity.guid)
          (Some (notice_about m class delivery.Recoverable (order_layer peer.host) (record { qm = s.identity.guid; number = number }) now)) None) o) (TellsRightly s)
      at None g = tt
      at (Some number) g = made number g (final_is_due m class s.identity.guid) refl

  admin_knows : (s : State) (m : Message) (class : Class) (now : ℕ) → IsMet K m → Knows own K V s → Knows own K V (admin_told s m class now)
  admin_knows s m class now met h = at (admin_about s m class now) (admin_tells s m class now met h)
    where
      at : (o : Option Message) → IfSome o (TellsRightly s) → Knows own K V (option_map_or (λ n. told s (resolved s n.destination) n) o s)
      at None i = h
      at (Some n) i = told_knows s (resolved s n.destination) n i h

  final_knows : (s : State) (m : Message) (class : Class) (now : ℕ) → IsMet K m → Knows own K V s → Knows own K V (final_told s m class now)
  final_knows s m class now met h = at (peer_known s m.id.qm)
    where
      made : (k : ℕ) (o : Option Message) → IfSome o (TellsRightly s) → Knows own K V (option_map_or (told s (AtPeer k)) o s)
      made k None i = h
      made k (Some n) i = told_knows s (AtPeer k) n i h

      to : (k : ℕ) (o : Option Identity) → Knows own K V (option_map_or (λ peer. final_told_at s k peer m class now) o s)
      to k None = h
      to k (Some peer) = made k (final_about s peer m class now) (final_tells s peer m class now met h)

      at : (o : Option ℕ) → Knows own K V (option_map_or (λ k. option_map_or (λ peer. final_told_at s k peer m class now) (slice_get s.peers k) s) o s)
      at None = h
      at (Some k) = to k (slice_get s.peers k)

  buried_knows : (s : State) (m : Message) (class : Class) → IsMet K m → Knows own K V s → Knows own K V (buried s m class)
  buried_knows s m class met h = at (dead_place s m class)
    where
      at : (o : Option EntryPlace) → Knows own K V (option_map_or (λ at. put_at s at m) o s)
      at None = h
      at (Some into) = put_knows s into m met h

  pub meets_knows : (s : State) (m : Message) (class : Class) (now : ℕ) → IsMet K m → Knows own K V s → Knows own K V (meets s m class now)
  meets_knows s m class now met h = let one = admin_told s m class now in let two = final_told one m class now in
      buried_knows two m class met (final_knows one m class now met (admin_knows s m class now met h))
