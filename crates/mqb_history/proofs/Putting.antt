-- What is put joins its queue at the end, and no notice that follows does.
use Rattle.std.proofs.Common.{refl, ap, sym, ◌∙◌, arith}
use Rattle.std.proofs.lemmas.Bool.Decides.{nat_tests}
use Rattle.std.specs.Option.{option_map_or}
use Rattle.std.specs.Prelude.{[], ◌&&◌, ◌-◌, ◌==◌, ◌∷◌, ◌≡◌, Bool, IfSome, List, None, Option, Some, cond, false, fold, is_none, nat_le, not, option_and_then, option_map, slice_get, slice_set, true, ℕ}
use Rattle.mqb_base.specs.Bits.{keeps_dead}
use Rattle.mqb_base.specs.Classes.{is_negative}
use Rattle.mqb_base.specs.Lanes.{lane_of}
use Rattle.mqb_base.specs.declared.class.Class.{Class}
use Rattle.mqb_base.specs.declared.class.TheConstants.Class.{BAD_DESTINATION, MESSAGE_NOT_TRANSACTIONAL, QUEUE_NOT_TRANSACTIONAL, QUOTA_EXCEEDED, REACHED_QUEUE, REACH_TIMEOUT}
use Rattle.mqb_base.specs.declared.heads.TxHead.{TxHead}
use Rattle.mqb_base.specs.declared.ids.Identity.{Identity}
use Rattle.mqb_base.specs.declared.message.Delivery.{Delivery}
use Rattle.mqb_base.specs.declared.message.Delivery.TheVariants as delivery
use Rattle.mqb_base.specs.declared.message.Message.{Message}
use Rattle.mqb_base.specs.declared.queue_names.QueueName.{QueueName}
use Rattle.mqb_base.specs.declared.queues.EntryPlace.TheVariants as place
use Rattle.mqb_base.specs.declared.queues.Place.TheVariants as named
use Rattle.mqb_fate.specs.Asking.{asks_for, final_is_due, is_ordinary, is_transactional}
use Rattle.mqb_fate.specs.Notices.{admin_delivery, notice_about}
use Rattle.mqb_model.specs.declared.target.Target.{Target}
use Rattle.mqb_model.specs.declared.target.Target.TheVariants.{AtPeer, Here, Nowhere}
use Rattle.mqb_model.specs.records.Decisions.{message_decided, with_decided}
use Rattle.mqb_model.specs.records.Releases.{message_released}
use Rattle.mqb_model.specs.rules.Arrivals.{is_recorded, refusal_by, refusal_of, target_refusal}
use Rattle.mqb_model.specs.rules.Effects.{Effect}
use Rattle.mqb_model.specs.rules.Notices.{admin_about, admin_told, arrived, buried, final_about, final_told, final_told_at, may_go, meets, told}
use Rattle.mqb_model.specs.rules.Numbers.{number_left, number_taken}
use Rattle.mqb_model.specs.state.Places.{placed, put_at}
use Rattle.mqb_model.specs.state.Resolving.{peer_known, resolved}
use Rattle.mqb_model.specs.state.State.{State}
use Rattle.mqb_packet.specs.declared.packet.UserPacket.{UserPacket}
use Rattle.mqb_queue.specs.Arrival.{length_met, queue_refusal}
use Rattle.mqb_queue.specs.Lists.{put}
use Rattle.mqb_queue.specs.Places.{Places, Queue, lists_at, numbered, place_named, with_lists, with_numbered}
use Rattle.mqb_history.specs.Put.{JoinsQueue}
use Rattle.mqb_history.proofs.Lists.{clash, get_within, none_some, set_apart, set_there}

-- One queue of a list.

-- a member of a number stands at the index before it
pub number_place : {X : Type 0} (xs : List X) (n : ℕ) (x : X) → numbered xs n ≡ Some x → ((n == 0) ≡ false) × (slice_get xs (n - 1) ≡ Some x)
number_place xs n x e = at (n == 0) refl e
  where
    at : (b : Bool) → (n == 0) ≡ b → cond b None (slice_get xs (n - 1)) ≡ Some x → ((n == 0) ≡ false) × (slice_get xs (n - 1) ≡ Some x)
    at true f g = absurd (none_some g)
    at false f g = (f, g)

pub number_apart : {X : Type 0} (xs : List X) (a n : ℕ) (change : X → X) → (a ≡ n → ⊥) → numbered (with_numbered xs a change) n ≡ numbered xs n
number_apart {X = X} xs a n change apart = at (numbered xs a) refl
  where
    at : (o : Option X) → numbered xs a ≡ o → numbered (option_map_or (λ x. slice_set xs (a - 1) (change x)) o xs) n ≡ numbered xs n
    at None e = refl
    at (Some x) e = by (n == 0) refl
      where
        there : (a == 0) ≡ false
        there = (number_place xs a x e).0

        differ : (n == 0) ≡ false → (a == 0) ≡ false → a - 1 ≡ n - 1 → a ≡ n
        differ f g same = grind (arith, nat_tests)

        by : (b : Bool) → (n == 0) ≡ b → cond b None (slice_get (slice_set xs (a - 1) (change x)) (n - 1)) ≡ cond b None (slice_get xs (n - 1))
        by true f = refl
        by false f = set_apart xs (a - 1) (n - 1) (change x) (λ same. apart (differ f there same))

pub number_there : {X : Type 0} (xs : List X) (n : ℕ) (change : X → X) (x : X) → numbered xs n ≡ Some x → numbered (with_numbered xs n change) n ≡ Some (change x)
number_there xs n change x e = ap (λ o. numbered (option_map_or (λ y. slice_set xs (n - 1) (change y)) o xs) n) e
    ∙ ap (λ b. cond b None (slice_get (slice_set xs (n - 1) (change x)) (n - 1))) at.0 ∙ set_there xs (n - 1) (change x) (get_within xs (n - 1) x at.1)
  where
    at : ((n == 0) ≡ false) × (slice_get xs (n - 1) ≡ Some x)
    at = number_place xs n x e

-- One queue of a state.

-- the queue of a number is as it was
abbrev pub SameQueue : ℕ → State → State → Type 0
SameQueue n s t = numbered t.places.queues n ≡ numbered s.places.queues n

-- a message joins another queue
pub put_apart : (n a : ℕ) (s : State) (m : Message) → (a ≡ n → ⊥) → SameQueue n s (put_at s (place.Queue a) m)
put_apart n a s m apart = at (numbered s.places.queues a)
  where
    at : (o : Option Queue) → numbered (option_map_or (λ l. with_lists s.places (place.Queue a) (put (lane_of m.delivery) m l)) (option_map (λ (q : Queue). q.lists) o) s.places).queues n
        ≡ numbered s.places.queues n
    at None = refl
    at (Some q) = number_apart s.places.queues a n (λ (x : Queue). record x { lists = put (lane_of m.delivery) m q.lists }) apart

-- or this one
pub put_there : (n : ℕ) (s : State) (m : Message) (q : Queue) → numbered s.places.queues n ≡ Some q
    → numbered (put_at s (place.Queue n) m).places.queues n ≡ Some (record q { lists = put (lane_of m.delivery) m q.lists })
put_there n s m q e = ap (λ o. numbered (option_map_or (λ l. with_lists s.places (place.Queue n) (put (lane_of m.delivery) m l)) (option_map (λ (x : Queue). x.lists) o) s.places).queues n) e
    ∙ number_there s.places.queues n (λ (x : Queue). record x { lists = put (lane_of m.delivery) m q.lists }) q e

number_places : (s : State) (x : Delivery) → (number_taken s x).places ≡ s.places
number_places s delivery.Express = refl
number_places s x = refl

-- a queue of this plan takes messages of transactions alone
refused_plain : (q : Queue) (x : Delivery) → q.plan.transactional ≡ true → is_transactional x ≡ false → is_none (refusal_by x q) ≡ false
refused_plain q x e f = ap (λ t. is_none (queue_refusal q.plan (length_met (is_recorded x) q.lists) t)) f
    ∙ ap (λ b. is_none (cond b (Some MESSAGE_NOT_TRANSACTIONAL) (cond (nat_le q.plan.quota (length_met (is_recorded x) q.lists)) (Some QUOTA_EXCEEDED) None))) e

module _ (n : ℕ) (q : Queue) (transactional : q.plan.transactional ≡ true) where
  -- a notice goes elsewhere
  told_apart : (s : State) (t : Target) (x : Message) → numbered s.places.queues n ≡ Some q → is_transactional x.delivery ≡ false → SameQueue n s (told s t x)
  told_apart s t x e f = at t (may_go s t x.delivery) refl
    where
      given : State
      given = number_taken s x.delivery

      same : numbered given.places.queues n ≡ numbered s.places.queues n
      same = ap (λ (p : Places). numbered p.queues n) (number_places s x.delivery)

      elsewhere : (a : ℕ) → may_go s (Here (Some a)) x.delivery ≡ true → a ≡ n → ⊥
      elsewhere a g h = clash (sym g ∙ ap (λ k. is_none (option_map_or (refusal_by x.delivery) (numbered s.places.queues k) (Some BAD_DESTINATION))) h
          ∙ ap (λ o. is_none (option_map_or (refusal_by x.delivery) o (Some BAD_DESTINATION))) e ∙ refused_plain q x.delivery transactional f)

      at : (t : Target) (b : Bool) → may_go s t x.delivery ≡ b → SameQueue n s (cond b (placed given t x) s)
      at t false g = refl
      at (AtPeer k) true g = same
      at (Here None) true g = same
      at (Here (Some a)) true g = put_apart n a given x (elsewhere a g) ∙ same
      at Nowhere true g = same

  admin_plain : (x : Delivery) → is_transactional (admin_delivery x) ≡ false
  admin_plain delivery.Express = refl
  admin_plain x = refl

  admin_apart : (s : State) (m : Message) (class : Class) (now : ℕ) → numbered s.places.queues n ≡ Some q → SameQueue n s (admin_told s m class now)
  admin_apart s m class now e = at (admin_about s m class now) (plain (number_left s (admin_delivery m.delivery)))
    where
      made : (number : ℕ) (b : Bool) (admin : Option QueueName)
          → IfSome (cond b (option_map (λ a. notice_about m class (admin_delivery m.delivery) a (record { qm = s.identity.guid; number = number }) now) admin) None) (λ x. is_transactional x.delivery ≡ false)
      made number true None = tt
      made number true (Some a) = admin_plain m.delivery
      made number false admin = tt

      plain : (o : Option ℕ) → IfSome (option_and_then (λ number. cond (is_ordinary m && asks_for m class)
          (option_map (λ a. notice_about m class (admin_delivery m.delivery) a (record { qm = s.identity.guid; number = number }) now) m.admin) None) o) (λ x. is_transactional x.delivery ≡ false)
      plain None = tt
      plain (Some number) = made number (is_ordinary m && asks_for m class) m.admin

      at : (o : Option Message) → IfSome o (λ x. is_transactional x.delivery ≡ false) → SameQueue n s (option_map_or (λ x. told s (resolved s x.destination) x) o s)
      at None h = refl
      at (Some x) h = told_apart s (resolved s x.destination) x e h

  peer_apart : (s : State) (k : ℕ) (x : Message) → SameQueue n s (told s (AtPeer k) x)
  peer_apart s k x = ap (λ (p : Places). numbered p.queues n) (number_places s x.delivery)

  final_apart : (s : State) (m : Message) (class : Class) (now : ℕ) → SameQueue n s (final_told s m class now)
  final_apart s m class now = at (peer_known s m.id.qm)
    where
      made : (k : ℕ) (o : Option Message) → SameQueue n s (option_map_or (told s (AtPeer k)) o s)
      made k None = refl
      made k (Some x) = peer_apart s k x

      to : (k : ℕ) (o : Option Identity) → SameQueue n s (option_map_or (λ peer. final_told_at s k peer m class now) o s)
      to k None = refl
      to k (Some peer) = made k (final_about s peer m class now)

      at : (o : Option ℕ) → SameQueue n s (option_map_or (λ k. option_map_or (λ peer. final_told_at s k peer m class now) (slice_get s.peers k) s) o s)
      at None = refl
      at (Some k) = to k (slice_get s.peers k)

  buried_apart : (s : State) (m : Message) (class : Class) → SameQueue n s (buried s m class)
  buried_apart s m class = at ((is_ordinary m && is_negative class.0) && keeps_dead m && not (final_is_due m class s.identity.guid)) (is_transactional m.delivery)
    where
      at : (b t : Bool) → SameQueue n s (option_map_or (λ at. put_at s at m) (option_and_then (place_named s.places.queues) (cond b (Some (cond t named.DeadXact named.Dead)) None)) s)
      at true true = refl
      at true false = refl
      at false t = refl

  pub meets_apart : (s : State) (m : Message) (class : Class) (now : ℕ) → numbered s.places.queues n ≡ Some q → SameQueue n s (meets s m class now)
  meets_apart s m class now e = let one = admin_told s m class now in let two = final_told one m class now in
      buried_apart two m class ∙ final_apart one m class now ∙ admin_apart s m class now e

-- The queue of what is put.

pub record IsTaking (s : State) (m : Message) : Type 0 where
  pub queue : ℕ
  pub plan : Queue
  pub leads : resolved s m.destination ≡ Here (Some queue)
  pub there : numbered s.places.queues queue ≡ Some plan
  pub takes : refusal_by m.delivery plan ≡ None

target_takes : (s : State) (m : Message) (t : Target) → resolved s m.destination ≡ t → target_refusal s t m.delivery ≡ None → IsTaking s m
target_takes s m (Here (Some a)) e f = at (numbered s.places.queues a) refl f
  where
    at : (o : Option Queue) → numbered s.places.queues a ≡ o → option_map_or (refusal_by m.delivery) o (Some BAD_DESTINATION) ≡ None → IsTaking s m
    at None g h = absurd (none_some (sym h))
    at (Some x) g h = record { queue = a; plan = x; leads = e; there = g; takes = h }
target_takes s m t e f = absurd (none_some (sym f))

pub takes_put : (s : State) (p : UserPacket) → refusal_of s p ≡ None → IsTaking s p.message
takes_put s p e = at (p.remaining == 0) e
  where
    at : (b : Bool) → cond b (Some REACH_TIMEOUT) (target_refusal s (resolved s p.message.destination) p.message.delivery) ≡ None → IsTaking s p.message
    at true f = absurd (none_some (sym f))
    at false f = target_takes s p.message (resolved s p.message.destination) refl f

takes_transactional : (q : Queue) → refusal_by delivery.Transactional q ≡ None → q.plan.transactional ≡ true
takes_transactional q e = at q.plan.transactional e
  where
    rest : Option Class
    rest = cond (nat_le q.plan.quota (length_met true q.lists)) (Some QUOTA_EXCEEDED) None

    at : (b : Bool) → cond (not b) (Some QUEUE_NOT_TRANSACTIONAL) rest ≡ None → b ≡ true
    at true f = refl
    at false f = absurd (none_some (sym f))

-- a message of a transaction that is put joins its queue
pub decided_joins : (now : ℕ) (s : State) (p : UserPacket) (tx : TxHead) → refusal_of s p ≡ None → p.message.delivery ≡ delivery.Transactional
    → JoinsQueue s (message_decided now s p tx).state p.message
decided_joins now s p tx free kind = record {
  queue = n;
  leads = taking.leads;
  lists = q.lists;
  before = ap (option_map (λ (x : Queue). x.lists)) taking.there;
  after = ap (λ r. lists_at (arrived t m now r).places (place.Queue n)) free
      ∙ ap (λ to. lists_at (meets (placed t to m) m REACHED_QUEUE now).places (place.Queue n)) taking.leads
      ∙ ap (option_map (λ (x : Queue). x.lists)) (meets_apart n later transactional (put_at t (place.Queue n) m) m REACHED_QUEUE now joined ∙ joined)
      ∙ ap (λ x. Some (put (lane_of x) m q.lists)) kind;
}
  where
    m : Message
    m = p.message

    t : State
    t = with_decided s m tx

    taking : IsTaking s m
    taking = takes_put s p free

    n : ℕ
    n = taking.queue

    q : Queue
    q = taking.plan

    later : Queue
    later = record q { lists = put (lane_of m.delivery) m q.lists }

    transactional : later.plan.transactional ≡ true
    transactional = takes_transactional q (ap (λ x. refusal_by x q) (sym kind) ∙ taking.takes)

    joined : numbered (put_at t (place.Queue n) m).places.queues n ≡ Some later
    joined = put_there n t m q taking.there

-- what is released leaves the queues
pub released_places : (e : Effect) (numbers : List ℕ) → (fold message_released e numbers).state.places ≡ e.state.places
released_places e [] = refl
released_places e (k ∷ ks) = released_places (message_released e k) ks

pub released_leads : (e : Effect) (numbers : List ℕ) (name : QueueName) → resolved (fold message_released e numbers).state name ≡ resolved e.state name
released_leads e [] name = refl
released_leads e (k ∷ ks) name = released_leads (message_released e k) ks name
