-- What stands beside the durable part of a state outlasts notices, and messages that are put, sent, taken, purged and due, durable ones and express.
use Rattle.std.proofs.Common.{refl, sym, subst, arith}
use Rattle.std.specs.List.{AllByRecursion}
use Rattle.std.specs.Prelude.{◌&&◌, ◌∷◌, ◌≡◌, [], Bool, IfSome, IsTrue, List, None, Option, Some, cond, false, not, option_and_then, option_map, slice_get, true, ℕ}
use Rattle.mqb_base.specs.Bits.{keeps_copy}
use Rattle.mqb_base.specs.Classes.{is_class}
use Rattle.mqb_base.specs.Lanes.{lane_of}
use Rattle.mqb_base.specs.QueueNames.{absent_or_queue, names_queue}
use Rattle.mqb_base.specs.declared.class.Class.{Class}
use Rattle.mqb_base.specs.declared.class.TheConstants.Class.{REACHED_QUEUE}
use Rattle.mqb_base.specs.declared.message.Delivery.{Delivery}
use Rattle.mqb_base.specs.declared.message.Delivery.TheVariants as delivery
use Rattle.mqb_base.specs.declared.message.Lane.{Lane}
use Rattle.mqb_base.specs.declared.message.Lane.TheVariants as lane
use Rattle.mqb_base.specs.declared.message.Message.{Message}
use Rattle.mqb_base.specs.declared.queue_names.QueueName.{QueueName}
use Rattle.mqb_base.specs.declared.queues.EntryPlace.TheVariants as place
use Rattle.mqb_fate.specs.Asking.{asks_for, is_ordinary}
use Rattle.mqb_fate.specs.Notices.{admin_delivery, notice_about}
use Rattle.mqb_packet.specs.mqb_names.Values.{IsQueueName}
use Rattle.mqb_packet.specs.declared.packet.Headers.{Headers}
use Rattle.mqb_packet.specs.declared.packet.Headers.TheVariants as headers
use Rattle.mqb_plain.specs.Lists.{is_sent_by}
use Rattle.mqb_plain.specs.Plain.{PlainLists, outgoing_in}
use Rattle.mqb_plain.specs.declared.outgoing.Outgoing.{Outgoing}
use Rattle.mqb_queue.specs.Lists.{messages_in}
use Rattle.mqb_model.specs.declared.target.Target.{Target}
use Rattle.mqb_model.specs.declared.target.Target.TheVariants.{AtPeer, Here, Nowhere}
use Rattle.mqb_model.specs.managers.Beside.{without_acked}
use Rattle.mqb_model.specs.managers.Manager.{Rest}
use Rattle.mqb_model.specs.rules.Notices.{admin_about, arrived, final_about, meets}
use Rattle.mqb_model.specs.rules.Numbers.{number_left, number_taken}
use Rattle.mqb_model.specs.rules.Sends.{delivered, journalled, plain_sent}
use Rattle.mqb_model.specs.state.Places.{is_express, placed, put_at, with_plain}
use Rattle.mqb_model.specs.state.Resolving.{resolved}
use Rattle.mqb_model.specs.state.State.{State}
use Rattle.mqb_model.specs.state.Valid.{IsCarried}
use Rattle.mqb_model.proofs.Accepting.{IsHere, Known}
use Rattle.mqb_model.proofs.Accord.{Accords, IsApt, IsHeld, PlainHeld, ListsHeld, apt_held, dropped_accords, durable_apt, item_accords, lists_apt, number_accords, pushed_accords, put_accords, thinned_accords, without_accords}
use Rattle.mqb_model.proofs.Followed.{bare_carried}
use Rattle.mqb_model.proofs.Having.{QueueHas}
use Rattle.mqb_model.proofs.Holding.{get_holds}
use Rattle.mqb_model.proofs.Marks.{Thinned, lost}
use Rattle.mqb_model.proofs.Meeting.{admin_durable, final_durable}
use Rattle.mqb_model.proofs.Members.{fewer_all, fewer_filter, same}
use Rattle.mqb_model.proofs.Noticing.{notice_small}
use Rattle.mqb_model.proofs.Walking.{Outlasts, OutlastsLeaving, meets_outlasts}

-- Messages.

if_map : {X : Type 0} (P Q : X → Type 0) (o : Option X) → ((x : X) → P x → Q x) → IfSome o P → IfSome o Q
if_map P Q None f h = tt
if_map P Q (Some x) f h = f x h

pub apt_express : (beside : Headers) (m : Message) → is_express m.delivery ≡ true → IsApt beside m → IsCarried beside m
apt_express beside m e h = by m.delivery e h
  where
    by : (x : Delivery) → is_express x ≡ true → IsHeld (lane_of x) beside m → IsCarried beside m
    by delivery.Express e h = h.0
    by delivery.Recoverable e h = absurd (let none : ⊥ = cc in none)
    by delivery.Transactional e h = absurd (let none : ⊥ = cc in none)

pub express_apt : (beside : Headers) (m : Message) → IsCarried beside m → is_express m.delivery ≡ true → IsApt beside m
express_apt beside m c e = apt_held lane.Express beside m (c, e)

-- what can be carried in a session can be carried without further headers
pub bare_apt : (m : Message) → IsApt headers.Session m → IsApt headers.Bare m
bare_apt m h = by (is_express m.delivery) refl
  where
    by : (b : Bool) → is_express m.delivery ≡ b → IsApt headers.Bare m
    by true e = express_apt headers.Bare m (bare_carried m (apt_express headers.Session m e h)) e
    by false e = durable_apt headers.Bare m e

-- Notices about express messages.

express_notice : (s : State) (m : Message) (class : Class) (to : QueueName) (number now : ℕ) → IsTrue (is_class class.0) → IsQueueName to → IsTrue (names_queue to)
    → IsHeld lane.Express headers.Session (notice_about m class delivery.Express to (record { qm = s.identity.guid; number = number }) now)
express_notice s m class to number now known named queue = (
  record {
    well_formed = record {
      priority = omega arith;
      ack = omega arith;
      journal = omega arith;
      label = omega arith;
      class = known;
      destination = queue;
      admin = refl;
      response = refl;
    };
    named = record { destination = named; admin = tt; response = tt };
    size = notice_small m class delivery.Express to (record { qm = s.identity.guid; number = number }) now named;
  },
  refl,
)

pub admin_express : (s : State) (m : Message) (class : Class) (now : ℕ) → is_express m.delivery ≡ true → IsTrue (is_class class.0) → IsCarried headers.Bare m
    → IfSome (admin_about s m class now) (IsHeld lane.Express headers.Session)
admin_express s m class now express known c = by m.delivery express
  where
    -- the message that follows one of this delivery
    about : Delivery → ℕ → Option Message
    about x number = cond (is_ordinary m && asks_for m class)
        (option_map (λ a. notice_about m class (admin_delivery x) a (record { qm = s.identity.guid; number = number }) now) m.admin) None

    made : (b : Bool) (admin : Option QueueName) → IfSome admin IsQueueName → IsTrue (absent_or_queue admin)
        → IfSome (cond b (option_map (λ a. notice_about m class delivery.Express a (record { qm = s.identity.guid; number = s.next_express }) now) admin) None) (IsHeld lane.Express headers.Session)
    made true None n q = tt
    made true (Some a) n q = express_notice s m class a s.next_express now known n q
    made false admin n q = tt

    by : (x : Delivery) → is_express x ≡ true → IfSome (option_and_then (about x) (number_left s (admin_delivery x))) (IsHeld lane.Express headers.Session)
    by delivery.Express e = made (is_ordinary m && asks_for m class) m.admin c.named.admin c.well_formed.admin
    by delivery.Recoverable e = absurd (let none : ⊥ = cc in none)
    by delivery.Transactional e = absurd (let none : ⊥ = cc in none)

module _ (rest : Rest) where
  admin_apt : (s : State) (m : Message) (class : Class) (now : ℕ) → IsApt headers.Bare m → IsTrue (is_class class.0) → Accords rest s
      → IfSome (admin_about s m class now) (IsApt headers.Session)
  admin_apt s m class now apt known a = by (is_express m.delivery) refl
    where
      by : (b : Bool) → is_express m.delivery ≡ b → IfSome (admin_about s m class now) (IsApt headers.Session)
      by true e = if_map (IsHeld lane.Express headers.Session) (IsApt headers.Session) (admin_about s m class now) (λ n h. apt_held lane.Express headers.Session n h)
          (admin_express s m class now e known (apt_express headers.Bare m e apt))
      by false e = if_map (λ n. is_express n.delivery ≡ false) (IsApt headers.Session) (admin_about s m class now) (λ n h. durable_apt headers.Session n h)
          (admin_durable s m class now e)

  pub placed_accords : (s : State) (t : Target) (m : Message) → IsApt headers.Session m → Accords rest s → Accords rest (placed s t m)
  placed_accords s (Here None) m apt a = a
  placed_accords s (Here (Some n)) m apt a = put_accords rest s (place.Queue n) m (bare_apt m apt) a
  placed_accords s (AtPeer k) m apt a = pushed_accords rest s k m apt a
  placed_accords s Nowhere m apt a = a

  pub outlasts : Outlasts (IsApt headers.Bare) (IsApt headers.Session) (Accords rest)
  outlasts = record {
    admin = admin_apt;
    final = λ s peer m class now apt a. if_map (λ n. is_express n.delivery ≡ false) (IsApt headers.Session) (final_about s peer m class now)
        (λ n h. durable_apt headers.Session n h) (final_durable s peer m class now);
    told = λ s t n apt goes a. placed_accords (number_taken s n.delivery) t n apt (number_accords rest s n.delivery a);
    dead = λ s m apt a. put_accords rest s place.Dead m apt a;
    dead_xact = λ s m apt a. put_accords rest s place.DeadXact m apt a;
  }

  pub meets_accords : (s : State) (m : Message) (class : Class) (now : ℕ) → IsApt headers.Bare m → IsTrue (is_class class.0) → Accords rest s → Accords rest (meets s m class now)
  meets_accords s m class now apt known a = meets_outlasts (IsApt headers.Bare) (IsApt headers.Session) (Accords rest) outlasts s m class now apt known a

  waiting_apt : (kind : Lane) (p : PlainLists) → PlainHeld p → AllByRecursion (λ o. IsApt headers.Bare o.message) (outgoing_in kind p)
  waiting_apt lane.Durable p h = each p.recoverable h.0
    where
      each : (items : List Outgoing) → AllByRecursion (λ o. IsHeld lane.Durable headers.Session o.message) items → AllByRecursion (λ o. IsApt headers.Bare o.message) items
      each [] a = tt
      each (o ∷ items) a = (bare_apt o.message (apt_held lane.Durable headers.Session o.message a.0), each items a.1)
  waiting_apt lane.Express p h = each p.express h.1
    where
      each : (items : List Outgoing) → AllByRecursion (λ o. IsHeld lane.Express headers.Session o.message) items → AllByRecursion (λ o. IsApt headers.Bare o.message) items
      each [] a = tt
      each (o ∷ items) a = (bare_apt o.message (apt_held lane.Express headers.Session o.message a.0), each items a.1)

  pub waiting_accord : (kind : Lane) (s : State) (k : ℕ) → Accords rest s
      → IfSome (slice_get s.plain k) (λ p. AllByRecursion (λ o. IsApt headers.Bare o.message) (outgoing_in kind p))
  waiting_accord kind s k a = if_map PlainHeld (λ p. AllByRecursion (λ o. IsApt headers.Bare o.message) (outgoing_in kind p)) (slice_get s.plain k)
      (λ p h. waiting_apt kind p h) (get_holds PlainHeld s.plain k a.plain)

  pub queued_accord : (kind : Lane) (s : State) (k : ℕ) → Accords rest s
      → IfSome (slice_get s.places.queues k) (λ q. AllByRecursion (IsApt headers.Bare) (messages_in kind q.lists))
  queued_accord kind s k a = if_map (QueueHas ListsHeld) (λ q. AllByRecursion (IsApt headers.Bare) (messages_in kind q.lists)) (slice_get s.places.queues k)
      (λ q h. lists_apt kind q.lists h.0) (get_holds (QueueHas ListsHeld) s.places.queues k a.places.queues)

  pub outlasts_leaving : (kind : Lane) → OutlastsLeaving kind (IsApt headers.Bare) (Accords rest)
  outlasts_leaving kind = record {
    item = λ s at k a. item_accords rest kind s at k a;
    leaves = λ s at k a. without_accords rest kind s at k a;
    copy = λ s number m apt a. put_accords rest s (place.JournalOf number) m apt a;
    waiting = λ s k a. waiting_accord kind s k a;
    dropped = λ index s k a. dropped_accords rest kind index s k a;
    queued = λ s k a. queued_accord kind s k a;
  }

  -- Sends and arrivals.

  pub journalled_accords : (s : State) (m : Message) → IsApt headers.Bare m → Accords rest s → Accords rest (journalled s m)
  journalled_accords s m apt a = at (keeps_copy m)
    where
      at : (b : Bool) → Accords rest (cond b (put_at s place.Journal m) s)
      at true = put_accords rest s place.Journal m apt a
      at false = a

  -- a message whose target is no peer needs no session
  pub here_accords : (s : State) (queue : Option ℕ) (m : Message) (now : ℕ) → IsApt headers.Bare m → Accords rest s → Accords rest (delivered s (Here queue) m now)
  here_accords s None m now apt a = meets_accords s m REACHED_QUEUE now apt refl a
  here_accords s (Some n) m now apt a = meets_accords (put_at s (place.Queue n) m) m REACHED_QUEUE now apt refl (put_accords rest s (place.Queue n) m apt a)

  delivered_accords : (s : State) (t : Target) (m : Message) (now : ℕ) → IsApt headers.Session m → Accords rest s → Accords rest (delivered s t m now)
  delivered_accords s (AtPeer k) m now apt a = pushed_accords rest s k m apt a
  delivered_accords s (Here queue) m now apt a = here_accords s queue m now (bare_apt m apt) a
  delivered_accords s Nowhere m now apt a = meets_accords s m REACHED_QUEUE now (bare_apt m apt) refl a

  pub sent_accords : (s : State) (m : Message) (now : ℕ) → IsApt headers.Session m → Accords rest s → Accords rest (plain_sent s m now)
  sent_accords s m now apt a = delivered_accords (journalled s m) (resolved s m.destination) m now apt (journalled_accords s m (bare_apt m apt) a)

  pub arrived_accords : (s : State) (m : Message) (now : ℕ) (refusal : Option Class) → IfSome refusal Known → (refusal ≡ None → IsHere (resolved s m.destination))
      → IsApt headers.Bare m → Accords rest s → Accords rest (arrived s m now refusal)
  arrived_accords s m now (Some class) known here apt a = meets_accords s m class now apt known a
  arrived_accords s m now None known here apt a = subst (λ t. Accords rest (meets (placed s t m) m REACHED_QUEUE now)) (sym (here refl).1)
      (meets_accords (put_at s (place.Queue (here refl).0) m) m REACHED_QUEUE now apt refl (put_accords rest s (place.Queue (here refl).0) m apt a))

  -- what a peer acknowledged leaves
  pub acked_accords : (s : State) (k number : ℕ) → Accords rest s → Accords rest (with_plain (without_acked number) s k)
  acked_accords s k number a = thinned_accords rest s (without_acked number) k held thins a
    where
      held : (p : PlainLists) → PlainHeld p → PlainHeld (without_acked number p)
      held p h = (h.0, fewer_all (λ o. IsHeld lane.Express headers.Session o.message) (fewer_filter (λ o. not (is_sent_by number o)) p.express) h.1)

      thins : (p : PlainLists) → Thinned (without_acked number p) p
      thins p = record { recoverable = lost (same p.recoverable); express = lost (fewer_filter (λ o. not (is_sent_by number o)) p.express) }
