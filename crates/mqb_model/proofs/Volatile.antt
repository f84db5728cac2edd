-- What is done beside a record leaves what the store stands for.
use Rattle.std.proofs.Common.{refl, ap, sym, subst, ◌∙◌}
use Rattle.std.specs.List.{AllByRecursion}
use Rattle.std.specs.Option.{option_map_or}
use Rattle.std.specs.Prelude.{◌&&◌, ◌-◌, ◌==◌, ◌∷◌, ◌≡◌, [], Bool, IfSome, IsTrue, List, None, Option, Some, cond, false, is_none, map, not, option_and_then, option_map, slice_get, slice_set, true, ℕ}
use Rattle.mqb_base.specs.Bits.{keeps_copy, keeps_dead}
use Rattle.mqb_base.specs.Classes.{is_class}
use Rattle.mqb_base.specs.Lanes.{lane_of}
use Rattle.mqb_base.specs.Same.{same_guid}
use Rattle.mqb_base.specs.declared.class.Class.{Class}
use Rattle.mqb_base.specs.declared.class.TheConstants.Class.{REACHED_QUEUE}
use Rattle.mqb_base.specs.declared.heads.SessionHead.{SessionHead}
use Rattle.mqb_base.specs.declared.ids.Guid.{Guid}
use Rattle.mqb_base.specs.declared.ids.Identity.{Identity}
use Rattle.mqb_base.specs.declared.message.Delivery.{Delivery}
use Rattle.mqb_base.specs.declared.message.Delivery.TheVariants as delivery
use Rattle.mqb_base.specs.declared.message.Lane.TheVariants as lane
use Rattle.mqb_base.specs.declared.message.Message.{Message}
use Rattle.mqb_base.specs.declared.queues.EntryPlace.{EntryPlace}
use Rattle.mqb_base.specs.declared.queues.EntryPlace.TheVariants as place
use Rattle.mqb_fate.specs.Asking.{final_is_due, is_ordinary, is_transactional}
use Rattle.mqb_fate.specs.Notices.{final_notice, notice_about}
use Rattle.mqb_fate.specs.Orders.{order_layer}
use Rattle.mqb_packet.specs.declared.packet.Headers.TheVariants as headers
use Rattle.mqb_plain.specs.Lists.{marked_next, unmarked, unsent}
use Rattle.mqb_plain.specs.Plain.{PlainLists, pushed, without}
use Rattle.mqb_plain.specs.declared.outgoing.Outgoing.{Outgoing}
use Rattle.mqb_queue.specs.Lists.{Lists, put}
use Rattle.mqb_queue.specs.Lists as places
use Rattle.mqb_queue.specs.Places.{Places, Queue, changed_at, lists_at, numbered}
use Rattle.mqb_model.specs.Lists.{with_changed}
use Rattle.mqb_model.specs.declared.target.Target.{Target}
use Rattle.mqb_model.specs.declared.target.Target.TheVariants.{AtPeer, Here, Nowhere}
use Rattle.mqb_model.specs.managers.Beside.{Origin, noted, noted_as, with_marked, without_acked}
use Rattle.mqb_model.specs.managers.Beside as beside
use Rattle.mqb_model.specs.managers.Manager.{Rest}
use Rattle.mqb_model.specs.rules.Effects.{begun}
use Rattle.mqb_model.specs.rules.Notices.{arrived, final_about, meets}
use Rattle.mqb_model.specs.rules.Numbers.{number_left, number_taken}
use Rattle.mqb_model.specs.rules.Purges.{purged}
use Rattle.mqb_model.specs.rules.Sends.{delivered, journalled, plain_sent}
use Rattle.mqb_model.specs.rules.Takes.{message_at, taken_at}
use Rattle.mqb_model.specs.rules.Timeouts.{lane_ticked}
use Rattle.mqb_model.specs.state.Durable.{durable, durable_lists, durable_places, durable_plain, durable_queue}
use Rattle.mqb_model.specs.state.Places.{is_express, placed, put_at, with_place, with_plain}
use Rattle.mqb_model.specs.state.Resolving.{resolved}
use Rattle.mqb_model.specs.state.State.{State}
use Rattle.mqb_model.proofs.Accepting.{IsHere, Known}
use Rattle.mqb_model.proofs.Accord.{Accords, IsHeld, ListsHeld, PlainHeld, apt_held, dropped_accords, number_accords, put_accords, without_accords}
use Rattle.mqb_model.proofs.Besides.{admin_express, placed_accords}
use Rattle.mqb_model.proofs.Followed.{bare_carried}
use Rattle.mqb_model.proofs.Having.{QueueHas, lists_have}
use Rattle.mqb_model.proofs.Holding.{get_holds}
use Rattle.mqb_model.proofs.Members.{set_same}
use Rattle.mqb_model.proofs.Remaining.{numbered_get}
use Rattle.mqb_model.proofs.Walking.{Outlasts, OutlastsLeaving, meets_outlasts, purged_outlasts, taken_at_outlasts, ticked_outlasts}

-- Places.

changed_volatile : (p : Places) (at : EntryPlace) (g : Lists → Lists) → ((l : Lists) → durable_lists (g l) ≡ durable_lists l)
    → durable_places (changed_at p at g) ≡ durable_places p
changed_volatile p (place.Queue n) g same = by (numbered p.queues n) refl
  where
    by : (o : Option Queue) → numbered p.queues n ≡ o
        → durable_places (option_map_or (λ l. record p { queues = option_map_or (λ x. slice_set p.queues (n - 1) (record x { lists = g l })) o p.queues }) (option_map (λ q. q.lists) o) p)
        ≡ durable_places p
    by None e = refl
    by (Some q) e = ap (λ qs. record (durable_places p) { queues = qs }) (set_same durable_queue p.queues (n - 1) q (record q { lists = g q.lists }) (numbered_get p.queues n q e)
        (ap (λ l. record (durable_queue q) { lists = l }) (same q.lists)))
changed_volatile p (place.JournalOf n) g same = by (numbered p.queues n) refl
  where
    by : (o : Option Queue) → numbered p.queues n ≡ o
        → durable_places (option_map_or (λ l. record p { queues = option_map_or (λ x. slice_set p.queues (n - 1) (record x { journal = g l })) o p.queues }) (option_map (λ q. q.journal) o) p)
        ≡ durable_places p
    by None e = refl
    by (Some q) e = ap (λ qs. record (durable_places p) { queues = qs }) (set_same durable_queue p.queues (n - 1) q (record q { journal = g q.journal }) (numbered_get p.queues n q e)
        (ap (λ l. record (durable_queue q) { journal = l }) (same q.journal)))
changed_volatile p place.Dead g same = ap (λ l. record (durable_places p) { dead = l }) (same p.dead)
changed_volatile p place.DeadXact g same = ap (λ l. record (durable_places p) { dead_xact = l }) (same p.dead_xact)
changed_volatile p place.Journal g same = ap (λ l. record (durable_places p) { journal = l }) (same p.journal)

place_volatile : (s : State) (at : EntryPlace) (g : Lists → Lists) → ((l : Lists) → durable_lists (g l) ≡ durable_lists l) → durable (with_place g s at) ≡ durable s
place_volatile s at g same = ap (λ p. record (durable s) { places = p }) (changed_volatile s.places at g same)

pub put_volatile : (s : State) (at : EntryPlace) (m : Message) → is_express m.delivery ≡ true → durable (put_at s at m) ≡ durable s
put_volatile s at m express = by m.delivery express
  where
    by : (x : Delivery) → is_express x ≡ true → durable (with_place (put (lane_of x) m) s at) ≡ durable s
    by delivery.Express e = place_volatile s at (put lane.Express m) (λ l. refl)
    by delivery.Recoverable e = absurd (let none : ⊥ = cc in none)
    by delivery.Transactional e = absurd (let none : ⊥ = cc in none)

-- Plain messages.

plains_volatile : (change : PlainLists → PlainLists) (ps : List PlainLists) (k : ℕ) → ((p : PlainLists) → durable_plain (change p) ≡ durable_plain p)
    → map durable_plain (with_changed change ps k) ≡ map durable_plain ps
plains_volatile change ps k same = by (slice_get ps k) refl
  where
    by : (o : Option PlainLists) → slice_get ps k ≡ o → map durable_plain (option_map_or (λ x. slice_set ps k (change x)) o ps) ≡ map durable_plain ps
    by None e = refl
    by (Some p) e = set_same durable_plain ps k p (change p) e (same p)

pub plain_volatile : (s : State) (k : ℕ) (change : PlainLists → PlainLists) → ((p : PlainLists) → durable_plain (change p) ≡ durable_plain p)
    → durable (with_plain change s k) ≡ durable s
plain_volatile s k change same = ap (λ ps. record (durable s) { plain = ps }) (plains_volatile change s.plain k same)

pushed_volatile : (s : State) (k : ℕ) (m : Message) → is_express m.delivery ≡ true → durable (with_plain (pushed (lane_of m.delivery) m) s k) ≡ durable s
pushed_volatile s k m express = by m.delivery express
  where
    by : (x : Delivery) → is_express x ≡ true → durable (with_plain (pushed (lane_of x) m) s k) ≡ durable s
    by delivery.Express e = plain_volatile s k (pushed lane.Express m) (λ p. refl)
    by delivery.Recoverable e = absurd (let none : ⊥ = cc in none)
    by delivery.Transactional e = absurd (let none : ⊥ = cc in none)

placed_volatile : (s : State) (t : Target) (m : Message) → is_express m.delivery ≡ true → durable (placed s t m) ≡ durable s
placed_volatile s (Here None) m e = refl
placed_volatile s (Here (Some n)) m e = put_volatile s (place.Queue n) m e
placed_volatile s (AtPeer k) m e = pushed_volatile s k m e
placed_volatile s Nowhere m e = refl

number_volatile : (s : State) (x : Delivery) → is_express x ≡ true → durable (number_taken s x) ≡ durable s
number_volatile s delivery.Express e = refl
number_volatile s delivery.Recoverable e = absurd (let none : ⊥ = cc in none)
number_volatile s delivery.Transactional e = absurd (let none : ⊥ = cc in none)

-- No final acknowledgement is due for an express message.

not_transactional : (x : Delivery) → is_express x ≡ true → is_transactional x ≡ false
not_transactional delivery.Express e = refl
not_transactional delivery.Recoverable e = absurd (let none : ⊥ = cc in none)
not_transactional delivery.Transactional e = absurd (let none : ⊥ = cc in none)

none_due : (m : Message) (class : Class) (own : Guid) → is_express m.delivery ≡ true → final_is_due m class own ≡ false
none_due m class own e = by (is_ordinary m)
  where
    by : (b : Bool) → ((((b && is_transactional m.delivery) && not (same_guid m.id.qm own)) && keeps_dead m) && not (class.0 == REACHED_QUEUE.0)) ≡ false
    by true = ap (λ t. (((t && not (same_guid m.id.qm own)) && keeps_dead m) && not (class.0 == REACHED_QUEUE.0))) (not_transactional m.delivery e)
    by false = refl

final_none : (Q : Message → Type 0) (s : State) (peer : Identity) (m : Message) (class : Class) (now : ℕ) → is_express m.delivery ≡ true → IfSome (final_about s peer m class now) Q
final_none Q s peer m class now e = by (number_left s delivery.Recoverable)
  where
    due : (n : Message) (b : Bool) → b ≡ false → IfSome (cond b (Some n) None) Q
    due n true f = absurd (let none : ⊥ = cc in none)
    due n false f = tt

    by : (o : Option ℕ) → IfSome (option_and_then (λ number. final_notice m class s.identity.guid peer number now) o) Q
    by None = tt
    by (Some number) = due (notice_about m class delivery.Recoverable (order_layer peer.host) (record { qm = s.identity.guid; number = number }) now) (final_is_due m class s.identity.guid) (none_due m class s.identity.guid e)

-- The walk.

abbrev Express : Message → Type 0
Express m = IsHeld lane.Express headers.Bare m

abbrev ExpressNotice : Message → Type 0
ExpressNotice m = IsHeld lane.Express headers.Session m

module _ (rest : Rest) (d : State) where
  -- a state in accord that has this durable part
  abbrev pub Stays : State → Type 0
  Stays s = Accords rest s × (durable s ≡ d)

  pub volatile_outlasts : Outlasts Express ExpressNotice Stays
  volatile_outlasts = record {
    admin = λ s m class now l known h. admin_express s m class now l.1 known l.0;
    final = λ s peer m class now l h. final_none ExpressNotice s peer m class now l.1;
    told = λ s t n i goes h. (
      placed_accords rest (number_taken s n.delivery) t n (apt_held lane.Express headers.Session n i) (number_accords rest s n.delivery h.0),
      placed_volatile (number_taken s n.delivery) t n i.1 ∙ number_volatile s n.delivery i.1 ∙ h.1,
    );
    dead = λ s m l h. (put_accords rest s place.Dead m (apt_held lane.Express headers.Bare m l) h.0, put_volatile s place.Dead m l.1 ∙ h.1);
    dead_xact = λ s m l h. (put_accords rest s place.DeadXact m (apt_held lane.Express headers.Bare m l) h.0, put_volatile s place.DeadXact m l.1 ∙ h.1);
  }

  item_express : (s : State) (at : EntryPlace) (k : ℕ) → Accords rest s → IfSome (message_at lane.Express s at k) Express
  item_express s at k a = of (lists_at s.places at) (lists_have ListsHeld s.places at a.places)
    where
      of : (o : Option Lists) → IfSome o ListsHeld → IfSome (option_and_then (λ l. slice_get l.express k) o) Express
      of None h = tt
      of (Some l) h = get_holds Express l.express k h.1

  waiting_express : (s : State) (k : ℕ) → Accords rest s → IfSome (slice_get s.plain k) (λ p. AllByRecursion (λ o. Express o.message) p.express)
  waiting_express s k a = of (slice_get s.plain k) (get_holds PlainHeld s.plain k a.plain)
    where
      each : (items : List Outgoing) → AllByRecursion (λ o. ExpressNotice o.message) items → AllByRecursion (λ o. Express o.message) items
      each [] h = tt
      each (o ∷ items) h = ((bare_carried o.message (h.0).0, (h.0).1), each items h.1)

      of : (o : Option PlainLists) → IfSome o PlainHeld → IfSome o (λ p. AllByRecursion (λ o. Express o.message) p.express)
      of None h = tt
      of (Some p) h = each p.express h.1

  queued_express : (s : State) (k : ℕ) → Accords rest s → IfSome (slice_get s.places.queues k) (λ q. AllByRecursion Express q.lists.express)
  queued_express s k a = of (slice_get s.places.queues k) (get_holds (QueueHas ListsHeld) s.places.queues k a.places.queues)
    where
      of : (o : Option Queue) → IfSome o (QueueHas ListsHeld) → IfSome o (λ q. AllByRecursion Express q.lists.express)
      of None h = tt
      of (Some q) h = (h.0).1

  pub volatile_leaving : OutlastsLeaving lane.Express Express Stays
  volatile_leaving = record {
    item = λ s at k h. item_express s at k h.0;
    leaves = λ s at k h. (without_accords rest lane.Express s at k h.0, place_volatile s at (places.without lane.Express k) (λ l. refl) ∙ h.1);
    copy = λ s number m l h. (put_accords rest s (place.JournalOf number) m (apt_held lane.Express headers.Bare m l) h.0, put_volatile s (place.JournalOf number) m l.1 ∙ h.1);
    waiting = λ s k h. waiting_express s k h.0;
    dropped = λ index s k h. (dropped_accords rest lane.Express index s k h.0, plain_volatile s k (without lane.Express index) (λ p. refl) ∙ h.1);
    queued = λ s k h. queued_express s k h.0;
  }

  pub volatile_taken : (now : ℕ) (at : EntryPlace) (k : ℕ) (s : State) → Stays s → Stays (taken_at lane.Express at k now (begun s)).state
  volatile_taken now at k s h = taken_at_outlasts lane.Express Express ExpressNotice Stays volatile_outlasts volatile_leaving at k now (begun s) h

  pub volatile_purged : (now : ℕ) (at : EntryPlace) (s : State) → Stays s → Stays (purged lane.Express at now (begun s)).state
  volatile_purged now at s h = purged_outlasts lane.Express Express ExpressNotice Stays volatile_outlasts volatile_leaving at now (begun s) h

  pub volatile_ticked : (now : ℕ) (s : State) → Stays s → Stays (lane_ticked lane.Express now (begun s)).state
  volatile_ticked now s h = ticked_outlasts lane.Express Express ExpressNotice Stays volatile_outlasts volatile_leaving now (begun s) h

  volatile_meets : (s : State) (m : Message) (class : Class) (now : ℕ) → Express m → IsTrue (is_class class.0) → Stays s → Stays (meets s m class now)
  volatile_meets s m class now l known h = meets_outlasts Express ExpressNotice Stays volatile_outlasts s m class now l known h

  volatile_put : (s : State) (at : EntryPlace) (m : Message) → Express m → Stays s → Stays (put_at s at m)
  volatile_put s at m l h = (put_accords rest s at m (apt_held lane.Express headers.Bare m l) h.0, put_volatile s at m l.1 ∙ h.1)

  volatile_journalled : (s : State) (m : Message) → Express m → Stays s → Stays (journalled s m)
  volatile_journalled s m l h = at (keeps_copy m)
    where
      at : (b : Bool) → Stays (cond b (put_at s place.Journal m) s)
      at true = volatile_put s place.Journal m l h
      at false = h

  volatile_delivered : (s : State) (t : Target) (m : Message) (now : ℕ) → ExpressNotice m → Stays s → Stays (delivered s t m now)
  volatile_delivered s (AtPeer k) m now l h = (placed_accords rest s (AtPeer k) m (apt_held lane.Express headers.Session m l) h.0, pushed_volatile s k m l.1 ∙ h.1)
  volatile_delivered s (Here None) m now l h = volatile_meets s m REACHED_QUEUE now (bare_carried m l.0, l.1) refl h
  volatile_delivered s (Here (Some n)) m now l h = volatile_meets (put_at s (place.Queue n) m) m REACHED_QUEUE now (bare_carried m l.0, l.1) refl
      (volatile_put s (place.Queue n) m (bare_carried m l.0, l.1) h)
  volatile_delivered s Nowhere m now l h = volatile_meets s m REACHED_QUEUE now (bare_carried m l.0, l.1) refl h

  pub volatile_sent : (now : ℕ) (m : Message) (s : State) → ExpressNotice m → Stays s → Stays (plain_sent (number_taken s delivery.Express) m now)
  volatile_sent now m s l h = volatile_delivered (journalled after m) (resolved after m.destination) m now l
      (volatile_journalled after m (bare_carried m l.0, l.1) (number_accords rest s delivery.Express h.0, h.1))
    where
      after : State
      after = number_taken s delivery.Express

  pub volatile_arrived : (s : State) (m : Message) (now : ℕ) (refusal : Option Class) → IfSome refusal Known → (refusal ≡ None → IsHere (resolved s m.destination))
      → Express m → Stays s → Stays (arrived s m now refusal)
  volatile_arrived s m now (Some class) known here l h = volatile_meets s m class now l known h
  volatile_arrived s m now None known here l h = subst (λ t. Stays (meets (placed s t m) m REACHED_QUEUE now)) (sym (here refl).1)
      (volatile_meets (put_at s (place.Queue (here refl).0) m) m REACHED_QUEUE now l refl (volatile_put s (place.Queue (here refl).0) m l h))

-- Marks.

marked_volatile : (number : ℕ) (items : List Outgoing) → unmarked (marked_next number items) ≡ unmarked items
marked_volatile number [] = refl
marked_volatile number (o ∷ items) = by (marked_volatile number items) (is_none o.mark)
  where
    by : unmarked (marked_next number items) ≡ unmarked items → (b : Bool) → unmarked (cond b (record o { mark = Some number } ∷ items) (o ∷ marked_next number items)) ≡ unmarked (o ∷ items)
    by more true = refl
    by more false = ap (λ os. unsent o.message ∷ os) more

pub noted_volatile : (peer : ℕ) (head : SessionHead) (s : State) (from : Origin) → durable (noted_as peer head s from) ≡ durable s
noted_volatile peer head s (beside.Owed row) = refl
noted_volatile peer head s beside.OfRecoverable = plain_volatile s peer (with_marked lane.Durable head.recoverable)
    (λ p. ap (λ os. recoverable_alone os) (marked_volatile head.recoverable p.recoverable))
  where
    recoverable_alone : List Outgoing → PlainLists
    recoverable_alone os = record { recoverable = os; express = [] }
noted_volatile peer head s beside.OfExpress = plain_volatile s peer (with_marked lane.Express head.user) (λ p. refl)
noted_volatile peer head s (beside.OfRow row number) = refl
