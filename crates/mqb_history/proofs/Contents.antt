-- Where something holds of all messages that a manager has, it holds of them behind each put, take, purge, tick and notice. It may speak of the number that the manager gives next.
use Rattle.std.proofs.Common.{ap, arith, refl, subst, sym}
use Rattle.std.specs.List.{AllByRecursion}
use Rattle.std.specs.Option.{option_map_or}
use Rattle.std.specs.Prelude.{[], ◌&&◌, ◌+◌, ◌==◌, ◌∷◌, ◌≡◌, ◌≤◌, Bool, IfSome, List, None, Option, Some, cond, false, length, nat_le, not, option_and_then, option_map, slice_get, suc, true, zero, ℕ}
use Rattle.mqb_base.specs.Bits.{keeps_copy, keeps_dead}
use Rattle.mqb_base.specs.Lanes.{lane_of}
use Rattle.mqb_base.specs.declared.class.Class.{Class}
use Rattle.mqb_base.specs.declared.class.TheConstants.Class.{NORMAL, QUEUE_PURGED, REACHED_QUEUE, REACH_TIMEOUT, RECEIVED, RECEIVE_TIMEOUT}
use Rattle.mqb_base.specs.Same.{same_guid}
use Rattle.mqb_base.specs.declared.ids.Guid.{Guid}
use Rattle.mqb_base.specs.declared.ids.Identity.{Identity}
use Rattle.mqb_base.specs.declared.ids.MessageId.{MessageId}
use Rattle.mqb_base.specs.declared.message.Delivery.{Delivery}
use Rattle.mqb_base.specs.declared.message.Delivery.TheVariants as delivery
use Rattle.mqb_base.specs.declared.message.Lane.{Lane}
use Rattle.mqb_base.specs.declared.message.Lane.TheVariants as lane
use Rattle.mqb_base.specs.declared.message.Message.{Message}
use Rattle.mqb_base.specs.declared.queue_names.QueueName.{QueueName}
use Rattle.mqb_base.specs.declared.queues.EntryPlace.{EntryPlace}
use Rattle.mqb_base.specs.declared.queues.EntryPlace.TheVariants as place
use Rattle.mqb_fate.specs.Asking.{asks_for, final_is_due, is_ordinary, is_transactional}
use Rattle.mqb_fate.specs.Notices.{admin_delivery, notice_about}
use Rattle.mqb_fate.specs.Orders.{order_layer}
use Rattle.mqb_model.specs.Loops.{for_each_below, repeated}
use Rattle.mqb_model.specs.declared.limits.TheConstants.{MAX_NUMBER}
use Rattle.mqb_model.specs.declared.target.Target.{Target}
use Rattle.mqb_model.specs.declared.target.Target.TheVariants.{AtPeer, Here, Nowhere}
use Rattle.mqb_model.specs.rules.Effects.{Effect, joined}
use Rattle.mqb_model.specs.rules.Notices.{admin_about, admin_told, arrived, dead_place, final_about, final_told, final_told_at, may_go, meets, told}
use Rattle.mqb_model.specs.rules.Numbers.{number_left, number_taken, own_id}
use Rattle.mqb_model.specs.rules.Purges.{after_purge, count_at, message_purged, oldest_purged, purged}
use Rattle.mqb_model.specs.rules.Sends.{delivered, journalled}
use Rattle.mqb_model.specs.rules.Takes.{after_take, copied, message_at, message_taken, taken, taken_at}
use Rattle.mqb_model.specs.rules.Timeouts.{lane_ticked, lapsing, lapsing_in, message_lapsed, message_swept, next_lapsed, next_swept, peer_lapsed, queue_swept, sweeping, sweeping_in}
use Rattle.mqb_model.specs.state.Places.{is_express, placed, put_at, with_plain, without_at}
use Rattle.mqb_model.specs.state.Resolving.{peer_known, resolved}
use Rattle.mqb_model.specs.state.State.{State}
use Rattle.mqb_orders.specs.Rows.{Row}
use Rattle.mqb_orders.specs.declared.kept.Kept.{Kept}
use Rattle.mqb_plain.specs.Lists.{unsent}
use Rattle.mqb_plain.specs.Plain.{PlainLists, outgoing_in, pushed, without}
use Rattle.mqb_plain.specs.declared.outgoing.Outgoing.{Outgoing}
use Rattle.mqb_queue.specs.First.{index_named, is_queue}
use Rattle.mqb_queue.specs.Lists.{Lists, messages_in, put}
use Rattle.mqb_queue.specs.Lists as held
use Rattle.mqb_queue.specs.Places.{Queue, lists_at, numbered}
use Rattle.mqb_history.proofs.Having.{PlacesHave, QueueHas, changed_have, get_holds, lists_have, weaker_have}
use Rattle.mqb_history.proofs.Lists.{all_append, all_weaker, split_and}
use Rattle.mqb_history.proofs.Staying.{IsSameManager}
use Rattle.mqb_history.proofs.Unreleased.{changed_all, removed_all}

-- a class is that of a notice
abbrev pub IsOfNotices : Class → Type 0
IsOfNotices class = (class.0 == NORMAL.0) ≡ false

-- the identifier that a manager gives next to a message that is not express
abbrev pub next_id : State → MessageId
next_id s = own_id s s.next_number

-- so many numbers later
abbrev pub id_after : MessageId → ℕ → MessageId
id_after next n = record { qm = next.qm; number = next.number + n }

-- It is said of messages, as long as a manager gives this identifier next or a later one. Where it is said of an ordinary message, it is said of the notices about that: of an
-- express one under whatever identifier, and of another one, about a message that is not express, under the next one.
pub record IsCarried (P : MessageId → Message → Type 0) : Type 0 where
  pub later : (next : MessageId) (n : ℕ) (m : Message) → next.number ≤ n → P next m → P (record { qm = next.qm; number = n }) m
  pub express : (next : MessageId) (m : Message) (class : Class) (to : QueueName) (id : MessageId) (now : ℕ) → is_ordinary m ≡ true → IsOfNotices class → P next m
      → P next (notice_about m class delivery.Express to id now)
  pub durable : (next : MessageId) (m : Message) (class : Class) (to : QueueName) (now : ℕ) → is_ordinary m ≡ true → is_express m.delivery ≡ false → IsOfNotices class → P next m
      → P (id_after next 1) (notice_about m class delivery.Recoverable to next now)

-- what speaks of no identifier
pub always_carried : (P : Message → Type 0)
    → ((m : Message) (class : Class) (d : Delivery) (to : QueueName) (id : MessageId) (now : ℕ) → is_ordinary m ≡ true → IsOfNotices class → P m → P (notice_about m class d to id now))
    → IsCarried (λ next. P)
always_carried P notice = record {
  later = λ next n m le g. g;
  express = λ next m class to id now o e g. notice m class delivery.Express to id now o e g;
  durable = λ next m class to now o d e g. notice m class delivery.Recoverable to next now o e g;
}

-- it is an ordinary and transactional message of which a final acknowledgement is due
due_transactional : (m : Message) (class : Class) (own : Guid) → final_is_due m class own ≡ true → (is_ordinary m ≡ true) × (is_transactional m.delivery ≡ true)
due_transactional m class own due = split_and (is_ordinary m) (is_transactional m.delivery) (split_and (is_ordinary m && is_transactional m.delivery) (not (same_guid m.id.qm own))
    (split_and ((is_ordinary m && is_transactional m.delivery) && not (same_guid m.id.qm own)) (keeps_dead m)
    (split_and (((is_ordinary m && is_transactional m.delivery) && not (same_guid m.id.qm own)) && keeps_dead m) (not (class.0 == REACHED_QUEUE.0)) due).0).0).0

not_express : (d : Delivery) → is_transactional d ≡ true → is_express d ≡ false
not_express delivery.Express e = sym e
not_express delivery.Recoverable e = refl
not_express delivery.Transactional e = refl

module _ (P : Message → Type 0) where
  -- of a message that stands in the lane of its delivery
  abbrev pub InLane : Lane → Message → Type 0
  InLane kind m = P m × (lane_of m.delivery ≡ kind)

  abbrev pub ListsHold : Lists → Type 0
  ListsHold l = AllByRecursion (InLane lane.Durable) l.durable × AllByRecursion (InLane lane.Express) l.express

  abbrev pub Waits : Outgoing → Type 0
  Waits o = P o.message

  abbrev pub PlainHolds : PlainLists → Type 0
  PlainHolds p = AllByRecursion Waits p.recoverable × AllByRecursion Waits p.express

  abbrev pub RowHolds : Row → Type 0
  RowHolds row = AllByRecursion (λ (k : Kept). P k.message) row.kept

  pub record Holds (s : State) : Type 0 where
    pub places : PlacesHave ListsHold s.places
    pub plain : AllByRecursion PlainHolds s.plain
    pub outs : AllByRecursion RowHolds s.outs

in_lane_weaker : (P Q : Message → Type 0) → ((m : Message) → P m → Q m) → (kind : Lane) (ms : List Message) → AllByRecursion (InLane P kind) ms → AllByRecursion (InLane Q kind) ms
in_lane_weaker P Q f kind ms h = all_weaker (InLane P kind) (InLane Q kind) (λ m g. (f m g.0, g.1)) ms h

-- less is said
pub holds_weaker : (P Q : Message → Type 0) → ((m : Message) → P m → Q m) → (s : State) → Holds P s → Holds Q s
holds_weaker P Q f s h = record {
  places = weaker_have (ListsHold P) (ListsHold Q) (λ l g. (in_lane_weaker P Q f lane.Durable l.durable g.0, in_lane_weaker P Q f lane.Express l.express g.1)) s.places h.places;
  plain = all_weaker (PlainHolds P) (PlainHolds Q) (λ p g. (all_weaker (Waits P) (Waits Q) (λ o. f o.message) p.recoverable g.0, all_weaker (Waits P) (Waits Q) (λ o. f o.message) p.express g.1)) s.plain h.plain;
  outs = all_weaker (RowHolds P) (RowHolds Q) (λ row g. all_weaker (λ k. P k.message) (λ k. Q k.message) (λ k. f k.message) row.kept g) s.outs h.outs;
}

module _ (P : Message → Type 0) where
  -- Puts.

  put_list : (kind : Lane) (m : Message) (l : Lists) → InLane P kind m → ListsHold P l → ListsHold P (put kind m l)
  put_list lane.Durable m l g h = (all_append (InLane P lane.Durable) l.durable (m ∷ []) h.0 (g, tt), h.1)
  put_list lane.Express m l g h = (h.0, all_append (InLane P lane.Express) l.express (m ∷ []) h.1 (g, tt))

  pub put_holds : (s : State) (at : EntryPlace) (m : Message) → P m → Holds P s → Holds P (put_at s at m)
  put_holds s at m g h = record {
    places = changed_have (ListsHold P) s.places at (put (lane_of m.delivery) m) (λ l k. put_list (lane_of m.delivery) m l (g, refl) k) h.places;
    plain = h.plain;
    outs = h.outs;
  }

  without_list : (kind : Lane) (k : ℕ) (l : Lists) → ListsHold P l → ListsHold P (held.without kind k l)
  without_list lane.Durable k l h = (removed_all (InLane P lane.Durable) l.durable k h.0, h.1)
  without_list lane.Express k l h = (h.0, removed_all (InLane P lane.Express) l.express k h.1)

  pub without_holds : (kind : Lane) (s : State) (at : EntryPlace) (k : ℕ) → Holds P s → Holds P (without_at kind s at k)
  without_holds kind s at k h = record {
    places = changed_have (ListsHold P) s.places at (held.without kind k) (without_list kind k) h.places;
    plain = h.plain;
    outs = h.outs;
  }

  pub plain_holds : (change : PlainLists → PlainLists) (s : State) (k : ℕ) → ((p : PlainLists) → PlainHolds P p → PlainHolds P (change p)) → Holds P s → Holds P (with_plain change s k)
  plain_holds change s k keeps h = record { places = h.places; plain = changed_all (PlainHolds P) change s.plain k keeps h.plain; outs = h.outs }

  pushed_list : (kind : Lane) (m : Message) (p : PlainLists) → P m → PlainHolds P p → PlainHolds P (pushed kind m p)
  pushed_list lane.Durable m p g h = (all_append (Waits P) p.recoverable (unsent m ∷ []) h.0 (g, tt), h.1)
  pushed_list lane.Express m p g h = (h.0, all_append (Waits P) p.express (unsent m ∷ []) h.1 (g, tt))

  dropped_list : (kind : Lane) (n : ℕ) (p : PlainLists) → PlainHolds P p → PlainHolds P (without kind n p)
  dropped_list lane.Durable n p h = (removed_all (Waits P) p.recoverable n h.0, h.1)
  dropped_list lane.Express n p h = (h.0, removed_all (Waits P) p.express n h.1)

  waits_holds : (s : State) (k : ℕ) (m : Message) → P m → Holds P s → Holds P (placed s (AtPeer k) m)
  waits_holds s k m g h = plain_holds (pushed (lane_of m.delivery) m) s k (λ p. pushed_list (lane_of m.delivery) m p g) h

  -- What stands in a place.

  in_lane : (kind : Lane) (l : Lists) → ListsHold P l → AllByRecursion (InLane P kind) (messages_in kind l)
  in_lane lane.Durable l h = h.0
  in_lane lane.Express l h = h.1

  only : (kind : Lane) (o : Option Message) → IfSome o (InLane P kind) → IfSome o P
  only kind None g = tt
  only kind (Some m) g = g.0

  pub lane_holds : (kind : Lane) (s : State) (at : EntryPlace) (k : ℕ) → Holds P s → IfSome (message_at kind s at k) (InLane P kind)
  lane_holds kind s at k h = by (lists_at s.places at) (lists_have (ListsHold P) s.places at h.places)
    where
      by : (o : Option Lists) → IfSome o (ListsHold P) → IfSome (option_and_then (λ l. slice_get (messages_in kind l) k) o) (InLane P kind)
      by None g = tt
      by (Some l) g = get_holds (InLane P kind) (messages_in kind l) k (in_lane kind l g)

  pub message_holds : (kind : Lane) (s : State) (at : EntryPlace) (k : ℕ) → Holds P s → IfSome (message_at kind s at k) P
  message_holds kind s at k h = only kind (message_at kind s at k) (lane_holds kind s at k h)

  queue_holds : (kind : Lane) (l : Lists) (k : ℕ) → ListsHold P l → IfSome (slice_get (messages_in kind l) k) P
  queue_holds kind l k h = only kind (slice_get (messages_in kind l) k) (get_holds (InLane P kind) (messages_in kind l) k (in_lane kind l h))

  outgoing_holds : (kind : Lane) (p : PlainLists) → PlainHolds P p → AllByRecursion (Waits P) (outgoing_in kind p)
  outgoing_holds lane.Durable p h = h.0
  outgoing_holds lane.Express p h = h.1

module _ (P : MessageId → Message → Type 0) (c : IsCarried P) where
  -- it holds of all messages now
  abbrev pub Now : State → Type 0
  Now s = Holds (P (next_id s)) s

  -- and of this one
  abbrev NowOf : State → Message → Type 0
  NowOf s m = Now s × P (next_id s) m

  pub now_or : {X : Type 0} (s : State) (f : X → State) (o : Option X) → Now s → ((y : X) → Now (f y)) → Now (option_map_or f o s)
  now_or s f None h some = h
  now_or s f (Some y) h some = some y

  -- it stays said as numbers are given
  pub still : (s t : State) → IsSameManager s t → s.next_number ≤ t.next_number → (m : Message) → P (next_id s) m → P (next_id t) m
  still s t same le m g = subst (λ (own : Guid). P (record { qm = own; number = t.next_number }) m) (sym (ap (λ (i : Identity). i.guid) same.identity)) (c.later (next_id s) t.next_number m le g)

  pub all_still : (s t : State) → IsSameManager s t → s.next_number ≤ t.next_number → (ms : List Message) → AllByRecursion (P (next_id s)) ms → AllByRecursion (P (next_id t)) ms
  all_still s t same le ms g = all_weaker (P (next_id s)) (P (next_id t)) (still s t same le) ms g

  taken_number : (s : State) (m : Message) → NowOf s m → NowOf (record s { next_number = s.next_number + 1 }) m
  taken_number s m h = let up : (x : Message) → P (next_id s) x → P (id_after (next_id s) 1) x = λ x. c.later (next_id s) (s.next_number + 1) x (omega arith) in
      let g = holds_weaker (P (next_id s)) (P (id_after (next_id s) 1)) up s h.0 in (record { places = g.places; plain = g.plain; outs = g.outs }, up m h.1)

  number_now : (s : State) (d : Delivery) (m : Message) → NowOf s m → NowOf (number_taken s d) m
  number_now s delivery.Express m h = (record { places = h.0.places; plain = h.0.plain; outs = h.0.outs }, h.1)
  number_now s delivery.Recoverable m h = taken_number s m h
  number_now s delivery.Transactional m h = taken_number s m h

  pub express_now : (s : State) → Now s → Now (number_taken s delivery.Express)
  express_now s h = record { places = h.places; plain = h.plain; outs = h.outs }

  -- a message is placed, and another one goes along
  placed_now : (s : State) (t : Target) (n m : Message) → P (next_id s) n → NowOf s m → NowOf (placed s t n) m
  placed_now s (Here None) n m g h = h
  placed_now s (Here (Some k)) n m g h = (put_holds (P (next_id s)) s (place.Queue k) n g h.0, h.1)
  placed_now s (AtPeer k) n m g h = (waits_holds (P (next_id s)) s k n g h.0, h.1)
  placed_now s Nowhere n m g h = h

  -- Notices.

  -- a notice may be sent
  abbrev MayTell : State → Message → Type 0
  MayTell s n = P (next_id (number_taken s n.delivery)) n

  told_now : (s : State) (t : Target) (n m : Message) → MayTell s n → NowOf s m → NowOf (told s t n) m
  told_now s t n m g h = at (may_go s t n.delivery)
    where
      at : (b : Bool) → NowOf (cond b (placed (number_taken s n.delivery) t n) s) m
      at true = placed_now (number_taken s n.delivery) t n m g (number_now s n.delivery m h)
      at false = h

  -- the number that is left is the next one
  left_number : (s : State) → IfSome (number_left s delivery.Recoverable) (λ n. n ≡ s.next_number)
  left_number s = at (nat_le s.next_number MAX_NUMBER)
    where
      at : (b : Bool) → IfSome (cond b (Some s.next_number) None) (λ n. n ≡ s.next_number)
      at true = refl
      at false = tt

  durable_tells : (s : State) (m : Message) (class : Class) (to : QueueName) (now number : ℕ) → is_ordinary m ≡ true → is_express m.delivery ≡ false → IsOfNotices class → P (next_id s) m
      → number ≡ s.next_number → MayTell s (notice_about m class delivery.Recoverable to (own_id s number) now)
  durable_tells s m class to now number o d other g e = subst (λ n. P (id_after (next_id s) 1) (notice_about m class delivery.Recoverable to (own_id s n) now)) (sym e)
      (c.durable (next_id s) m class to now o d other g)

  admin_fine : (s : State) (m : Message) (class : Class) (now : ℕ) → IsOfNotices class → P (next_id s) m → IfSome (admin_about s m class now) (MayTell s)
  admin_fine s m class now other g = at m.delivery refl
    where
      asks : Bool
      asks = is_ordinary m && asks_for m class

      notice : Delivery → QueueName → ℕ → Message
      notice x a number = notice_about m class x a (own_id s number) now

      express : (b : Bool) → asks ≡ b → (admin : Option QueueName) → IfSome (cond b (option_map (λ a. notice delivery.Express a s.next_express) admin) None) (MayTell s)
      express true e None = tt
      express true e (Some a) = c.express (next_id s) m class a (own_id s s.next_express) now (split_and (is_ordinary m) (asks_for m class) e).0 other g
      express false e admin = tt

      durable : (number : ℕ) → number ≡ s.next_number → is_express m.delivery ≡ false → (b : Bool) → asks ≡ b → (admin : Option QueueName)
          → IfSome (cond b (option_map (λ a. notice delivery.Recoverable a number) admin) None) (MayTell s)
      durable number same d true e None = tt
      durable number same d true e (Some a) = durable_tells s m class a now number (split_and (is_ordinary m) (asks_for m class) e).0 d other g same
      durable number same d false e admin = tt

      numbered_so : is_express m.delivery ≡ false → (o : Option ℕ) → IfSome o (λ n. n ≡ s.next_number)
          → IfSome (option_and_then (λ number. cond asks (option_map (λ a. notice delivery.Recoverable a number) m.admin) None) o) (MayTell s)
      numbered_so d None same = tt
      numbered_so d (Some number) same = durable number same d asks refl m.admin

      at : (x : Delivery) → m.delivery ≡ x
          → IfSome (option_and_then (λ number. cond asks (option_map (λ a. notice (admin_delivery x) a number) m.admin) None) (number_left s (admin_delivery x))) (MayTell s)
      at delivery.Express e = express asks refl m.admin
      at delivery.Recoverable e = numbered_so (ap is_express e) (number_left s delivery.Recoverable) (left_number s)
      at delivery.Transactional e = numbered_so (ap is_express e) (number_left s delivery.Recoverable) (left_number s)

  final_fine : (s : State) (peer : Identity) (m : Message) (class : Class) (now : ℕ) → IsOfNotices class → P (next_id s) m → IfSome (final_about s peer m class now) (MayTell s)
  final_fine s peer m class now other g = at (number_left s delivery.Recoverable) (left_number s)
    where
      made : (number : ℕ) → number ≡ s.next_number → (b : Bool) → final_is_due m class s.identity.guid ≡ b
          → IfSome (cond b (Some (notice_about m class delivery.Recoverable (order_layer peer.host) (own_id s number) now)) None) (MayTell s)
      made number same true due = let is = due_transactional m class s.identity.guid due in durable_tells s m class (order_layer peer.host) now number is.0 (not_express m.delivery is.1) other g same
      made number same false due = tt

      at : (o : Option ℕ) → IfSome o (λ n. n ≡ s.next_number) → IfSome (option_and_then (λ number. cond (final_is_due m class s.identity.guid)
          (Some (notice_about m class delivery.Recoverable (order_layer peer.host) (own_id s number) now)) None) o) (MayTell s)
      at None same = tt
      at (Some number) same = made number same (final_is_due m class s.identity.guid) refl

  admin_now : (s : State) (m : Message) (class : Class) (now : ℕ) → IsOfNotices class → NowOf s m → NowOf (admin_told s m class now) m
  admin_now s m class now other h = at (admin_about s m class now) (admin_fine s m class now other h.1)
    where
      at : (o : Option Message) → IfSome o (MayTell s) → NowOf (option_map_or (λ n. told s (resolved s n.destination) n) o s) m
      at None g = h
      at (Some n) g = told_now s (resolved s n.destination) n m g h

  final_now : (s : State) (m : Message) (class : Class) (now : ℕ) → IsOfNotices class → NowOf s m → NowOf (final_told s m class now) m
  final_now s m class now other h = by (peer_known s m.id.qm)
    where
      made : (k : ℕ) (o : Option Message) → IfSome o (MayTell s) → NowOf (option_map_or (told s (AtPeer k)) o s) m
      made k None g = h
      made k (Some n) g = told_now s (AtPeer k) n m g h

      to : (k : ℕ) (o : Option Identity) → NowOf (option_map_or (λ peer. final_told_at s k peer m class now) o s) m
      to k None = h
      to k (Some peer) = made k (final_about s peer m class now) (final_fine s peer m class now other h.1)

      by : (o : Option ℕ) → NowOf (option_map_or (λ k. option_map_or (λ peer. final_told_at s k peer m class now) (slice_get s.peers k) s) o s) m
      by None = h
      by (Some k) = to k (slice_get s.peers k)

  pub meets_now : (s : State) (m : Message) (class : Class) (now : ℕ) → IsOfNotices class → NowOf s m → Now (meets s m class now)
  meets_now s m class now other h = let one = admin_told s m class now in let two = final_told one m class now in let then = final_now one m class now other (admin_now s m class now other h) in
      now_or two (λ at. put_at two at m) (dead_place two m class) then.0 (λ at. put_holds (P (next_id two)) two at m then.1 then.0)

  pub arrived_now : (s : State) (m : Message) (now : ℕ) (refusal : Option Class) → IfSome refusal IsOfNotices → P (next_id s) m → Now s → Now (arrived s m now refusal)
  arrived_now s m now None other g h = meets_now (placed s (resolved s m.destination) m) m REACHED_QUEUE now refl (placed_now s (resolved s m.destination) m m g (h, g))
  arrived_now s m now (Some class) other g h = meets_now s m class now other (h, g)

  pub journalled_now : (s : State) (m : Message) → P (next_id s) m → Now s → NowOf (journalled s m) m
  journalled_now s m g h = at (keeps_copy m)
    where
      at : (b : Bool) → NowOf (cond b (put_at s place.Journal m) s) m
      at true = (put_holds (P (next_id s)) s place.Journal m g h, g)
      at false = (h, g)

  pub delivered_now : (s : State) (t : Target) (m : Message) (now : ℕ) → NowOf s m → Now (delivered s t m now)
  delivered_now s (AtPeer k) m now h = (placed_now s (AtPeer k) m m h.1 h).0
  delivered_now s (Here queue) m now h = meets_now (placed s (Here queue) m) m REACHED_QUEUE now refl (placed_now s (Here queue) m m h.1 h)
  delivered_now s Nowhere m now h = meets_now s m REACHED_QUEUE now refl h

  -- What leaves.

  copied_now : (s : State) (n : ℕ) (m : Message) → NowOf s m → NowOf (copied s n m) m
  copied_now s n m h = by (numbered s.places.queues n)
    where
      at : (b : Bool) → NowOf (cond b (put_at s (place.JournalOf n) m) s) m
      at true = (put_holds (P (next_id s)) s (place.JournalOf n) m h.1 h.0, h.1)
      at false = h

      by : (o : Option Queue) → NowOf (option_map_or (λ (q : Queue). cond q.plan.journal (put_at s (place.JournalOf n) m) s) o s) m
      by None = h
      by (Some q) = at q.plan.journal

  after_take_now : (s : State) (at : EntryPlace) (m : Message) (now : ℕ) → NowOf s m → Now (after_take s at m now)
  after_take_now s (place.Queue n) m now h = meets_now (copied s n m) m RECEIVED now refl (copied_now s n m h)
  after_take_now s at m now h = h.0

  pub taken_at_now : (kind : Lane) (at : EntryPlace) (k now : ℕ) (e : Effect) → Now e.state → Now (taken_at kind at k now e).state
  taken_at_now kind at k now e h = by (message_at kind e.state at k) (message_holds (P (next_id e.state)) kind e.state at k h)
    where
      by : (o : Option Message) → IfSome o (P (next_id e.state)) → Now (option_map_or (λ m. joined e (message_taken kind at k now e.state m)) o e).state
      by None g = h
      by (Some m) g = after_take_now (without_at kind e.state at k) at m now (without_holds (P (next_id e.state)) kind e.state at k h, g)

  pub taken_now : (at : EntryPlace) (id : MessageId) (now : ℕ) (e : Effect) → Now e.state → Now (taken at id now e).state
  taken_now at id now e h = by (index_named e.state.places at id now)
    where
      by : (o : Option ℕ) → Now (option_map_or (λ k. taken_at lane.Durable at k now e) o e).state
      by None = h
      by (Some k) = taken_at_now lane.Durable at k now e h

  pub repeated_now : (step : Effect → Effect) → ((e : Effect) → Now e.state → Now (step e).state) → (n : ℕ) (e : Effect) → Now e.state → Now (repeated n step e).state
  repeated_now step keeps zero e h = h
  repeated_now step keeps (suc n) e h = keeps (repeated n step e) (repeated_now step keeps n e h)

  pub each_now : (step : ℕ → Effect → Effect) → ((k : ℕ) (e : Effect) → Now e.state → Now (step k e).state) → (n : ℕ) (e : Effect) → Now e.state → Now (for_each_below n step e).state
  each_now step keeps zero e h = h
  each_now step keeps (suc n) e h = keeps n (for_each_below n step e) (each_now step keeps n e h)

  after_purge_now : (s : State) (at : EntryPlace) (m : Message) (now : ℕ) → NowOf s m → Now (after_purge s at m now)
  after_purge_now s at m now h = by (is_queue at)
    where
      by : (b : Bool) → Now (cond b (meets s m QUEUE_PURGED now) s)
      by true = meets_now s m QUEUE_PURGED now refl h
      by false = h.0

  oldest_now : (kind : Lane) (at : EntryPlace) (now : ℕ) (e : Effect) → Now e.state → Now (oldest_purged kind at now e).state
  oldest_now kind at now e h = by (message_at kind e.state at 0) (message_holds (P (next_id e.state)) kind e.state at 0 h)
    where
      by : (o : Option Message) → IfSome o (P (next_id e.state)) → Now (option_map_or (λ m. joined e (message_purged kind at now e.state m)) o e).state
      by None g = h
      by (Some m) g = after_purge_now (without_at kind e.state at 0) at m now (without_holds (P (next_id e.state)) kind e.state at 0 h, g)

  pub purged_now : (kind : Lane) (at : EntryPlace) (now : ℕ) (e : Effect) → Now e.state → Now (purged kind at now e).state
  purged_now kind at now e h = repeated_now (oldest_purged kind at now) (oldest_now kind at now) (count_at kind e.state at) e h

  lapsed_now : (kind : Lane) (now k : ℕ) (e : Effect) → Now e.state → Now (next_lapsed kind now k e).state
  lapsed_now kind now k e h = by (slice_get e.state.plain k) (get_holds (PlainHolds (P (next_id e.state))) e.state.plain k h.plain)
    where
      one : (p : PlainLists) (index : ℕ) (o : Option Outgoing) → IfSome o (Waits (P (next_id e.state))) → Now (option_map_or (λ (o : Outgoing). joined e (message_lapsed kind now k index e.state o.message)) o e).state
      one p index None g = h
      one p index (Some o) g = meets_now (with_plain (without kind index) e.state k) o.message REACH_TIMEOUT now refl
          (plain_holds (P (next_id e.state)) (without kind index) e.state k (dropped_list (P (next_id e.state)) kind index) h, g)

      at : (p : PlainLists) → PlainHolds (P (next_id e.state)) p → (i : Option ℕ)
          → Now (option_map_or (λ index. option_map_or (λ (o : Outgoing). joined e (message_lapsed kind now k index e.state o.message)) (slice_get (outgoing_in kind p) index) e) i e).state
      at p g None = h
      at p g (Some index) = one p index (slice_get (outgoing_in kind p) index) (get_holds (Waits (P (next_id e.state))) (outgoing_in kind p) index (outgoing_holds (P (next_id e.state)) kind p g))

      by : (o : Option PlainLists) → IfSome o (PlainHolds (P (next_id e.state))) → Now (option_map_or (λ (p : PlainLists). option_map_or (λ index.
          option_map_or (λ (o : Outgoing). joined e (message_lapsed kind now k index e.state o.message)) (slice_get (outgoing_in kind p) index) e) (lapsing kind now p) e) o e).state
      by None g = h
      by (Some p) g = at p g (lapsing kind now p)

  swept_now : (kind : Lane) (now k : ℕ) (e : Effect) → Now e.state → Now (next_swept kind now k e).state
  swept_now kind now k e h = by (slice_get e.state.places.queues k) (get_holds (QueueHas (ListsHold (P (next_id e.state)))) e.state.places.queues k h.places.queues)
    where
      one : (index : ℕ) (o : Option Message) → IfSome o (P (next_id e.state)) → Now (option_map_or (λ m. joined e (message_swept kind now (k + 1) index e.state m)) o e).state
      one index None g = h
      one index (Some m) g = meets_now (without_at kind e.state (place.Queue (k + 1)) index) m RECEIVE_TIMEOUT now refl
          (without_holds (P (next_id e.state)) kind e.state (place.Queue (k + 1)) index h, g)

      at : (q : Queue) → QueueHas (ListsHold (P (next_id e.state))) q → (i : Option ℕ)
          → Now (option_map_or (λ index. option_map_or (λ m. joined e (message_swept kind now (k + 1) index e.state m)) (slice_get (messages_in kind q.lists) index) e) i e).state
      at q g None = h
      at q g (Some index) = one index (slice_get (messages_in kind q.lists) index) (queue_holds (P (next_id e.state)) kind q.lists index g.0)

      by : (o : Option Queue) → IfSome o (QueueHas (ListsHold (P (next_id e.state)))) → Now (option_map_or (λ (q : Queue). option_map_or (λ index.
          option_map_or (λ m. joined e (message_swept kind now (k + 1) index e.state m)) (slice_get (messages_in kind q.lists) index) e) (sweeping kind now q) e) o e).state
      by None g = h
      by (Some q) g = at q g (sweeping kind now q)

  pub ticked_now : (kind : Lane) (now : ℕ) (e : Effect) → Now e.state → Now (lane_ticked kind now e).state
  ticked_now kind now e h = each_now (queue_swept kind now)
      (λ k d. repeated_now (next_swept kind now k) (swept_now kind now k) (option_map_or (sweeping_in kind now) (slice_get d.state.places.queues k) 0) d)
      (length e.state.places.queues) (for_each_below (length e.state.plain) (peer_lapsed kind now) e)
      (each_now (peer_lapsed kind now) (λ k d. repeated_now (next_lapsed kind now k) (lapsed_now kind now k) (option_map_or (lapsing_in kind now) (slice_get d.state.plain k) 0) d) (length e.state.plain) e h)
