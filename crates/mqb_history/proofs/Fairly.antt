-- What is put, taken and noted keeps fair what a manager keeps.
use Rattle.std.proofs.Common.{refl, ap, sym, subst, ◌∙◌, arith, inr}
use Rattle.std.proofs.lemmas.Bool.Decides.{nat_tests}
use Rattle.std.specs.Option.{option_map_or}
use Rattle.std.specs.Prelude.{[], ◌&&◌, ◌+◌, ◌<◌, ◌∷◌, ◌≡◌, ◌≤◌, Bool, IfSome, None, Option, Some, cond, false, nat_le, option_and_then, option_map, slice_get, true, ℕ}
use Rattle.mqb_base.specs.Bits.{keeps_copy}
use Rattle.mqb_base.specs.Lanes.{lane_of}
use Rattle.mqb_base.specs.declared.class.Class.{Class}
use Rattle.mqb_base.specs.declared.class.TheConstants.Class.{REACHED_QUEUE}
use Rattle.mqb_base.specs.declared.ids.Identity.{Identity}
use Rattle.mqb_base.specs.declared.ids.MessageId.{MessageId}
use Rattle.mqb_base.specs.declared.ledger.Line.{Line}
use Rattle.mqb_base.specs.declared.message.Delivery.{Delivery}
use Rattle.mqb_base.specs.declared.message.Delivery.TheVariants as delivery
use Rattle.mqb_base.specs.declared.message.Lane.{Lane}
use Rattle.mqb_base.specs.declared.message.Lane.TheVariants as lane
use Rattle.mqb_base.specs.declared.message.Message.{Message}
use Rattle.mqb_base.specs.declared.queue_names.QueueName.{QueueName}
use Rattle.mqb_base.specs.declared.queues.EntryPlace.{EntryPlace}
use Rattle.mqb_base.specs.declared.queues.EntryPlace.TheVariants as place
use Rattle.mqb_fate.specs.Asking.{asks_for, final_is_due, is_ordinary}
use Rattle.mqb_fate.specs.Notices.{admin_delivery, notice_about}
use Rattle.mqb_fate.specs.Orders.{order_layer}
use Rattle.mqb_history.proofs.Having.{changed_have}
use Rattle.mqb_model.specs.declared.limits.TheConstants.{FIRST_EXPRESS, MAX_NUMBER}
use Rattle.mqb_model.specs.declared.target.Target.{Target}
use Rattle.mqb_model.specs.declared.target.Target.TheVariants.{AtPeer, Here, Nowhere}
use Rattle.mqb_model.specs.rules.Notices.{admin_about, admin_told, buried, dead_place, final_about, final_told, final_told_at, may_go, meets, told}
use Rattle.mqb_model.specs.rules.Numbers.{number_left, number_taken}
use Rattle.mqb_model.specs.rules.Sends.{delivered, journalled}
use Rattle.mqb_model.specs.state.Places.{is_express, placed, put_at, with_plain, without_at}
use Rattle.mqb_model.specs.state.Resolving.{peer_known, resolved}
use Rattle.mqb_model.specs.state.State.{State}
use Rattle.mqb_plain.specs.Lists.{unsent}
use Rattle.mqb_plain.specs.Plain.{PlainLists, pushed, without}
use Rattle.mqb_plain.specs.declared.outgoing.Outgoing.{Outgoing}
use Rattle.mqb_queue.specs.Lists.{Lists, put}
use Rattle.mqb_queue.specs.Lists as held
use Rattle.mqb_history.proofs.Lists.{all_append, clash}
use Rattle.mqb_history.proofs.Fates.{Frame, HasFate, IsFair, IsFairExpress, IsWaiting, Keeps, ListsFair, PlainFair, WaitsFairly, above_first, from_changed, from_weaker, going, going_before, going_there, plain_more, reached_fate, removed_all}

-- One list, and one place.

module _ (f : Frame) (T : Line → Type 0) where
  put_fair : (m : Message) (l : Lists) → IsFair T m → ListsFair T l → ListsFair T (put (lane_of m.delivery) m l)
  put_fair m l g h = at m.delivery refl
    where
      durable : ListsFair T (put lane.Durable m l)
      durable = record { durable = all_append (IsFair T) l.durable (m ∷ []) h.durable (g, tt); express = h.express }

      at : (x : Delivery) → m.delivery ≡ x → ListsFair T (put (lane_of x) m l)
      at delivery.Express e = record { durable = h.durable; express = all_append (IsFairExpress T) l.express (m ∷ []) h.express ((g, ap is_express e), tt) }
      at delivery.Recoverable e = durable
      at delivery.Transactional e = durable

  pub put_keeps : (s : State) (at : EntryPlace) (m : Message) → IsFair T m → Keeps f T s → Keeps f T (put_at s at m)
  put_keeps s at m g h = record {
    own = h.own;
    order = h.order;
    low = h.low;
    high = h.high;
    express = h.express;
    places = changed_have (ListsFair T) s.places at (put (lane_of m.delivery) m) (λ l k. put_fair m l g k) h.places;
    goes = h.goes;
    same = h.same;
    plain = h.plain;
    outs = h.outs;
  }

  without_fair : (kind : Lane) (k : ℕ) (l : Lists) → ListsFair T l → ListsFair T (held.without kind k l)
  without_fair lane.Durable k l h = record { durable = removed_all (IsFair T) l.durable k h.durable; express = h.express }
  without_fair lane.Express k l h = record { durable = h.durable; express = removed_all (IsFairExpress T) l.express k h.express }

  pub without_keeps : (kind : Lane) (s : State) (at : EntryPlace) (k : ℕ) → Keeps f T s → Keeps f T (without_at kind s at k)
  without_keeps kind s at k h = record {
    own = h.own;
    order = h.order;
    low = h.low;
    high = h.high;
    express = h.express;
    places = changed_have (ListsFair T) s.places at (held.without kind k) (without_fair kind k) h.places;
    goes = h.goes;
    same = h.same;
    plain = h.plain;
    outs = h.outs;
  }

  -- the plain messages for a peer
  pub plain_keeps : (s : State) (k : ℕ) (change : PlainLists → PlainLists) (h : Keeps f T s) → ((p : PlainLists) → PlainFair f T h.goes s.next_number k p → PlainFair f T h.goes s.next_number k (change p))
      → Keeps f T (with_plain change s k)
  plain_keeps s k change h keeps = record {
    own = h.own;
    order = h.order;
    low = h.low;
    high = h.high;
    express = h.express;
    places = h.places;
    goes = h.goes;
    same = h.same;
    plain = from_changed (PlainFair f T h.goes s.next_number) change s.plain k keeps h.plain;
    outs = h.outs;
  }

  pub dropped_fair : (goes : ℕ → ℕ) (next k : ℕ) (kind : Lane) (n : ℕ) (p : PlainLists) → PlainFair f T goes next k p → PlainFair f T goes next k (without kind n p)
  dropped_fair goes next k lane.Durable n p h = record { recoverable = removed_all (WaitsFairly f T goes next k) p.recoverable n h.recoverable; express = h.express }
  dropped_fair goes next k lane.Express n p h = record { recoverable = h.recoverable; express = removed_all (λ (o : Outgoing). IsFairExpress T o.message) p.express n h.express }

  -- a message may wait for a peer: a fair one that is express, or under a number that was given to no send
  abbrev pub MayWait : (ℕ → ℕ) → ℕ → ℕ → Message → Type 0
  MayWait goes next k m = IsFair T m × (is_express m.delivery ≡ false → IsWaiting f goes next k m)

  pushed_fair : (goes : ℕ → ℕ) (next k : ℕ) (m : Message) (p : PlainLists) → MayWait goes next k m → PlainFair f T goes next k p → PlainFair f T goes next k (pushed (lane_of m.delivery) m p)
  pushed_fair goes next k m p g h = at m.delivery refl
    where
      durable : is_express m.delivery ≡ false → PlainFair f T goes next k (pushed lane.Durable m p)
      durable e = record { recoverable = all_append (WaitsFairly f T goes next k) p.recoverable (unsent m ∷ []) h.recoverable ((g.0, g.1 e), tt); express = h.express }

      at : (x : Delivery) → m.delivery ≡ x → PlainFair f T goes next k (pushed (lane_of x) m p)
      at delivery.Express e = record {
        recoverable = h.recoverable;
        express = all_append (λ (o : Outgoing). IsFairExpress T o.message) p.express (unsent m ∷ []) h.express ((g.0, ap is_express e), tt);
      }
      at delivery.Recoverable e = durable (ap is_express e)
      at delivery.Transactional e = durable (ap is_express e)

  pub placed_keeps : (s : State) (t : Target) (m : Message) (h : Keeps f T s) → IsFair T m → ((k : ℕ) → t ≡ AtPeer k → MayWait h.goes s.next_number k m) → Keeps f T (placed s t m)
  placed_keeps s (Here None) m h fair may = h
  placed_keeps s (Here (Some n)) m h fair may = put_keeps s (place.Queue n) m fair h
  placed_keeps s (AtPeer k) m h fair may = plain_keeps s k (pushed (lane_of m.delivery) m) h (λ p g. pushed_fair h.goes s.next_number k m p (may k refl) g)
  placed_keeps s Nowhere m h fair may = h

  -- numbers are taken, and go anywhere
  pub durable_number : (s : State) (next : ℕ) (goes : ℕ → ℕ) (h : Keeps f T s) → ((n : ℕ) → n < s.next_number → goes n ≡ h.goes n) → s.next_number ≤ next → next ≤ FIRST_EXPRESS → Keeps f T (record s { next_number = next })
  durable_number s next goes h agree more high = record {
    own = h.own;
    order = h.order;
    low = let le = h.low in omega (arith, le, more);
    high = high;
    express = h.express;
    places = h.places;
    goes = goes;
    same = λ n lt. agree n (let a = h.order in let b = h.low in omega (arith, lt, a, b)) ∙ h.same n lt;
    plain = from_weaker (PlainFair f T h.goes s.next_number) (PlainFair f T goes next) (λ k p g. plain_more f T T h.goes goes s.next_number next k (λ l t. t) agree more p g) 0 s.plain h.plain;
    outs = h.outs;
  }

  pub express_number : (s : State) → Keeps f T s → Keeps f T (number_taken s delivery.Express)
  express_number s h = record {
    own = h.own;
    order = h.order;
    low = h.low;
    high = h.high;
    express = above_first s.next_express h.express;
    places = h.places;
    goes = h.goes;
    same = h.same;
    plain = h.plain;
    outs = h.outs;
  }

  -- Notices.

  -- a notice is fair, and a durable one bears the next number
  pub record IsNotice (s : State) (n : Message) : Type 0 where
    pub fair : IsFair T n
    pub next : is_express n.delivery ≡ false → (n.id ≡ record { qm = s.identity.guid; number = s.next_number }) × (s.next_number < FIRST_EXPRESS)

  told_keeps : (s : State) (t : Target) (n : Message) → IsNotice s n → Keeps f T s → Keeps f T (told s t n)
  unfolding durable_number
  told_keeps s t n g h = at (may_go s t n.delivery)
    where
      -- a durable one goes to this peer, where it goes to one
      peer_of : Target → ℕ
      peer_of (AtPeer k) = k
      peer_of _ = 0

      durable : is_express n.delivery ≡ false → number_taken s n.delivery ≡ record s { next_number = s.next_number + 1 } → Keeps f T (placed (number_taken s n.delivery) t n)
      durable e same = subst (λ x. Keeps f T (placed x t n)) (sym same) (placed_keeps (record s { next_number = s.next_number + 1 }) t n taken g.fair
          (λ k to. (
            g.fair,
            λ w. record {
              durable = e;
              source = ap (λ (i : MessageId). i.qm) (g.next e).0 ∙ h.own;
              below = let number = ap (λ (i : MessageId). i.number) (g.next e).0 in omega (arith, number);
              place = ap (λ (i : MessageId). going h.goes s.next_number (peer_of t) i.number) (g.next e).0 ∙ going_there h.goes s.next_number (peer_of t) ∙ ap peer_of to;
              known = inr (let number = ap (λ (i : MessageId). i.number) (g.next e).0 in let low = h.low in omega (arith, number, low));
            },
          )))
        where
          taken : Keeps f T (record s { next_number = s.next_number + 1 })
          taken = durable_number s (s.next_number + 1) (going h.goes s.next_number (peer_of t)) h (λ j lt. going_before h.goes s.next_number (peer_of t) j lt) (omega arith)
              (let lt = (g.next e).1 in omega (arith, lt))

      by : (x : Delivery) → n.delivery ≡ x → Keeps f T (placed (number_taken s n.delivery) t n)
      by delivery.Express e = placed_keeps (number_taken s n.delivery) t n (subst (λ x. Keeps f T (number_taken s x)) (sym e) (express_number s h)) g.fair
          (λ k to. (g.fair, λ w. absurd (clash (sym (ap is_express e) ∙ w))))
      by delivery.Recoverable e = durable (ap is_express e) (ap (number_taken s) e)
      by delivery.Transactional e = durable (ap is_express e) (ap (number_taken s) e)

      at : (b : Bool) → Keeps f T (cond b (placed (number_taken s n.delivery) t n) s)
      at true = by n.delivery refl
      at false = h

  -- the number that is left for a notice
  left_durable : (s : State) → IfSome (cond (nat_le s.next_number MAX_NUMBER) (Some s.next_number) None) (λ n. (n ≡ s.next_number) × (s.next_number < FIRST_EXPRESS))
  left_durable s = at (nat_le s.next_number MAX_NUMBER) refl
    where
      at : (b : Bool) → nat_le s.next_number MAX_NUMBER ≡ b → IfSome (cond b (Some s.next_number) None) (λ n. (n ≡ s.next_number) × (s.next_number < FIRST_EXPRESS))
      at true e = (refl, grind (arith, nat_tests))
      at false e = tt

  -- the number that a message of a delivery may bear
  abbrev IsLeft : State → Delivery → ℕ → Type 0
  IsLeft s x n = (is_express x ≡ true → FIRST_EXPRESS ≤ n) × (is_express x ≡ false → (n ≡ s.next_number) × (s.next_number < FIRST_EXPRESS))

  left_for : (s : State) (x : Delivery) → Keeps f T s → IfSome (number_left s x) (IsLeft s x)
  left_for s delivery.Express h = (λ e. h.express, λ e. absurd (clash e))
  left_for s delivery.Recoverable h = some (cond (nat_le s.next_number MAX_NUMBER) (Some s.next_number) None) (left_durable s)
    where
      some : (o : Option ℕ) → IfSome o (λ n. (n ≡ s.next_number) × (s.next_number < FIRST_EXPRESS)) → IfSome o (IsLeft s delivery.Recoverable)
      some None g = tt
      some (Some n) g = (λ e. absurd (clash (sym e)), λ e. g)
  left_for s delivery.Transactional h = some (cond (nat_le s.next_number MAX_NUMBER) (Some s.next_number) None) (left_durable s)
    where
      some : (o : Option ℕ) → IfSome o (λ n. (n ≡ s.next_number) × (s.next_number < FIRST_EXPRESS)) → IfSome o (IsLeft s delivery.Transactional)
      some None g = tt
      some (Some n) g = (λ e. absurd (clash (sym e)), λ e. g)

  made_notice : (s : State) (m : Message) (class : Class) (x : Delivery) (to : QueueName) (number now : ℕ) → HasFate T m.id class → IsLeft s x number
      → IsNotice s (notice_about m class x to (record { qm = s.identity.guid; number = number }) now)
  made_notice s m class x to number now fate left = record {
    fair = record { fate = fate; express = left.0; durable = λ e. let g = left.1 e in let same = g.0 in let lt = g.1 in omega (arith, same, lt) };
    next = λ e. (ap (λ n. record { qm = s.identity.guid; number = n }) (left.1 e).0, (left.1 e).1);
  }

  admin_notices : (s : State) (m : Message) (class : Class) (now : ℕ) → HasFate T m.id class → Keeps f T s → IfSome (admin_about s m class now) (IsNotice s)
  admin_notices s m class now fate h = at (number_left s (admin_delivery m.delivery)) (left_for s (admin_delivery m.delivery) h)
    where
      made : (number : ℕ) (b : Bool) (admin : Option QueueName) → IsLeft s (admin_delivery m.delivery) number
          → IfSome (cond b (option_map (λ a. notice_about m class (admin_delivery m.delivery) a (record { qm = s.identity.guid; number = number }) now) admin) None) (IsNotice s)
      made number true None g = tt
      made number true (Some a) g = made_notice s m class (admin_delivery m.delivery) a number now fate g
      made number false admin g = tt

      at : (o : Option ℕ) → IfSome o (IsLeft s (admin_delivery m.delivery)) → IfSome (option_and_then (λ number. cond (is_ordinary m && asks_for m class)
          (option_map (λ a. notice_about m class (admin_delivery m.delivery) a (record { qm = s.identity.guid; number = number }) now) m.admin) None) o) (IsNotice s)
      at None g = tt
      at (Some number) g = made number (is_ordinary m && asks_for m class) m.admin g

  final_notices : (s : State) (peer : Identity) (m : Message) (class : Class) (now : ℕ) → HasFate T m.id class → Keeps f T s → IfSome (final_about s peer m class now) (IsNotice s)
  final_notices s peer m class now fate h = at (number_left s delivery.Recoverable) (left_for s delivery.Recoverable h)
    where
      made : (number : ℕ) (b : Bool) → IsLeft s delivery.Recoverable number
          → IfSome (cond b (Some (notice_about m class delivery.Recoverable (order_layer peer.host) (record { qm = s.identity.guid; number = number }) now)) None) (IsNotice s)
      made number true g = made_notice s m class delivery.Recoverable (order_layer peer.host) number now fate g
      made number false g = tt

      at : (o : Option ℕ) → IfSome o (IsLeft s delivery.Recoverable) → IfSome (option_and_then (λ number. cond (final_is_due m class s.identity.guid)
          (Some (notice_about m class delivery.Recoverable (order_layer peer.host) (record { qm = s.identity.guid; number = number }) now)) None) o) (IsNotice s)
      at None g = tt
      at (Some number) g = made number (final_is_due m class s.identity.guid) g

  admin_keeps : (s : State) (m : Message) (class : Class) (now : ℕ) → HasFate T m.id class → Keeps f T s → Keeps f T (admin_told s m class now)
  admin_keeps s m class now fate h = at (admin_about s m class now) (admin_notices s m class now fate h)
    where
      at : (o : Option Message) → IfSome o (IsNotice s) → Keeps f T (option_map_or (λ n. told s (resolved s n.destination) n) o s)
      at None g = h
      at (Some n) g = told_keeps s (resolved s n.destination) n g h

  final_keeps : (s : State) (m : Message) (class : Class) (now : ℕ) → HasFate T m.id class → Keeps f T s → Keeps f T (final_told s m class now)
  final_keeps s m class now fate h = at (peer_known s m.id.qm)
    where
      made : (k : ℕ) (o : Option Message) → IfSome o (IsNotice s) → Keeps f T (option_map_or (told s (AtPeer k)) o s)
      made k None g = h
      made k (Some n) g = told_keeps s (AtPeer k) n g h

      to : (k : ℕ) (o : Option Identity) → Keeps f T (option_map_or (λ peer. final_told_at s k peer m class now) o s)
      to k None = h
      to k (Some peer) = made k (final_about s peer m class now) (final_notices s peer m class now fate h)

      at : (o : Option ℕ) → Keeps f T (option_map_or (λ k. option_map_or (λ peer. final_told_at s k peer m class now) (slice_get s.peers k) s) o s)
      at None = h
      at (Some k) = to k (slice_get s.peers k)

  buried_keeps : (s : State) (m : Message) (class : Class) → IsFair T m → Keeps f T s → Keeps f T (buried s m class)
  buried_keeps s m class g h = at (dead_place s m class)
    where
      at : (o : Option EntryPlace) → Keeps f T (option_map_or (λ at. put_at s at m) o s)
      at None = h
      at (Some into) = put_keeps s into m g h

  pub meets_keeps : (s : State) (m : Message) (class : Class) (now : ℕ) → IsFair T m → HasFate T m.id class → Keeps f T s → Keeps f T (meets s m class now)
  meets_keeps s m class now g fate h = let one = admin_told s m class now in let two = final_told one m class now in
      buried_keeps two m class g (final_keeps one m class now fate (admin_keeps s m class now fate h))

  -- A manager's own messages.

  journalled_both : (s : State) (m : Message) → IsFair T m → (h : Keeps f T s) → (k : Keeps f T (journalled s m)) × (k.goes ≡ h.goes)
  unfolding put_keeps
  journalled_both s m g h = at (keeps_copy m)
    where
      at : (b : Bool) → (k : Keeps f T (cond b (put_at s place.Journal m) s)) × (k.goes ≡ h.goes)
      at true = (put_keeps s place.Journal m g h, refl)
      at false = (h, refl)

  pub journalled_keeps : (s : State) (m : Message) → IsFair T m → Keeps f T s → Keeps f T (journalled s m)
  journalled_keeps s m g h = (journalled_both s m g h).0

  pub journalled_goes : (s : State) (m : Message) (g : IsFair T m) (h : Keeps f T s) → (journalled_keeps s m g h).goes ≡ h.goes
  unfolding journalled_keeps
  journalled_goes s m g h = (journalled_both s m g h).1

  pub delivered_keeps : (s : State) (t : Target) (m : Message) (now : ℕ) (h : Keeps f T s) → IsFair T m → ((k : ℕ) → t ≡ AtPeer k → MayWait h.goes s.next_number k m)
      → Keeps f T (delivered s t m now)
  delivered_keeps s (AtPeer k) m now h g may = placed_keeps s (AtPeer k) m h g may
  delivered_keeps s (Here queue) m now h g may = meets_keeps (placed s (Here queue) m) m REACHED_QUEUE now g (reached_fate T m.id) (placed_keeps s (Here queue) m h g may)
  delivered_keeps s Nowhere m now h g may = meets_keeps s m REACHED_QUEUE now g (reached_fate T m.id) h
