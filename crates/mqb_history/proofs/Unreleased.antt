-- Plain messages wait for peers: they are the manager's own, each in the list of its delivery, and what is known of the marks of recoverable ones stays.
use Rattle.std.proofs.Common.{refl, sym, subst, ◌∙◌}
use Rattle.std.specs.List.{AllByRecursion}
use Rattle.std.specs.Option.{option_map_or}
use Rattle.std.specs.Prelude.{[], ◌&&◌, ◌∷◌, ◌≡◌, Bool, IfSome, List, None, Option, Some, cond, drop, false, length, map, not, option_and_then, option_map, position, remove, slice_get, slice_set, suc, take, true, zero, ◌+◌, ◌==◌, ℕ}
use Rattle.mqb_base.specs.Bits.{keeps_copy}
use Rattle.mqb_base.specs.Lanes.{lane_of}
use Rattle.mqb_base.specs.declared.class.Class.{Class}
use Rattle.mqb_base.specs.declared.class.TheConstants.Class.{BAD_DESTINATION, QUEUE_PURGED, REACHED_QUEUE, REACH_TIMEOUT, RECEIVED, RECEIVE_TIMEOUT}
use Rattle.mqb_base.specs.declared.ids.Guid.{Guid}
use Rattle.mqb_base.specs.declared.ids.Identity.{Identity}
use Rattle.mqb_base.specs.declared.ids.MessageId.{MessageId}
use Rattle.mqb_base.specs.declared.message.Delivery.{Delivery}
use Rattle.mqb_base.specs.declared.message.Delivery.TheVariants as delivery
use Rattle.mqb_base.specs.declared.message.Lane.{Lane}
use Rattle.mqb_base.specs.declared.message.Lane.TheVariants as lane
use Rattle.mqb_base.specs.declared.message.Message.{Message}
use Rattle.mqb_base.specs.declared.queue_names.QueueName.{QueueName}
use Rattle.mqb_base.specs.declared.queues.EntryPlace.{EntryPlace}
use Rattle.mqb_base.specs.declared.queues.EntryPlace.TheVariants as place
use Rattle.mqb_fate.specs.Asking.{asks_for, final_is_due, is_ordinary}
use Rattle.mqb_fate.specs.Notices.{admin_delivery, notice_about}
use Rattle.mqb_fate.specs.Orders.{order_layer}
use Rattle.mqb_packet.specs.declared.packet.UserPacket.{UserPacket}
use Rattle.mqb_plain.specs.Lists.{is_sent_by, unmarked, unsent}
use Rattle.mqb_plain.specs.Plain.{PlainLists, outgoing_in, pushed, without}
use Rattle.mqb_plain.specs.declared.outgoing.Outgoing.{Outgoing}
use Rattle.mqb_queue.specs.First.{is_queue}
use Rattle.mqb_queue.specs.Lists.{messages_in}
use Rattle.mqb_queue.specs.Places.{Queue, numbered}
use Rattle.mqb_model.specs.Lists.{with_changed, without_first}
use Rattle.mqb_model.specs.Loops.{for_each_below, repeated}
use Rattle.mqb_model.specs.declared.target.Target.{Target}
use Rattle.mqb_model.specs.declared.target.Target.TheVariants.{AtPeer, Here, Nowhere}
use Rattle.mqb_model.specs.managers.Beside.{Beside, all_unmarked, beside_done, without_acked}
use Rattle.mqb_model.specs.managers.Beside as beside
use Rattle.mqb_model.specs.records.Record.{Part, Record, RecordOp}
use Rattle.mqb_model.specs.records.Record as entry
use Rattle.mqb_model.specs.rules.Arrivals.{refusal_of, storing_refusal, target_refusal}
use Rattle.mqb_model.specs.rules.Effects.{Effect, joined}
use Rattle.mqb_model.specs.rules.Notices.{admin_about, admin_told, arrived, buried, dead_place, final_about, final_told, final_told_at, may_go, meets, told}
use Rattle.mqb_model.specs.rules.Numbers.{number_left, number_taken}
use Rattle.mqb_model.specs.rules.Purges.{count_at, message_purged, oldest_purged, purged}
use Rattle.mqb_model.specs.rules.Sends.{delivered, journalled, plain_sent}
use Rattle.mqb_model.specs.rules.Takes.{after_take, copied, message_at, message_taken, taken_at}
use Rattle.mqb_model.specs.rules.Timeouts.{lane_ticked, lapsing, lapsing_in, message_lapsed, message_swept, next_lapsed, next_swept, peer_lapsed, queue_swept, sweeping, sweeping_in}
use Rattle.mqb_model.specs.state.Durable.{durable, durable_plain}
use Rattle.mqb_model.specs.state.Places.{is_express, placed, put_at, with_plain, without_at}
use Rattle.mqb_model.specs.state.Resolving.{is_for_order_layer, peer_known, resolved}
use Rattle.mqb_model.specs.state.State.{State}
use Rattle.mqb_history.proofs.Lists.{all_append, all_filter, all_weaker, clash}
use Rattle.mqb_history.proofs.Ascending.{Rises, filtered_rise, joined_rise, removed_rise, unmarked_rise}

-- A recoverable message that waits: the manager's own, and the number under which it was sent is known.
pub record IsBorne (own : Guid) (Bears : ℕ → MessageId → Type 0) (o : Outgoing) : Type 0 where
  pub source : o.message.id.qm ≡ own
  pub durable : is_express o.message.delivery ≡ false
  pub mark : IfSome o.mark (λ n. Bears n o.message.id)

abbrev pub IsExpress : (ℕ → MessageId → Type 0) → Outgoing → Type 0
IsExpress Bears o = (is_express o.message.delivery ≡ true) × IfSome o.mark (λ n. Bears n o.message.id)

-- what waits for one peer
pub record PlainWaits (own : Guid) (Bears : Lane → ℕ → MessageId → Type 0) (p : PlainLists) : Type 0 where
  pub recoverable : AllByRecursion (IsBorne own (Bears lane.Durable)) p.recoverable
  pub express : AllByRecursion (IsExpress (Bears lane.Express)) p.express
  -- those that were sent come first, and their marks rise
  pub recoverable_rises : Rises 0 p.recoverable
  pub express_rises : Rises 0 p.express

-- and for all peers of a manager
pub record Waits (own : Guid) (Bears : Lane → ℕ → MessageId → Type 0) (s : State) : Type 0 where
  pub identity : s.identity.guid ≡ own
  pub plain : AllByRecursion (PlainWaits own Bears) s.plain

-- a message that is not express is the manager's own
abbrev pub MayWait : Guid → Message → Type 0
MayWait own m = is_express m.delivery ≡ false → m.id.qm ≡ own

-- so is the message of a record that sends one
abbrev pub IsOfOwn : Guid → Record → Type 0
IsOfOwn own (entry.Plain now p) = p.message.id.qm ≡ own
IsOfOwn own _ = Unit {0}

-- nothing but express messages is sent and heard beside a record, and no packet is noted
abbrev pub IsPlainBeside : Beside → Type 0
IsPlainBeside (beside.SendsExpress now m) = is_express m.delivery ≡ true
IsPlainBeside (beside.HearsExpress peer number now m refusal) = is_express m.delivery ≡ true
IsPlainBeside (beside.NotesSent peer sent) = ⊥
IsPlainBeside _ = Unit {0}

-- lists that lost a member

pub removed_all : {X : Type 0} (P : X → Type 0) (xs : List X) (k : ℕ) → AllByRecursion P xs → AllByRecursion P (remove xs k)
removed_all P xs k h = all_append P (take k xs) (drop (suc k) xs) (taken xs k h) (dropped xs (suc k) h)
  where
    taken : (ys : List _) (n : ℕ) → AllByRecursion P ys → AllByRecursion P (take n ys)
    taken [] zero g = tt
    taken [] (suc n) g = tt
    taken (y ∷ ys) zero g = tt
    taken (y ∷ ys) (suc n) g = (g.0, taken ys n g.1)

    dropped : (ys : List _) (n : ℕ) → AllByRecursion P ys → AllByRecursion P (drop n ys)
    dropped [] zero g = tt
    dropped [] (suc n) g = tt
    dropped (y ∷ ys) zero g = g
    dropped (y ∷ ys) (suc n) g = dropped ys n g.1

pub without_all : {X : Type 0} (P : X → Type 0) (test : X → Bool) (xs : List X) → AllByRecursion P xs → AllByRecursion P (without_first test xs)
without_all P test xs h = at (position test xs)
  where
    at : (o : Option ℕ) → AllByRecursion P (option_map_or (remove xs) o xs)
    at None = h
    at (Some k) = removed_all P xs k h

-- and whose members changed
pub changed_all : {X : Type 0} (P : X → Type 0) (change : X → X) (xs : List X) (k : ℕ) → ((x : X) → P x → P (change x)) → AllByRecursion P xs → AllByRecursion P (with_changed change xs k)
changed_all {X = X} P change xs k keeps h = at (slice_get xs k) (get xs k h)
  where
    get : (ys : List X) (n : ℕ) → AllByRecursion P ys → IfSome (slice_get ys n) P
    get [] n g = tt
    get (y ∷ ys) zero g = g.0
    get (y ∷ ys) (suc n) g = get ys n g.1

    set : (ys : List X) (n : ℕ) (y : X) → P y → AllByRecursion P ys → AllByRecursion P (slice_set ys n y)
    set [] n y p g = tt
    set (z ∷ ys) zero y p g = (p, g.1)
    set (z ∷ ys) (suc n) y p g = (g.0, set ys n y p g.1)

    at : (o : Option X) → IfSome o P → AllByRecursion P (option_map_or (λ x. slice_set xs k (change x)) o xs)
    at None g = h
    at (Some x) g = set xs k (change x) (keeps x g) h

-- a message that is put goes to no peer
abbrev pub IsHere : Target → Type 0
IsHere t = (number : ℕ) × (t ≡ Here (Some number))

target_here : (s : State) (t : Target) (x : Delivery) → target_refusal s t x ≡ None → IsHere t
target_here s (Here (Some number)) x e = (number, refl)
target_here s t x e = absurd (let none : ⊥ = cc in none)

pub refusal_here : (s : State) (p : UserPacket) → refusal_of s p ≡ None → IsHere (resolved s p.message.destination)
refusal_here s p e = at (p.remaining == 0) e
  where
    at : (b : Bool) → cond b (Some REACH_TIMEOUT) (target_refusal s (resolved s p.message.destination) p.message.delivery) ≡ None → IsHere (resolved s p.message.destination)
    at true f = absurd (let none : ⊥ = cc in none)
    at false f = target_here s (resolved s p.message.destination) p.message.delivery f

pub storing_here : (s : State) (p : UserPacket) → storing_refusal s p ≡ None → IsHere (resolved s p.message.destination)
storing_here s p e = at (is_for_order_layer s p.message.destination) e
  where
    at : (b : Bool) → cond b (Some BAD_DESTINATION) (refusal_of s p) ≡ None → IsHere (resolved s p.message.destination)
    at true f = absurd (let none : ⊥ = cc in none)
    at false f = refusal_here s p f

-- no message of a manager counts as sent any more
list_unmarked : (own : Guid) (Bears New : ℕ → MessageId → Type 0) (os : List Outgoing) → AllByRecursion (IsBorne own Bears) os → AllByRecursion (IsBorne own New) (unmarked os)
list_unmarked own Bears New [] h = tt
list_unmarked own Bears New (o ∷ os) h = (record { source = h.0.source; durable = h.0.durable; mark = tt }, list_unmarked own Bears New os h.1)

express_unmarked : (Bears New : ℕ → MessageId → Type 0) (os : List Outgoing) → AllByRecursion (IsExpress Bears) os → AllByRecursion (IsExpress New) (unmarked os)
express_unmarked Bears New [] h = tt
express_unmarked Bears New (o ∷ os) h = ((h.0.0, tt), express_unmarked Bears New os h.1)

lists_unmarked : (own : Guid) (Bears New : Lane → ℕ → MessageId → Type 0) (ps : List PlainLists) → AllByRecursion (PlainWaits own Bears) ps → AllByRecursion (PlainWaits own New) (map all_unmarked ps)
lists_unmarked own Bears New [] h = tt
lists_unmarked own Bears New (p ∷ ps) h = (
  record {
    recoverable = list_unmarked own (Bears lane.Durable) (New lane.Durable) p.recoverable h.0.recoverable;
    express = express_unmarked (Bears lane.Express) (New lane.Express) p.express h.0.express;
    recoverable_rises = unmarked_rise p.recoverable;
    express_rises = unmarked_rise p.express;
  },
  lists_unmarked own Bears New ps h.1,
)

pub unmarked_waits : (own : Guid) (Bears New : Lane → ℕ → MessageId → Type 0) (s : State) → Waits own Bears s → Waits own New (record s { plain = map all_unmarked s.plain })
unmarked_waits own Bears New s h = record { identity = h.identity; plain = lists_unmarked own Bears New s.plain h.plain }

lists_stored : (own : Guid) (Bears New : Lane → ℕ → MessageId → Type 0) (ps : List PlainLists) → AllByRecursion (PlainWaits own Bears) ps → AllByRecursion (PlainWaits own New) (map durable_plain ps)
lists_stored own Bears New [] h = tt
lists_stored own Bears New (p ∷ ps) h = (record { recoverable = list_unmarked own (Bears lane.Durable) (New lane.Durable) p.recoverable h.0.recoverable; express = tt; recoverable_rises = unmarked_rise p.recoverable; express_rises = tt }, lists_stored own Bears New ps h.1)

pub stored_waits : (own : Guid) (Bears New : Lane → ℕ → MessageId → Type 0) (s : State) → Waits own Bears s → Waits own New (durable s)
stored_waits own Bears New s h = record { identity = h.identity; plain = lists_stored own Bears New s.plain h.plain }

-- less is known of marks
mark_weaker : (Bears New : ℕ → MessageId → Type 0) → ((n : ℕ) (id : MessageId) → Bears n id → New n id) → (id : MessageId) (x : Option ℕ) → IfSome x (λ n. Bears n id) → IfSome x (λ n. New n id)
mark_weaker Bears New weaker id None g = tt
mark_weaker Bears New weaker id (Some n) g = weaker n id g

list_weaker : (own : Guid) (Bears New : ℕ → MessageId → Type 0) → ((n : ℕ) (id : MessageId) → Bears n id → New n id) → (os : List Outgoing)
    → AllByRecursion (IsBorne own Bears) os → AllByRecursion (IsBorne own New) os
list_weaker own Bears New weaker [] h = tt
list_weaker own Bears New weaker (o ∷ os) h = (
  record { source = h.0.source; durable = h.0.durable; mark = mark_weaker Bears New weaker o.message.id o.mark h.0.mark },
  list_weaker own Bears New weaker os h.1,
)

express_weaker : (Bears New : ℕ → MessageId → Type 0) → ((n : ℕ) (id : MessageId) → Bears n id → New n id) → (os : List Outgoing) → AllByRecursion (IsExpress Bears) os → AllByRecursion (IsExpress New) os
express_weaker Bears New weaker [] h = tt
express_weaker Bears New weaker (o ∷ os) h = ((h.0.0, mark_weaker Bears New weaker o.message.id o.mark h.0.1), express_weaker Bears New weaker os h.1)

pub lists_weaker : (own : Guid) (Bears New : Lane → ℕ → MessageId → Type 0) → ((kind : Lane) (n : ℕ) (id : MessageId) → Bears kind n id → New kind n id) → (p : PlainLists) → PlainWaits own Bears p → PlainWaits own New p
lists_weaker own Bears New weaker p h = record {
  recoverable = list_weaker own (Bears lane.Durable) (New lane.Durable) (weaker lane.Durable) p.recoverable h.recoverable;
  express = express_weaker (Bears lane.Express) (New lane.Express) (weaker lane.Express) p.express h.express;
  recoverable_rises = h.recoverable_rises;
  express_rises = h.express_rises;
}

pub weaker_waits : (own : Guid) (Bears New : Lane → ℕ → MessageId → Type 0) → ((kind : Lane) (n : ℕ) (id : MessageId) → Bears kind n id → New kind n id) → (s : State) → Waits own Bears s → Waits own New s
weaker_waits own Bears New weaker s h = record { identity = h.identity; plain = all_weaker (PlainWaits own Bears) (PlainWaits own New) (lists_weaker own Bears New weaker) s.plain h.plain }

module _ (own : Guid) (Bears : Lane → ℕ → MessageId → Type 0) where
  -- One list.

  pushed_waits : (m : Message) (p : PlainLists) → MayWait own m → PlainWaits own Bears p → PlainWaits own Bears (pushed (lane_of m.delivery) m p)
  pushed_waits m p may h = at m.delivery refl
    where
      durable : is_express m.delivery ≡ false → PlainWaits own Bears (pushed lane.Durable m p)
      durable e = record {
        recoverable = all_append (IsBorne own (Bears lane.Durable)) p.recoverable (unsent m ∷ []) h.recoverable (record { source = may e; durable = e; mark = tt }, tt);
        express = h.express;
        recoverable_rises = joined_rise 0 p.recoverable m h.recoverable_rises;
        express_rises = h.express_rises;
      }

      at : (x : Delivery) → m.delivery ≡ x → PlainWaits own Bears (pushed (lane_of x) m p)
      at delivery.Express e = record {
        recoverable = h.recoverable;
        express = all_append (IsExpress (Bears lane.Express)) p.express (unsent m ∷ []) h.express ((subst (λ x. is_express x ≡ true) (sym e) refl, tt), tt);
        recoverable_rises = h.recoverable_rises;
        express_rises = joined_rise 0 p.express m h.express_rises;
      }
      at delivery.Recoverable e = durable (subst (λ x. is_express x ≡ false) (sym e) refl)
      at delivery.Transactional e = durable (subst (λ x. is_express x ≡ false) (sym e) refl)

  dropped_waits : (kind : Lane) (k : ℕ) (p : PlainLists) → PlainWaits own Bears p → PlainWaits own Bears (without kind k p)
  dropped_waits lane.Durable k p h = record {
    recoverable = removed_all (IsBorne own (Bears lane.Durable)) p.recoverable k h.recoverable;
    express = h.express;
    recoverable_rises = removed_rise 0 p.recoverable k h.recoverable_rises;
    express_rises = h.express_rises;
  }
  dropped_waits lane.Express k p h = record {
    recoverable = h.recoverable;
    express = removed_all (IsExpress (Bears lane.Express)) p.express k h.express;
    recoverable_rises = h.recoverable_rises;
    express_rises = removed_rise 0 p.express k h.express_rises;
  }

  pub acked_waits : (number : ℕ) (p : PlainLists) → PlainWaits own Bears p → PlainWaits own Bears (without_acked number p)
  acked_waits number p h = record {
    recoverable = h.recoverable;
    express = all_filter (IsExpress (Bears lane.Express)) (λ o. not (is_sent_by number o)) p.express h.express;
    recoverable_rises = h.recoverable_rises;
    express_rises = filtered_rise 0 (λ o. not (is_sent_by number o)) p.express h.express_rises;
  }

  -- All lists.

  pub plain_waits : (s : State) (k : ℕ) (change : PlainLists → PlainLists) → ((p : PlainLists) → PlainWaits own Bears p → PlainWaits own Bears (change p))
      → Waits own Bears s → Waits own Bears (with_plain change s k)
  plain_waits s k change keeps h = record { identity = h.identity; plain = changed_all (PlainWaits own Bears) change s.plain k keeps h.plain }

  pub put_waits : (s : State) (at : EntryPlace) (m : Message) → Waits own Bears s → Waits own Bears (put_at s at m)
  put_waits s at m h = record { identity = h.identity; plain = h.plain }

  placed_waits : (s : State) (t : Target) (m : Message) → MayWait own m → Waits own Bears s → Waits own Bears (placed s t m)
  placed_waits s (Here None) m may h = h
  placed_waits s (Here (Some n)) m may h = put_waits s (place.Queue n) m h
  placed_waits s (AtPeer k) m may h = plain_waits s k (pushed (lane_of m.delivery) m) (λ p g. pushed_waits m p may g) h
  placed_waits s Nowhere m may h = h

  pub number_waits : (s : State) (x : Delivery) → Waits own Bears s → Waits own Bears (number_taken s x)
  number_waits s delivery.Express h = record { identity = h.identity; plain = h.plain }
  number_waits s x h = record { identity = h.identity; plain = h.plain }

  -- Notices.

  admin_own : (s : State) (m : Message) (class : Class) (now : ℕ) → Waits own Bears s → IfSome (admin_about s m class now) (MayWait own)
  admin_own s m class now h = at (number_left s (admin_delivery m.delivery))
    where
      made : (number : ℕ) (b : Bool) (admin : Option QueueName)
          → IfSome (cond b (option_map (λ a. notice_about m class (admin_delivery m.delivery) a (record { qm = s.identity.guid; number = number }) now) admin) None) (MayWait own)
      made number true None = tt
      made number true (Some a) = λ e. h.identity
      made number false admin = tt

      at : (o : Option ℕ) → IfSome (option_and_then (λ number. cond (is_ordinary m && asks_for m class)
          (option_map (λ a. notice_about m class (admin_delivery m.delivery) a (record { qm = s.identity.guid; number = number }) now) m.admin) None) o) (MayWait own)
      at None = tt
      at (Some number) = made number (is_ordinary m && asks_for m class) m.admin

  final_own : (s : State) (peer : Identity) (m : Message) (class : Class) (now : ℕ) → Waits own Bears s → IfSome (final_about s peer m class now) (MayWait own)
  final_own s peer m class now h = at (number_left s delivery.Recoverable)
    where
      made : (number : ℕ) (b : Bool)
          → IfSome (cond b (Some (notice_about m class delivery.Recoverable (order_layer peer.host) (record { qm = s.identity.guid; number = number }) now)) None) (MayWait own)
      made number true = λ e. h.identity
      made number false = tt

      at : (o : Option ℕ) → IfSome (option_and_then (λ number. cond (final_is_due m class s.identity.guid)
          (Some (notice_about m class delivery.Recoverable (order_layer peer.host) (record { qm = s.identity.guid; number = number }) now)) None) o) (MayWait own)
      at None = tt
      at (Some number) = made number (final_is_due m class s.identity.guid)

  told_waits : (s : State) (t : Target) (n : Message) → MayWait own n → Waits own Bears s → Waits own Bears (told s t n)
  told_waits s t n may h = at (may_go s t n.delivery)
    where
      at : (b : Bool) → Waits own Bears (cond b (placed (number_taken s n.delivery) t n) s)
      at true = placed_waits (number_taken s n.delivery) t n may (number_waits s n.delivery h)
      at false = h

  admin_waits : (s : State) (m : Message) (class : Class) (now : ℕ) → Waits own Bears s → Waits own Bears (admin_told s m class now)
  admin_waits s m class now h = at (admin_about s m class now) (admin_own s m class now h)
    where
      at : (o : Option Message) → IfSome o (MayWait own) → Waits own Bears (option_map_or (λ n. told s (resolved s n.destination) n) o s)
      at None i = h
      at (Some n) i = told_waits s (resolved s n.destination) n i h

  final_told_waits : (s : State) (m : Message) (class : Class) (now : ℕ) → Waits own Bears s → Waits own Bears (final_told s m class now)
  final_told_waits s m class now h = at (peer_known s m.id.qm)
    where
      made : (k : ℕ) (o : Option Message) → IfSome o (MayWait own) → Waits own Bears (option_map_or (told s (AtPeer k)) o s)
      made k None i = h
      made k (Some n) i = told_waits s (AtPeer k) n i h

      to : (k : ℕ) (o : Option Identity) → Waits own Bears (option_map_or (λ peer. final_told_at s k peer m class now) o s)
      to k None = h
      to k (Some peer) = made k (final_about s peer m class now) (final_own s peer m class now h)

      at : (o : Option ℕ) → Waits own Bears (option_map_or (λ k. option_map_or (λ peer. final_told_at s k peer m class now) (slice_get s.peers k) s) o s)
      at None = h
      at (Some k) = to k (slice_get s.peers k)

  buried_waits : (s : State) (m : Message) (class : Class) → Waits own Bears s → Waits own Bears (buried s m class)
  buried_waits s m class h = at (dead_place s m class)
    where
      at : (o : Option EntryPlace) → Waits own Bears (option_map_or (λ at. put_at s at m) o s)
      at None = h
      at (Some into) = put_waits s into m h

  pub meets_waits : (s : State) (m : Message) (class : Class) (now : ℕ) → Waits own Bears s → Waits own Bears (meets s m class now)
  meets_waits s m class now h = let one = admin_told s m class now in let two = final_told one m class now in
      buried_waits two m class (final_told_waits one m class now (admin_waits s m class now h))

  -- Messages leave places and lists.

  after_take_waits : (s : State) (at : EntryPlace) (m : Message) (now : ℕ) → Waits own Bears s → Waits own Bears (after_take s at m now)
  after_take_waits s (place.Queue number) m now h = meets_waits (copied s number m) m RECEIVED now (by (numbered s.places.queues number))
    where
      journal : (b : Bool) → Waits own Bears (cond b (put_at s (place.JournalOf number) m) s)
      journal true = put_waits s (place.JournalOf number) m h
      journal false = h

      by : (o : Option Queue) → Waits own Bears (option_map_or (λ q. cond q.plan.journal (put_at s (place.JournalOf number) m) s) o s)
      by None = h
      by (Some q) = journal q.plan.journal
  after_take_waits s at m now h = h

  pub taken_at_waits : (kind : Lane) (at : EntryPlace) (k now : ℕ) (e : Effect) → Waits own Bears e.state → Waits own Bears (taken_at kind at k now e).state
  taken_at_waits kind at k now e h = by (message_at kind e.state at k)
    where
      by : (o : Option Message) → Waits own Bears (option_map_or (λ m. joined e (message_taken kind at k now e.state m)) o e).state
      by None = h
      by (Some m) = after_take_waits (without_at kind e.state at k) at m now (record { identity = h.identity; plain = h.plain })

  pub repeated_waits : (step : Effect → Effect) → ((e : Effect) → Waits own Bears e.state → Waits own Bears (step e).state) → (n : ℕ) (e : Effect)
      → Waits own Bears e.state → Waits own Bears (repeated n step e).state
  repeated_waits step keeps zero e h = h
  repeated_waits step keeps (suc n) e h = keeps (repeated n step e) (repeated_waits step keeps n e h)

  pub each_waits : (step : ℕ → Effect → Effect) → ((k : ℕ) (e : Effect) → Waits own Bears e.state → Waits own Bears (step k e).state) → (n : ℕ) (e : Effect)
      → Waits own Bears e.state → Waits own Bears (for_each_below n step e).state
  each_waits step keeps zero e h = h
  each_waits step keeps (suc n) e h = keeps n (for_each_below n step e) (each_waits step keeps n e h)

  oldest_waits : (kind : Lane) (at : EntryPlace) (now : ℕ) (e : Effect) → Waits own Bears e.state → Waits own Bears (oldest_purged kind at now e).state
  oldest_waits kind at now e h = by (message_at kind e.state at 0)
    where
      left : Waits own Bears (without_at kind e.state at 0)
      left = record { identity = h.identity; plain = h.plain }

      after : (m : Message) (b : Bool) → Waits own Bears (cond b (meets (without_at kind e.state at 0) m QUEUE_PURGED now) (without_at kind e.state at 0))
      after m true = meets_waits (without_at kind e.state at 0) m QUEUE_PURGED now left
      after m false = left

      by : (o : Option Message) → Waits own Bears (option_map_or (λ m. joined e (message_purged kind at now e.state m)) o e).state
      by None = h
      by (Some m) = after m (is_queue at)

  pub purged_waits : (kind : Lane) (at : EntryPlace) (now : ℕ) (e : Effect) → Waits own Bears e.state → Waits own Bears (purged kind at now e).state
  purged_waits kind at now e h = repeated_waits (oldest_purged kind at now) (oldest_waits kind at now) (count_at kind e.state at) e h

  lapsed_waits : (kind : Lane) (now k : ℕ) (e : Effect) → Waits own Bears e.state → Waits own Bears (next_lapsed kind now k e).state
  lapsed_waits kind now k e h = at (slice_get e.state.plain k)
    where
      each : (index : ℕ) (o : Option Outgoing) → Waits own Bears (option_map_or (λ o. joined e (message_lapsed kind now k index e.state o.message)) o e).state
      each index None = h
      each index (Some o) = meets_waits (with_plain (without kind index) e.state k) o.message REACH_TIMEOUT now
          (plain_waits e.state k (without kind index) (dropped_waits kind index) h)

      first : (p : PlainLists) (o : Option ℕ)
          → Waits own Bears (option_map_or (λ index. option_map_or (λ o. joined e (message_lapsed kind now k index e.state o.message)) (slice_get (outgoing_in kind p) index) e) o e).state
      first p None = h
      first p (Some index) = each index (slice_get (outgoing_in kind p) index)

      at : (o : Option PlainLists) → Waits own Bears (option_map_or (λ p. option_map_or (λ index.
          option_map_or (λ o. joined e (message_lapsed kind now k index e.state o.message)) (slice_get (outgoing_in kind p) index) e) (lapsing kind now p) e) o e).state
      at None = h
      at (Some p) = first p (lapsing kind now p)

  swept_waits : (kind : Lane) (now k : ℕ) (e : Effect) → Waits own Bears e.state → Waits own Bears (next_swept kind now k e).state
  swept_waits kind now k e h = at (slice_get e.state.places.queues k)
    where
      each : (index : ℕ) (o : Option Message) → Waits own Bears (option_map_or (λ m. joined e (message_swept kind now (k + 1) index e.state m)) o e).state
      each index None = h
      each index (Some m) = meets_waits (without_at kind e.state (place.Queue (k + 1)) index) m RECEIVE_TIMEOUT now (record { identity = h.identity; plain = h.plain })

      first : (q : Queue) (o : Option ℕ)
          → Waits own Bears (option_map_or (λ index. option_map_or (λ m. joined e (message_swept kind now (k + 1) index e.state m)) (slice_get (messages_in kind q.lists) index) e) o e).state
      first q None = h
      first q (Some index) = each index (slice_get (messages_in kind q.lists) index)

      at : (o : Option Queue) → Waits own Bears (option_map_or (λ q. option_map_or (λ index.
          option_map_or (λ m. joined e (message_swept kind now (k + 1) index e.state m)) (slice_get (messages_in kind q.lists) index) e) (sweeping kind now q) e) o e).state
      at None = h
      at (Some q) = first q (sweeping kind now q)

  pub ticked_waits : (kind : Lane) (now : ℕ) (e : Effect) → Waits own Bears e.state → Waits own Bears (lane_ticked kind now e).state
  ticked_waits kind now e h = each_waits (queue_swept kind now)
      (λ k f g. repeated_waits (next_swept kind now k) (swept_waits kind now k) (option_map_or (sweeping_in kind now) (slice_get f.state.places.queues k) 0) f g)
      (length e.state.places.queues) (for_each_below (length e.state.plain) (peer_lapsed kind now) e)
      (each_waits (peer_lapsed kind now)
      (λ k f g. repeated_waits (next_lapsed kind now k) (lapsed_waits kind now k) (option_map_or (lapsing_in kind now) (slice_get f.state.plain k) 0) f g)
      (length e.state.plain) e h)

  -- Sends and arrivals.

  pub journalled_waits : (s : State) (m : Message) → Waits own Bears s → Waits own Bears (journalled s m)
  journalled_waits s m h = at (keeps_copy m)
    where
      at : (b : Bool) → Waits own Bears (cond b (put_at s place.Journal m) s)
      at true = put_waits s place.Journal m h
      at false = h

  pub here_waits : (s : State) (queue : Option ℕ) (m : Message) (now : ℕ) → Waits own Bears s → Waits own Bears (delivered s (Here queue) m now)
  here_waits s None m now h = meets_waits s m REACHED_QUEUE now h
  here_waits s (Some n) m now h = meets_waits (put_at s (place.Queue n) m) m REACHED_QUEUE now (put_waits s (place.Queue n) m h)

  delivered_waits : (s : State) (t : Target) (m : Message) (now : ℕ) → MayWait own m → Waits own Bears s → Waits own Bears (delivered s t m now)
  delivered_waits s (AtPeer k) m now may h = placed_waits s (AtPeer k) m may h
  delivered_waits s (Here queue) m now may h = here_waits s queue m now h
  delivered_waits s Nowhere m now may h = meets_waits s m REACHED_QUEUE now h

  pub sent_waits : (s : State) (m : Message) (now : ℕ) → MayWait own m → Waits own Bears s → Waits own Bears (plain_sent s m now)
  sent_waits s m now may h = delivered_waits (journalled s m) (resolved s m.destination) m now may (journalled_waits s m h)

  -- a message that is put arrives at no peer
  pub arrived_waits : (s : State) (m : Message) (now : ℕ) (refusal : Option Class) → (refusal ≡ None → IsHere (resolved s m.destination))
      → Waits own Bears s → Waits own Bears (arrived s m now refusal)
  arrived_waits s m now (Some class) here h = meets_waits s m class now h
  arrived_waits s m now None here h = subst (λ t. Waits own Bears (meets (placed s t m) m REACHED_QUEUE now)) (sym (here refl).1)
      (here_waits s (Some (here refl).0) m now h)

  pub express_waits : (s : State) (m : Message) (now : ℕ) (refusal : Option Class) → is_express m.delivery ≡ true → Waits own Bears s → Waits own Bears (arrived s m now refusal)
  express_waits s m now (Some class) e h = meets_waits s m class now h
  express_waits s m now None e h = meets_waits (placed s (resolved s m.destination) m) m REACHED_QUEUE now
      (placed_waits s (resolved s m.destination) m (λ f. absurd (clash (sym e ∙ f))) h)
