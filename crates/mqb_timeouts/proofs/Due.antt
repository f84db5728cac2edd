-- What follows when a message meets a class adds nothing that is due: notices have no limit of time, and a dead letter goes into no queue.
use Rattle.std.proofs.Common.{◌≡◌, ◌≢◌, ◌⊎◌, inl, inr, ℕ, ◌+◌, ◌==◌, Bool, true, false, cond, List, [], ◌∷◌, ◌++◌, Option, Some, None, refl, sym, ap, ◌∙◌, subst}
use Rattle.std.specs.Option.{IfSome, IsSome, option_map_or}
use Rattle.std.specs.Prelude.{◌&&◌, not, option_and_then, option_map, slice_get, slice_set}
use Rattle.std.proofs.lemmas.Bool.{cases_eq, eqb-true, true≢false}
use Rattle.mqb_base.specs.Lanes.{lane_of}
use Rattle.mqb_base.specs.Bits.{keeps_dead}
use Rattle.mqb_base.specs.Classes.{is_negative}
use Rattle.mqb_base.specs.declared.class.Class.{Class}
use Rattle.mqb_base.specs.declared.ids.Identity.{Identity}
use Rattle.mqb_base.specs.declared.message.Delivery.{Delivery}
use Rattle.mqb_base.specs.declared.message.Delivery.TheVariants as delivery
use Rattle.mqb_base.specs.declared.message.Lane.{Lane}
use Rattle.mqb_base.specs.declared.message.Lane.TheVariants as lane
use Rattle.mqb_base.specs.declared.message.Message.{Message}
use Rattle.mqb_base.specs.declared.queue_names.QueueName.{QueueName}
use Rattle.mqb_base.specs.declared.queues.EntryPlace.{EntryPlace}
use Rattle.mqb_base.specs.declared.queues.EntryPlace.TheVariants as place
use Rattle.mqb_base.specs.declared.queues.Place.{Place}
use Rattle.mqb_base.specs.declared.queues.Place.TheVariants as named
use Rattle.mqb_base.specs.declared.times.TheConstants.{UNLIMITED}
use Rattle.mqb_base.specs.Times.{is_due}
use Rattle.mqb_fate.specs.Asking.{asks_for, final_is_due, goes_dead, is_ordinary, is_transactional}
use Rattle.mqb_fate.specs.Notices.{admin_delivery, admin_notice, final_notice, notice_about}
use Rattle.mqb_fate.specs.Orders.{order_layer}
use Rattle.mqb_plain.specs.Plain.{PlainLists, outgoing_in, pushed}
use Rattle.mqb_plain.specs.Lists.{unsent}
use Rattle.mqb_queue.specs.First.{is_queue}
use Rattle.mqb_queue.specs.Laws.{same_entry}
use Rattle.mqb_queue.specs.Lists.{Lists, messages_in, put}
use Rattle.mqb_queue.specs.Places.{lists_at, place_named, with_lists}
use Rattle.mqb_queue.proofs.Others.{one_place}
use Rattle.mqb_contents.proofs.mqb_tables.Members.{changed_is, changed_there, get-set_other}
use Rattle.mqb_model.specs.Lists.{with_changed}
use Rattle.mqb_model.specs.declared.target.Target.{Target}
use Rattle.mqb_model.specs.declared.target.Target.TheVariants.{AtPeer, Here, Nowhere}
use Rattle.mqb_model.specs.rules.Notices.{admin_about, admin_told, buried, final_about, final_told, final_told_at, may_go, meets, told}
use Rattle.mqb_model.specs.rules.Numbers.{number_left, number_taken}
use Rattle.mqb_model.specs.rules.Timeouts.{cannot_be_received, lapses}
use Rattle.mqb_model.specs.state.Places.{placed, put_at, with_place, with_plain}
use Rattle.mqb_model.specs.state.Resolving.{peer_known, resolved}
use Rattle.mqb_model.specs.state.State.{State}
use Rattle.mqb_timeouts.specs.Waiting.{queued, waiting}
use Rattle.mqb_timeouts.proofs.Appended.{Appended, appended_one, appended_refl, appended_trans}

-- one state becomes another, and nothing joins its queues and plain messages but at the end, and nothing that is due
pub record IsUndue (now : ℕ) (s t : State) : Type 0 where
  pub queues : (kind : Lane) (k : ℕ) → Appended (cannot_be_received now) (queued kind s k) (queued kind t k)
  pub plain : (kind : Lane) (k : ℕ) → Appended (lapses now) (waiting kind s k) (waiting kind t k)
  pub outs : t.outs ≡ s.outs

pub undue_refl : (now : ℕ) (s : State) → IsUndue now s s
undue_refl now s = record { queues = λ kind k. appended_refl _ _; plain = λ kind k. appended_refl _ _; outs = refl }

pub undue_trans : (now : ℕ) (s t u : State) → IsUndue now s t → IsUndue now t u → IsUndue now s u
undue_trans now s t u a b = record {
  queues = λ kind k. appended_trans (cannot_be_received now) (queued kind s k) (queued kind t k) (queued kind u k) (a.queues kind k) (b.queues kind k);
  plain = λ kind k. appended_trans (lapses now) (waiting kind s k) (waiting kind t k) (waiting kind u k) (a.plain kind k) (b.plain kind k);
  outs = b.outs ∙ a.outs;
}

-- One place is changed.

same_is : (at : EntryPlace) (n : ℕ) → same_entry at (place.Queue n) ≡ true → at ≡ place.Queue n
same_is (place.Queue m) n h = ap place.Queue (eqb-true m n h)
same_is (place.JournalOf m) n h = absurd (true≢false (sym h))
same_is place.Dead n h = absurd (true≢false (sym h))
same_is place.DeadXact n h = absurd (true≢false (sym h))
same_is place.Journal n h = absurd (true≢false (sym h))

changed_queued : (now : ℕ) (s : State) (at : EntryPlace) (change : Lists → Lists)
    → (is_queue at ≡ true → (l : Lists) (kind : Lane) → Appended (cannot_be_received now) (messages_in kind l) (messages_in kind (change l)))
    → (kind : Lane) (k : ℕ) → Appended (cannot_be_received now) (queued kind s k) (queued kind (with_place change s at) k)
changed_queued now s at change behind kind k = by (lists_at s.places at) refl
  where
    here : EntryPlace
    here = place.Queue (k + 1)

    chosen : (l : Lists) → lists_at s.places at ≡ Some l → (b : Bool) → same_entry at here ≡ b
        → Appended (cannot_be_received now) (queued kind s k) (option_map_or (messages_in kind) (cond b (Some (change l)) (lists_at s.places here)) [])
    chosen l is true h = let same = same_is at (k + 1) h in
        subst (λ (o : Option Lists). Appended (cannot_be_received now) (option_map_or (messages_in kind) o []) (messages_in kind (change l)))
        (sym (ap (lists_at s.places) (sym same) ∙ is)) (behind (ap is_queue same) l kind)
    chosen l is false h = appended_refl (cannot_be_received now) (queued kind s k)

    by : (o : Option Lists) → lists_at s.places at ≡ o → Appended (cannot_be_received now) (queued kind s k)
        (option_map_or (messages_in kind) (lists_at (option_map_or (λ l. with_lists s.places at (change l)) o s.places) here) [])
    by None is = appended_refl (cannot_be_received now) (queued kind s k)
    by (Some l) is = subst (λ (o : Option Lists). Appended (cannot_be_received now) (queued kind s k) (option_map_or (messages_in kind) o []))
        (sym (one_place s.places at here (change l) (subst (λ (o : Option Lists). IsSome o) (sym is) refl))) (chosen l is (same_entry at here) refl)

place_undue : (now : ℕ) (s : State) (at : EntryPlace) (change : Lists → Lists)
    → (is_queue at ≡ true → (l : Lists) (kind : Lane) → Appended (cannot_be_received now) (messages_in kind l) (messages_in kind (change l)))
    → IsUndue now s (with_place change s at)
place_undue now s at change behind = record {
  queues = changed_queued now s at change behind;
  plain = λ kind k. appended_refl (lapses now) (waiting kind s k);
  outs = refl;
}

-- The plain messages for one peer are changed.
plain_undue : (now : ℕ) (s : State) (k : ℕ) (change : PlainLists → PlainLists)
    → ((p : PlainLists) (kind : Lane) → Appended (lapses now) (outgoing_in kind p) (outgoing_in kind (change p))) → IsUndue now s (with_plain change s k)
plain_undue now s k change behind = record {
  queues = λ kind j. appended_refl (cannot_be_received now) (queued kind s j);
  plain = λ kind j. by kind j (slice_get s.plain k) refl;
  outs = refl;
}
  where
    one : (kind : Lane) (j : ℕ) (p : PlainLists) → slice_get s.plain k ≡ Some p → (j ≡ k) ⊎ (j ≢ k)
        → Appended (lapses now) (waiting kind s j) (option_map_or (outgoing_in kind) (slice_get (with_changed change s.plain k) j) [])
    one kind j p is (inl same) =
        subst (λ (i : ℕ). Appended (lapses now) (waiting kind s i) (option_map_or (outgoing_in kind) (slice_get (with_changed change s.plain k) i) [])) (sym same)
        (subst (λ (o : Option PlainLists). Appended (lapses now) (option_map_or (outgoing_in kind) o []) (option_map_or (outgoing_in kind) (slice_get (with_changed change s.plain k) k) [])) (sym is)
        (subst (λ (o : Option PlainLists). Appended (lapses now) (outgoing_in kind p) (option_map_or (outgoing_in kind) o []))
        (sym (changed_there change s.plain k p is)) (behind p kind)))
    one kind j p is (inr other) = subst (λ (qs : List PlainLists). Appended (lapses now) (waiting kind s j) (option_map_or (outgoing_in kind) (slice_get qs j) []))
        (sym (changed_is change s.plain k p is))
        (subst (λ (o : Option PlainLists). Appended (lapses now) (waiting kind s j) (option_map_or (outgoing_in kind) o []))
        (sym (get-set_other s.plain k j (change p) other)) (appended_refl (lapses now) (waiting kind s j)))

    by : (kind : Lane) (j : ℕ) (o : Option PlainLists) → slice_get s.plain k ≡ o
        → Appended (lapses now) (waiting kind s j) (option_map_or (outgoing_in kind) (slice_get (with_changed change s.plain k) j) [])
    by kind j (Some p) is = one kind j p is (cases_eq j k)
    by kind j None is = subst (λ (qs : List PlainLists). Appended (lapses now) (waiting kind s j) (option_map_or (outgoing_in kind) (slice_get qs j) []))
        (sym (ap (λ (o : Option PlainLists). option_map_or (λ p. slice_set s.plain k (change p)) o s.plain) is)) (appended_refl (lapses now) (waiting kind s j))

-- Notices.

-- a message has no limit of time
pub record IsUnlimited (m : Message) : Type 0 where
  pub reach : m.reach ≡ UNLIMITED
  pub life : m.life ≡ UNLIMITED

not_received : (now : ℕ) (n : Message) → IsUnlimited n → cannot_be_received now n ≡ false
not_received now n u = ap (λ (l : ℕ). is_due n.sent l now) u.life

not_lapsed : (now : ℕ) (n : Message) → IsUnlimited n → lapses now (unsent n) ≡ false
not_lapsed now n u = ap (λ (l : ℕ). is_due n.sent l now) u.reach

put_appended : (now : ℕ) (n : Message) → IsUnlimited n → (l : Lists) (kind to : Lane)
    → Appended (cannot_be_received now) (messages_in kind l) (messages_in kind (put to n l))
put_appended now n u l lane.Durable lane.Durable = appended_one (cannot_be_received now) l.durable n (not_received now n u)
put_appended now n u l lane.Durable lane.Express = appended_refl (cannot_be_received now) l.durable
put_appended now n u l lane.Express lane.Durable = appended_refl (cannot_be_received now) l.express
put_appended now n u l lane.Express lane.Express = appended_one (cannot_be_received now) l.express n (not_received now n u)

pushed_appended : (now : ℕ) (n : Message) → IsUnlimited n → (p : PlainLists) (kind to : Lane)
    → Appended (lapses now) (outgoing_in kind p) (outgoing_in kind (pushed to n p))
pushed_appended now n u p lane.Durable lane.Durable = appended_one (lapses now) p.recoverable (unsent n) (not_lapsed now n u)
pushed_appended now n u p lane.Durable lane.Express = appended_refl (lapses now) p.recoverable
pushed_appended now n u p lane.Express lane.Durable = appended_refl (lapses now) p.express
pushed_appended now n u p lane.Express lane.Express = appended_one (lapses now) p.express (unsent n) (not_lapsed now n u)

placed_undue : (now : ℕ) (s : State) (t : Target) (n : Message) → IsUnlimited n → IsUndue now s (placed s t n)
placed_undue now s (Here None) n u = undue_refl now s
placed_undue now s (Here (Some number)) n u = place_undue now s (place.Queue number) (put (lane_of n.delivery) n)
    (λ is l kind. put_appended now n u l kind (lane_of n.delivery))
placed_undue now s (AtPeer k) n u = plain_undue now s k (pushed (lane_of n.delivery) n) (λ p kind. pushed_appended now n u p kind (lane_of n.delivery))
placed_undue now s Nowhere n u = undue_refl now s

taken_undue : (now : ℕ) (s : State) (d : Delivery) → IsUndue now s (number_taken s d)
taken_undue now s delivery.Express = record { queues = λ kind k. appended_refl _ (queued kind s k); plain = λ kind k. appended_refl _ (waiting kind s k); outs = refl }
taken_undue now s delivery.Recoverable = record { queues = λ kind k. appended_refl _ (queued kind s k); plain = λ kind k. appended_refl _ (waiting kind s k); outs = refl }
taken_undue now s delivery.Transactional = record { queues = λ kind k. appended_refl _ (queued kind s k); plain = λ kind k. appended_refl _ (waiting kind s k); outs = refl }

told_undue : (now : ℕ) (s : State) (t : Target) (n : Message) → IsUnlimited n → IsUndue now s (told s t n)
told_undue now s t n u = at (may_go s t n.delivery)
  where
    at : (b : Bool) → IsUndue now s (cond b (placed (number_taken s n.delivery) t n) s)
    at true = undue_trans now s (number_taken s n.delivery) (placed (number_taken s n.delivery) t n)
        (taken_undue now s n.delivery) (placed_undue now (number_taken s n.delivery) t n u)
    at false = undue_refl now s

admin_unlimited : (s : State) (m : Message) (class : Class) (now : ℕ) → IfSome (admin_about s m class now) IsUnlimited
admin_unlimited s m class now = at (number_left s (admin_delivery m.delivery))
  where
    made : (number : ℕ) (b : Bool) (admin : Option QueueName)
        → IfSome (cond b (option_map (λ a. notice_about m class (admin_delivery m.delivery) a (record { qm = s.identity.guid; number = number }) now) admin) None) IsUnlimited
    made number true None = tt
    made number true (Some a) = record { reach = refl; life = refl }
    made number false admin = tt

    at : (o : Option ℕ) → IfSome (option_and_then (λ number. admin_notice m class s.identity.guid number now) o) IsUnlimited
    at None = tt
    at (Some number) = made number (is_ordinary m && asks_for m class) m.admin

final_unlimited : (s : State) (peer : Identity) (m : Message) (class : Class) (now : ℕ) → IfSome (final_about s peer m class now) IsUnlimited
final_unlimited s peer m class now = at (number_left s delivery.Recoverable)
  where
    made : (number : ℕ) (b : Bool)
        → IfSome (cond b (Some (notice_about m class delivery.Recoverable (order_layer peer.host) (record { qm = s.identity.guid; number = number }) now)) None) IsUnlimited
    made number true = record { reach = refl; life = refl }
    made number false = tt

    at : (o : Option ℕ) → IfSome (option_and_then (λ number. final_notice m class s.identity.guid peer number now) o) IsUnlimited
    at None = tt
    at (Some number) = made number (final_is_due m class s.identity.guid)

admin_undue : (now : ℕ) (s : State) (m : Message) (class : Class) (moment : ℕ) → IsUndue now s (admin_told s m class moment)
admin_undue now s m class moment = at (admin_about s m class moment) (admin_unlimited s m class moment)
  where
    at : (o : Option Message) → IfSome o IsUnlimited → IsUndue now s (option_map_or (λ n. told s (resolved s n.destination) n) o s)
    at None u = undue_refl now s
    at (Some n) u = told_undue now s (resolved s n.destination) n u

final_undue : (now : ℕ) (s : State) (m : Message) (class : Class) (moment : ℕ) → IsUndue now s (final_told s m class moment)
final_undue now s m class moment = at (peer_known s m.id.qm)
  where
    tells : (k : ℕ) (o : Option Message) → IfSome o IsUnlimited → IsUndue now s (option_map_or (told s (AtPeer k)) o s)
    tells k None u = undue_refl now s
    tells k (Some n) u = told_undue now s (AtPeer k) n u

    to : (k : ℕ) (o : Option Identity) → IsUndue now s (option_map_or (λ peer. final_told_at s k peer m class moment) o s)
    to k None = undue_refl now s
    to k (Some peer) = tells k (final_about s peer m class moment) (final_unlimited s peer m class moment)

    at : (o : Option ℕ) → IsUndue now s (option_map_or (λ k. option_map_or (λ peer. final_told_at s k peer m class moment) (slice_get s.peers k) s) o s)
    at None = undue_refl now s
    at (Some k) = to k (slice_get s.peers k)

-- Dead letters, and all three.

buried_undue : (now : ℕ) (s : State) (m : Message) (class : Class) → IsUndue now s (buried s m class)
buried_undue now s m class = at ((is_ordinary m && is_negative class.0) && keeps_dead m && not (final_is_due m class s.identity.guid))
  where
    to : (b : Bool) → IsUndue now s (option_map_or (λ at. put_at s at m) (place_named s.places.queues (cond b named.DeadXact named.Dead)) s)
    to true = place_undue now s place.DeadXact (put (lane_of m.delivery) m) (λ is. absurd (true≢false (sym is)))
    to false = place_undue now s place.Dead (put (lane_of m.delivery) m) (λ is. absurd (true≢false (sym is)))

    at : (b : Bool) → IsUndue now s (option_map_or (λ at. put_at s at m)
        (option_and_then (place_named s.places.queues) (cond b (Some (cond (is_transactional m.delivery) named.DeadXact named.Dead)) None)) s)
    at true = to (is_transactional m.delivery)
    at false = undue_refl now s

pub meets_undue : (now : ℕ) (s : State) (m : Message) (class : Class) (moment : ℕ) → IsUndue now s (meets s m class moment)
meets_undue now s m class moment =
    let one = admin_told s m class moment in
    let two = final_told one m class moment in
    undue_trans now s one (buried two m class) (admin_undue now s m class moment)
    (undue_trans now one two (buried two m class) (final_undue now one m class moment) (buried_undue now two m class))
