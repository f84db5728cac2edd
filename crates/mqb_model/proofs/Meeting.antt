-- What follows when a durable message meets a class is durable, and reads nothing else.
use Rattle.std.proofs.Common.{refl, ap, ◌∙◌}
use Rattle.std.specs.Option.{option_map_or}
use Rattle.std.specs.Prelude.{◌&&◌, ◌≡◌, Bool, IfSome, None, Option, Some, cond, false, is_none, option_and_then, option_map, slice_get, true, ℕ}
use Rattle.mqb_base.specs.declared.class.Class.{Class}
use Rattle.mqb_base.specs.declared.class.TheConstants.Class.{REACHED_QUEUE}
use Rattle.mqb_base.specs.declared.ids.Identity.{Identity}
use Rattle.mqb_base.specs.declared.message.Delivery.{Delivery}
use Rattle.mqb_base.specs.declared.message.Delivery.TheVariants as delivery
use Rattle.mqb_base.specs.declared.message.Message.{Message}
use Rattle.mqb_base.specs.declared.queue_names.QueueName.{QueueName}
use Rattle.mqb_base.specs.declared.queues.EntryPlace.{EntryPlace}
use Rattle.mqb_base.specs.declared.queues.Place.{Place}
use Rattle.mqb_fate.specs.Asking.{asks_for, final_is_due, goes_dead, is_ordinary}
use Rattle.mqb_fate.specs.Notices.{admin_delivery, admin_notice, final_notice, notice_about}
use Rattle.mqb_fate.specs.Orders.{order_layer}
use Rattle.mqb_queue.specs.Places.{place_named}
use Rattle.mqb_model.specs.declared.target.Target.{Target}
use Rattle.mqb_model.specs.declared.target.Target.TheVariants.{AtPeer, Here, Nowhere}
use Rattle.mqb_model.specs.rules.Notices.{admin_about, admin_told, arrived, buried, final_about, final_told, final_told_at, may_go, meets, told}
use Rattle.mqb_model.specs.rules.Numbers.{number_left, number_taken}
use Rattle.mqb_model.specs.state.Durable.{durable}
use Rattle.mqb_model.specs.state.Places.{is_express, placed, put_at}
use Rattle.mqb_model.specs.state.Resolving.{peer_known, resolved}
use Rattle.mqb_model.specs.state.State.{State}
use Rattle.mqb_model.proofs.Lenses.{clash, place_same, placed_same, put_same, refusal_same, resolved_same}

may_same : (s : State) (t : Target) (d : Delivery) → is_express d ≡ false → may_go (durable s) t d ≡ may_go s t d
may_same s (AtPeer k) d h = refl
may_same s (Here queue) d h = ap is_none (refusal_same s (Here queue) d h)
may_same s Nowhere d h = refl

taken_same : (s : State) (d : Delivery) → is_express d ≡ false → number_taken (durable s) d ≡ durable (number_taken s d)
taken_same s delivery.Express h = absurd (clash h)
taken_same s delivery.Recoverable h = refl
taken_same s delivery.Transactional h = refl

left_same : (s : State) (d : Delivery) → is_express d ≡ false → number_left (durable s) d ≡ number_left s d
left_same s delivery.Express h = absurd (clash h)
left_same s delivery.Recoverable h = refl
left_same s delivery.Transactional h = refl

told_same : (s : State) (t : Target) (n : Message) → is_express n.delivery ≡ false → told (durable s) t n ≡ durable (told s t n)
told_same s t n h = ap (λ b. cond b (placed (number_taken (durable s) n.delivery) t n) (durable s)) (may_same s t n.delivery h)
    ∙ ap (λ x. cond (may_go s t n.delivery) x (durable s)) (ap (λ u. placed u t n) (taken_same s n.delivery h) ∙ placed_same (number_taken s n.delivery) t n h)
    ∙ at (may_go s t n.delivery)
  where
    at : (b : Bool) → cond b (durable (placed (number_taken s n.delivery) t n)) (durable s) ≡ durable (cond b (placed (number_taken s n.delivery) t n) s)
    at true = refl
    at false = refl

-- Administration messages.

admin_lane : (d : Delivery) → is_express d ≡ false → is_express (admin_delivery d) ≡ false
admin_lane delivery.Express h = absurd (clash h)
admin_lane delivery.Recoverable h = refl
admin_lane delivery.Transactional h = refl

pub admin_durable : (s : State) (m : Message) (class : Class) (now : ℕ) → is_express m.delivery ≡ false
    → IfSome (admin_about s m class now) (λ n. is_express n.delivery ≡ false)
admin_durable s m class now h = at (number_left s (admin_delivery m.delivery))
  where
    made : (number : ℕ) (b : Bool) (admin : Option QueueName)
        → IfSome (cond b (option_map (λ a. notice_about m class (admin_delivery m.delivery) a (record { qm = s.identity.guid; number = number }) now) admin) None)
        (λ n. is_express n.delivery ≡ false)
    made number true None = tt
    made number true (Some a) = admin_lane m.delivery h
    made number false admin = tt

    at : (o : Option ℕ) → IfSome (option_and_then (λ number. admin_notice m class s.identity.guid number now) o) (λ n. is_express n.delivery ≡ false)
    at None = tt
    at (Some number) = made number (is_ordinary m && asks_for m class) m.admin

admin_same : (s : State) (m : Message) (class : Class) (now : ℕ) → is_express m.delivery ≡ false → admin_told (durable s) m class now ≡ durable (admin_told s m class now)
admin_same s m class now h = ap (λ o. option_map_or (λ n. told (durable s) (resolved (durable s) n.destination) n) (option_and_then (λ number. admin_notice m class s.identity.guid number now) o) (durable s))
    (left_same s (admin_delivery m.delivery) (admin_lane m.delivery h)) ∙ at (admin_about s m class now) (admin_durable s m class now h)
  where
    at : (o : Option Message) → IfSome o (λ n. is_express n.delivery ≡ false)
        → option_map_or (λ n. told (durable s) (resolved (durable s) n.destination) n) o (durable s) ≡ durable (option_map_or (λ n. told s (resolved s n.destination) n) o s)
    at None d = refl
    at (Some n) d = ap (λ t. told (durable s) t n) (resolved_same s n.destination) ∙ told_same s (resolved s n.destination) n d

-- Final acknowledgements.

pub final_durable : (s : State) (peer : Identity) (m : Message) (class : Class) (now : ℕ) → IfSome (final_about s peer m class now) (λ n. is_express n.delivery ≡ false)
final_durable s peer m class now = at (number_left s delivery.Recoverable)
  where
    made : (number : ℕ) (b : Bool)
        → IfSome (cond b (Some (notice_about m class delivery.Recoverable (order_layer peer.host) (record { qm = s.identity.guid; number = number }) now)) None) (λ n. is_express n.delivery ≡ false)
    made number true = refl
    made number false = tt

    at : (o : Option ℕ) → IfSome (option_and_then (λ number. final_notice m class s.identity.guid peer number now) o) (λ n. is_express n.delivery ≡ false)
    at None = tt
    at (Some number) = made number (final_is_due m class s.identity.guid)

final_at_same : (s : State) (k : ℕ) (peer : Identity) (m : Message) (class : Class) (now : ℕ)
    → final_told_at (durable s) k peer m class now ≡ durable (final_told_at s k peer m class now)
final_at_same s k peer m class now = at (final_about s peer m class now) (final_durable s peer m class now)
  where
    at : (o : Option Message) → IfSome o (λ n. is_express n.delivery ≡ false)
        → option_map_or (told (durable s) (AtPeer k)) o (durable s) ≡ durable (option_map_or (told s (AtPeer k)) o s)
    at None d = refl
    at (Some n) d = told_same s (AtPeer k) n d

final_same : (s : State) (m : Message) (class : Class) (now : ℕ) → final_told (durable s) m class now ≡ durable (final_told s m class now)
final_same s m class now = at (peer_known s m.id.qm)
  where
    to : (k : ℕ) (o : Option Identity) → option_map_or (λ peer. final_told_at (durable s) k peer m class now) o (durable s)
        ≡ durable (option_map_or (λ peer. final_told_at s k peer m class now) o s)
    to k None = refl
    to k (Some peer) = final_at_same s k peer m class now

    at : (o : Option ℕ) → option_map_or (λ k. option_map_or (λ peer. final_told_at (durable s) k peer m class now) (slice_get s.peers k) (durable s)) o (durable s)
        ≡ durable (option_map_or (λ k. option_map_or (λ peer. final_told_at s k peer m class now) (slice_get s.peers k) s) o s)
    at None = refl
    at (Some k) = to k (slice_get s.peers k)

-- Dead letters, and all three.

buried_same : (s : State) (m : Message) (class : Class) → is_express m.delivery ≡ false → buried (durable s) m class ≡ durable (buried s m class)
buried_same s m class h = at (goes_dead m class s.identity.guid)
  where
    put : (o : Option EntryPlace) → option_map_or (λ at. put_at (durable s) at m) o (durable s) ≡ durable (option_map_or (λ at. put_at s at m) o s)
    put None = refl
    put (Some at) = put_same s at m h

    at : (o : Option Place) → option_map_or (λ at. put_at (durable s) at m) (option_and_then (place_named (durable s).places.queues) o) (durable s)
        ≡ durable (option_map_or (λ at. put_at s at m) (option_and_then (place_named s.places.queues) o) s)
    at None = refl
    at (Some p) = ap (λ o. option_map_or (λ at. put_at (durable s) at m) o (durable s)) (place_same s p) ∙ put (place_named s.places.queues p)

pub meets_same : (s : State) (m : Message) (class : Class) (now : ℕ) → is_express m.delivery ≡ false → meets (durable s) m class now ≡ durable (meets s m class now)
meets_same s m class now h = let one = admin_told s m class now in let two = final_told one m class now in
    ap (λ u. buried (final_told u m class now) m class) (admin_same s m class now h)
    ∙ ap (λ u. buried u m class) (final_same one m class now) ∙ buried_same two m class h

pub arrived_same : (s : State) (m : Message) (now : ℕ) (refusal : Option Class) → is_express m.delivery ≡ false → arrived (durable s) m now refusal ≡ durable (arrived s m now refusal)
arrived_same s m now None h = ap (λ t. meets (placed (durable s) t m) m REACHED_QUEUE now) (resolved_same s m.destination)
    ∙ ap (λ u. meets u m REACHED_QUEUE now) (placed_same s (resolved s m.destination) m h) ∙ meets_same (placed s (resolved s m.destination) m) m REACHED_QUEUE now h
arrived_same s m now (Some class) h = meets_same s m class now h
