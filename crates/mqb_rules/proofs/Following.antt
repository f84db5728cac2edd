-- What does not follow when a message meets a class.
use Rattle.std.proofs.Common.{refl, sym, ap, ◌∙◌, subst}
use Rattle.std.specs.Option.{option_map_or}
use Rattle.std.specs.Prelude.{◌&&◌, ◌≡◌, Bool, IfSome, IsSome, None, Option, Some, cond, false, not, option_and_then, slice_get, true, ℕ}
use Rattle.mqb_base.specs.Bits.{keeps_dead}
use Rattle.mqb_base.specs.Same.{same_guid}
use Rattle.mqb_base.specs.declared.class.Class.{Class}
use Rattle.mqb_base.specs.declared.class.TheConstants.Class.{REACHED_QUEUE}
use Rattle.mqb_base.specs.declared.ids.Guid.{Guid}
use Rattle.mqb_base.specs.declared.ids.Identity.{Identity}
use Rattle.mqb_base.specs.declared.message.Delivery.{Delivery}
use Rattle.mqb_base.specs.declared.message.Delivery.TheVariants as delivery
use Rattle.mqb_base.specs.declared.message.Message.{Message}
use Rattle.mqb_base.specs.declared.queues.Place.TheVariants as place
use Rattle.mqb_fate.specs.Asking.{final_is_due, goes_dead, is_ordinary, is_transactional}
use Rattle.mqb_fate.specs.Notices.{admin_delivery, admin_notice, final_notice, notice_about}
use Rattle.mqb_fate.specs.Orders.{order_layer}
use Rattle.mqb_queue.specs.Places.{place_named}
use Rattle.mqb_model.specs.declared.target.Target.{Target}
use Rattle.mqb_model.specs.declared.target.Target.TheVariants.{AtPeer, Here, Nowhere}
use Rattle.mqb_model.specs.rules.Notices.{admin_about, admin_told, buried, final_about, final_told, final_told_at, meets, told}
use Rattle.mqb_model.specs.rules.Numbers.{number_left}
use Rattle.mqb_model.specs.state.Places.{placed, put_at}
use Rattle.mqb_model.specs.state.Resolving.{peer_known}
use Rattle.mqb_model.specs.state.State.{State}
use Rattle.mqb_rules.specs.Following.{told_of}

-- a message that is put changes nothing of the manager itself
placed_own : (s : State) (t : Target) (m : Message) → (placed s t m).identity ≡ s.identity
placed_own s (Here None) m = refl
placed_own s (Here (Some number)) m = refl
placed_own s (AtPeer k) m = refl
placed_own s Nowhere m = refl

-- No final acknowledgement follows where none is due.

about_none : (s : State) (peer : Identity) (m : Message) (class : Class) (now : ℕ) → final_is_due m class s.identity.guid ≡ false → final_about s peer m class now ≡ None
about_none s peer m class now h = at (number_left s delivery.Recoverable)
  where
    at : (o : Option ℕ) → option_and_then (λ number. final_notice m class s.identity.guid peer number now) o ≡ None
    at None = refl
    at (Some number) = ap (λ b. cond b (Some (notice_about m class delivery.Recoverable (order_layer peer.host) (record { qm = s.identity.guid; number = number }) now)) None) h

pub no_final : (s : State) (m : Message) (class : Class) (now : ℕ) → final_is_due m class s.identity.guid ≡ false → final_told s m class now ≡ s
no_final s m class now h = at (peer_known s m.id.qm)
  where
    to : (k : ℕ) (o : Option Identity) → option_map_or (λ peer. final_told_at s k peer m class now) o s ≡ s
    to k None = refl
    to k (Some peer) = ap (λ o. option_map_or (told s (AtPeer k)) o s) (about_none s peer m class now h)

    at : (o : Option ℕ) → option_map_or (λ k. option_map_or (λ peer. final_told_at s k peer m class now) (slice_get s.peers k) s) o s ≡ s
    at None = refl
    at (Some k) = to k (slice_get s.peers k)

-- No dead letter follows where the message does not go into a dead-letter queue.
pub no_grave : (s : State) (m : Message) (class : Class) → goes_dead m class s.identity.guid ≡ None → buried s m class ≡ s
no_grave s m class h = ap (λ p. option_map_or (λ at. put_at s at m) (option_and_then (place_named s.places.queues) p) s) h

and_false : (b : Bool) → (b && false) ≡ false
and_false true = refl
and_false false = refl

-- a message that is put is no reason for a final acknowledgement
reached_final : (m : Message) (own : Guid) → final_is_due m REACHED_QUEUE own ≡ false
reached_final m own = and_false ((is_ordinary m && is_transactional m.delivery && not (same_guid m.id.qm own)) && keeps_dead m)

-- nor for a dead letter
reached_grave : (m : Message) (own : Guid) → goes_dead m REACHED_QUEUE own ≡ None
reached_grave m own = ap (λ b. cond (b && keeps_dead m && not (final_is_due m REACHED_QUEUE own)) (Some (cond (is_transactional m.delivery) place.DeadXact place.Dead)) None) (and_false (is_ordinary m))

-- an administration message alone follows
reached : (s : State) (m : Message) (now : ℕ) → meets s m REACHED_QUEUE now ≡ told_of s (admin_about s m REACHED_QUEUE now)
reached s m now = let one = admin_told s m REACHED_QUEUE now in
    ap (λ u. buried u m REACHED_QUEUE) (no_final one m REACHED_QUEUE now (reached_final m one.identity.guid))
    ∙ no_grave one m REACHED_QUEUE (reached_grave m one.identity.guid)

-- A message that is put takes no number.

left_placed : (s : State) (t : Target) (m : Message) (d : Delivery) → number_left (placed s t m) d ≡ number_left s d
left_placed s (Here None) m d = refl
left_placed s (Here (Some number)) m delivery.Express = refl
left_placed s (Here (Some number)) m delivery.Recoverable = refl
left_placed s (Here (Some number)) m delivery.Transactional = refl
left_placed s (AtPeer k) m delivery.Express = refl
left_placed s (AtPeer k) m delivery.Recoverable = refl
left_placed s (AtPeer k) m delivery.Transactional = refl
left_placed s Nowhere m d = refl

-- so a notice that had a number left has one yet
pub still_left : (s : State) (t : Target) (m : Message) (o : Option Message) → IfSome o (λ n. IsSome (number_left s n.delivery))
    → IfSome o (λ n. IsSome (number_left (placed s t m) n.delivery))
still_left s t m None h = tt
still_left s t m (Some n) h = subst (λ (o : Option ℕ). IsSome o) (sym (left_placed s t m n.delivery)) h

-- and the administration message is known before the message is put
about_before : (s : State) (t : Target) (m : Message) (now : ℕ) → admin_about (placed s t m) m REACHED_QUEUE now ≡ admin_about s m REACHED_QUEUE now
about_before s t m now =
    ap (λ (o : Option ℕ). option_and_then (λ number. admin_notice m REACHED_QUEUE (placed s t m).identity.guid number now) o) (left_placed s t m (admin_delivery m.delivery))
    ∙ ap (λ (i : Identity). option_and_then (λ number. admin_notice m REACHED_QUEUE i.guid number now) (number_left s (admin_delivery m.delivery))) (placed_own s t m)

pub reached_put : (s : State) (t : Target) (m : Message) (now : ℕ)
    → told_of (placed s t m) (admin_about s m REACHED_QUEUE now) ≡ meets (placed s t m) m REACHED_QUEUE now
reached_put s t m now = ap (told_of (placed s t m)) (sym (about_before s t m now)) ∙ sym (reached (placed s t m) m now)
