-- What follows when a message meets a class. Puts, takes, purges, refusals, expiries, lapses and
-- sweeps all cite this.
use Rattle.std.specs.Option.{option_map_or}
use Rattle.std.specs.Prelude.{Bool, None, Option, Some, if◌then◌else◌, is_none, option_and_then}
use Rattle.std.specs.Prelude.{slice_get, true, ℕ}
use Rattle.mqb_base.specs.declared.class.Class.{Class}
use Rattle.mqb_base.specs.declared.class.TheConstants.Class.{REACHED_QUEUE}
use Rattle.mqb_base.specs.declared.ids.Identity.{Identity}
use Rattle.mqb_base.specs.declared.message.Delivery.{Delivery}
use Rattle.mqb_base.specs.declared.message.Delivery.TheVariants.{Recoverable}
use Rattle.mqb_base.specs.declared.message.Message.{Message}
use Rattle.mqb_base.specs.declared.queues.EntryPlace.{EntryPlace}
use Rattle.mqb_fate.specs.Asking.{goes_dead}
use Rattle.mqb_fate.specs.Notices.{admin_delivery, admin_notice, final_notice}
use Rattle.mqb_queue.specs.Places.{place_named}
use Rattle.mqb_model.specs.declared.target.Target.{Target}
use Rattle.mqb_model.specs.declared.target.Target.TheVariants.{AtPeer}
use Rattle.mqb_model.specs.rules.Arrivals.{target_refusal}
use Rattle.mqb_model.specs.rules.Numbers.{number_left, number_taken}
use Rattle.mqb_model.specs.state.Places.{placed, put_at}
use Rattle.mqb_model.specs.state.Resolving.{peer_known, resolved}
use Rattle.mqb_model.specs.state.State.{State}

-- a notice may go to a peer, and into a queue here that takes it
abbrev pub may_go : State → Target → Delivery → Bool
may_go s (AtPeer k) delivery = true
may_go s target delivery = is_none (target_refusal s target delivery)

-- a notice takes its number and goes, or is dropped and takes none
abbrev pub told : State → Target → Message → State
told s target notice = if may_go s target notice.delivery
    then placed (number_taken s notice.delivery) target notice
    else s

-- the administration message that follows, where a number is left for it
abbrev pub admin_about : State → Message → Class → ℕ → Option Message
admin_about s m class now =
    option_and_then (λ number. admin_notice m class s.identity.guid number now)
    (number_left s (admin_delivery m.delivery))

-- it goes where the message's admin name leads
abbrev pub admin_told : State → Message → Class → ℕ → State
admin_told s m class now = option_map_or (λ notice. told s (resolved s notice.destination) notice)
    (admin_about s m class now) s

-- the final acknowledgement to a peer that follows, where a number is left for it
abbrev pub final_about : State → Identity → Message → Class → ℕ → Option Message
final_about s peer m class now =
    option_and_then (λ number. final_notice m class s.identity.guid peer number now)
    (number_left s Recoverable)

-- it goes to the peer at an index
abbrev pub final_told_at : State → ℕ → Identity → Message → Class → ℕ → State
final_told_at s k peer m class now =
    option_map_or (told s (AtPeer k)) (final_about s peer m class now) s

-- it goes to the peer that the message came from
abbrev pub final_told : State → Message → Class → ℕ → State
final_told s m class now = option_map_or (λ k.
    option_map_or (λ peer. final_told_at s k peer m class now) (slice_get s.peers k) s)
    (peer_known s m.id.qm) s

-- the dead-letter queue to which a message goes
abbrev pub dead_place : State → Message → Class → Option EntryPlace
dead_place s m class =
    option_and_then (place_named s.places.queues) (goes_dead m class s.identity.guid)

-- the message goes there
abbrev pub buried : State → Message → Class → State
buried s m class = option_map_or (λ at. put_at s at m) (dead_place s m class) s

-- A message meets a class: an administration message, a final acknowledgement and a dead letter may
-- follow, in this order.
abbrev pub meets : State → Message → Class → ℕ → State
meets s m class now = buried (final_told (admin_told s m class now) m class now) m class

-- a message arrives: it is put and meets the class of that, or it meets that of its refusal
abbrev pub arrived : State → Message → ℕ → Option Class → State
arrived s m now None = meets (placed s (resolved s m.destination) m) m REACHED_QUEUE now
arrived s m now (Some class) = meets s m class now
