-- Each event can be played: a choice may be made in it, and what is answered is told.
use Rattle.std.proofs.Common.{◌≡◌, Bool, true, false, None, Option, Some, refl, sym, ap, subst, ℕ}
use Rattle.std.specs.Prelude.{Err, IsSome, IsTrue, Ok, Result, if◌then◌else◌, is_some, length, not}
use Rattle.mqb_replies.specs.Asked.{CheckpointsAreReplied, RequestsAreReplied}
use Rattle.mqb_packet.specs.declared.packet.Packet.{Packet}
use Rattle.mqb_queue.specs.Places.{numbered}
use Rattle.mqb_history.specs.Orderly.{IsOrderly}
use Rattle.mqb_model.specs.calls.Link.{resend}
use Rattle.mqb_model.specs.calls.pump.Pump.{pump}
use Rattle.mqb_model.specs.declared.faults.PumpFault.{PumpFault}
use Rattle.mqb_model.specs.managers.Manager.{Manager, is_down}
use Rattle.mqb_network.specs.Answers.{lines_at, only}
use Rattle.mqb_network.specs.Changes.{dropped, ended, succeeded_at}
use Rattle.mqb_network.specs.Choices.{Choice, Lost, Well}
use Rattle.mqb_network.specs.Connecting.{disconnect, resend_by}
use Rattle.mqb_network.specs.Courses.{Course, course_from, moved}
use Rattle.mqb_network.specs.Events as network_event
use Rattle.mqb_network.specs.Delivering.{deliver_packet, delivery_reply, drop_packet, passed}
use Rattle.mqb_network.specs.Network.{Network, Note, is_connected, manager_at}
use Rattle.mqb_network.specs.Replies.{Delivery}
use Rattle.mqb_network.specs.Replies as network
use Rattle.mqb_network.specs.Restarting.{opened}
use Rattle.mqb_network.specs.Runs.{answer, may}
use Rattle.mqb_network.specs.Sending.{flow, flow_by}
use Rattle.mqb_runs.specs.Events.{event_of}
use Rattle.mqb_runs.specs.Requests.{actor, request_of}
use Rattle.mqb_runs.specs.lemmas.Asked.{asked_so}
use Rattle.mqb_runs.specs.Hosts.{hosts}
use Rattle.mqb_script.specs.Formed.{IsFormed}
use Rattle.mqb_script.specs.declared.grammar.Grammar.TheVariants.{Pair}
use Rattle.mqb_script.specs.declared.events.Event.{Event}
use Rattle.mqb_script.specs.declared.events.Event.TheVariants as event
use Rattle.mqb_transcript.specs.declared.replies.Reply.TheVariants as reply
use Rattle.mqb_run_laws.proofs.Calls.{answered, rewritten}
use Rattle.mqb_run_laws.proofs.Connects.{connect_told}
use Rattle.mqb_run_laws.proofs.Pumps.{pump_told}
use Rattle.mqb_run_laws.proofs.Tellable.{IsTold}

-- The events that are no call.

delivery_told : (d : Delivery) → IsTold (delivery_reply d)
delivery_told network.Gone = (_, refl)
delivery_told d = (_, refl)

deliver_told : (note : Option Note) (p : Option Packet) (now : ℕ) (c : Course) → IsTold (deliver_packet note p now Well c).reply
deliver_told (Some note) (Some p) now c = delivery_told (passed note p now Well c).delivery
deliver_told None p now c = (reply.NoPacket, refl)
deliver_told (Some note) None now c = (reply.NoPacket, refl)

drop_told : (k : ℕ) (c : Course) → IsTold (drop_packet k c).reply
drop_told k c = by (is_some (numbered c.network.notes k))
  where
    by : (there : Bool) → IsTold (if there then record { reply = network.Dropped; after = moved (dropped k) c } else only c network.NoPacket).reply
    by true = (reply.Dropped, refl)
    by false = (reply.NoPacket, refl)

disconnect_told : (i : ℕ) (c : Course) → IsTold (disconnect i c).reply
disconnect_told i c = by (is_connected c.network i)
  where
    by : (linked : Bool) → IsTold (if linked then record { reply = network.Disconnected; after = moved (ended i) c } else only c network.Unlinked).reply
    by true = (reply.Disconnected, refl)
    by false = (reply.Unlinked, refl)

resend_told : (i : ℕ) (c : Course) → IsTold (resend_by i c).reply
resend_told i c = by (is_connected c.network i)
  where
    by : (linked : Bool) → IsTold (if linked
        then record { reply = network.Resent; after = moved (succeeded_at i (resend (manager_at c.network i))) c }
        else only c network.Unlinked).reply
    by true = (reply.Done, refl)
    by false = (reply.Unlinked, refl)

flow_told : (i now : ℕ) (c : Course) → IsTold (flow i now Well c).reply
flow_told i now c = by (pump (manager_at c.network i) now).answer
  where
    by : (r : Result ℕ PumpFault) → IsTold (flow_by i now (pump (manager_at c.network i) now) Well c r).reply
    by (Ok count) = (_, refl)
    by (Err why) = pump_told (manager_at c.network i) now (length c.network.notes) (lines_at i (pump (manager_at c.network i) now) c)

opened_told : (n : Network) (i : ℕ) → IsTold (opened n i)
opened_told n i = by (is_down (manager_at n i))
  where
    by : (down : Bool) → IsTold (if down then network.OpenedLost else network.Opened)
    by true = (reply.OpenedLost, refl)
    by false = (reply.Opened, refl)

module _ (law : RequestsAreReplied) (based : CheckpointsAreReplied) (c : Course) (orderly : IsOrderly hosts c) where
  -- an event can be played
  pub record CanBePlayed (e : Event) : Type 0 where
    pub choice : Choice
    pub may_be : IsTrue (may c (event_of e) choice)
    pub tells : IsTold (answer c (record { event = event_of e; choice = choice })).reply

  -- with no failure of a disk
  goes_well : (e : Event) → IsTrue (may c (event_of e) Well) → IsTold (answer c (record { event = event_of e; choice = Well })).reply → CanBePlayed e
  goes_well e may_be tells = record { choice = Well; may_be = may_be; tells = tells }

  abbrev at : ℕ → Manager
  at i = manager_at c.network i

  request_played : (e : Event) → IsSome (request_of e) → CanBePlayed e
  request_played e some =
      let so = asked_so e (request_of e) refl some in
      goes_well e (subst (λ (a : network_event.Event). IsTrue (may c a Well)) (sym so.2) refl)
      (subst (λ (a : network_event.Event). IsTold (answer c (record { event = a; choice = Well })).reply) (sym so.2) (answered law (manager_at c.network (actor e)) so.0))

  pub can_be_played : (e : Event) → IsFormed Pair e → CanBePlayed e
  can_be_played (event.Connect i j now own other) formed = goes_well (event.Connect i j now own other) refl (connect_told c orderly i j formed.0 now own other)
  can_be_played (event.Disconnect manager) formed = goes_well (event.Disconnect manager) refl (disconnect_told manager (course_from c.network))
  can_be_played (event.Pump manager now) formed = goes_well (event.Pump manager now) refl (pump_told (at manager) now (length c.network.notes) _)
  can_be_played (event.Deliver packet now) formed = goes_well (event.Deliver packet now) refl (deliver_told (numbered c.network.notes packet) (numbered c.sent packet) now (course_from c.network))
  can_be_played (event.Drop packet) formed = goes_well (event.Drop packet) refl (drop_told packet (course_from c.network))
  can_be_played (event.Flow manager now) formed = goes_well (event.Flow manager now) refl (flow_told manager now (course_from c.network))
  can_be_played (event.Resend manager) formed = goes_well (event.Resend manager) refl (resend_told manager (course_from c.network))
  can_be_played (event.Checkpoint manager) formed = goes_well (event.Checkpoint manager) refl (rewritten based (at manager))
  can_be_played (event.Arm manager call mode) formed = goes_well (event.Arm manager call mode) refl (reply.Armed, refl)
  can_be_played (event.Restart manager pick) formed = by (is_down (at manager)) refl
    where
      by : (down : Bool) → is_down (at manager) ≡ down → CanBePlayed (event.Restart manager pick)
      by true is = record { choice = Lost; may_be = is; tells = opened_told (ended manager c.network) manager }
      by false is = goes_well (event.Restart manager pick) (ap not is) (opened_told (ended manager c.network) manager)
  can_be_played e formed = request_played e refl
