-- What a record does to a state it does to what a store stands for.
use Rattle.std.proofs.Common.{refl, ap, sym, ◌∙◌}
use Rattle.std.proofs.lemmas.List.{map-append}
use Rattle.std.specs.Option.{option_map_or}
use Rattle.std.specs.Prelude.{◌&&◌, ◌++◌, ◌==◌, ◌∷◌, ◌≡◌, [], Bool, List, None, Option, Some, cond, false, fold, true, ℕ}
use Rattle.mqb_base.specs.Bits.{keeps_copy}
use Rattle.mqb_base.specs.declared.class.TheConstants.Class.{BAD_DESTINATION, REACHED_QUEUE, REACH_TIMEOUT}
use Rattle.mqb_base.specs.declared.heads.TxHead.{TxHead}
use Rattle.mqb_base.specs.declared.ids.Identity.{Identity}
use Rattle.mqb_base.specs.declared.ledger.Line.{Line}
use Rattle.mqb_base.specs.declared.ledger.Line.TheVariants as line
use Rattle.mqb_base.specs.declared.message.Message.{Message}
use Rattle.mqb_base.specs.declared.queues.EntryPlace.TheVariants as place
use Rattle.mqb_base.specs.declared.queues.QueuePlan.{QueuePlan}
use Rattle.mqb_entries.specs.declared.members.Mark.{Mark}
use Rattle.mqb_fate.specs.Orders.{names_order_layer}
use Rattle.mqb_orders.specs.Rows.{Row}
use Rattle.mqb_packet.specs.declared.packet.UserPacket.{UserPacket}
use Rattle.mqb_plain.specs.Lists.{unsent}
use Rattle.mqb_plain.specs.Plain.{PlainLists, no_plain}
use Rattle.mqb_plain.specs.declared.outgoing.Outgoing.{Outgoing}
use Rattle.mqb_queue.specs.Places.{Queue, new_queue}
use Rattle.mqb_model.specs.declared.target.Target.{Target}
use Rattle.mqb_model.specs.declared.target.Target.TheVariants.{AtPeer, Here, Nowhere}
use Rattle.mqb_model.specs.laws.Durable.{StepsAreDurable, durable_effect}
use Rattle.mqb_model.specs.records.Decisions.{decided_line, message_decided, message_stored, stored_line, with_decided}
use Rattle.mqb_model.specs.records.Offered.{mark_raised, offered_effect}
use Rattle.mqb_model.specs.records.Peer.{with_new_queue, with_peer}
use Rattle.mqb_model.specs.records.Plain.{plain_effect}
use Rattle.mqb_model.specs.records.Releases.{has_recoverable, is_released_by, message_released, without_recoverable, without_released}
use Rattle.mqb_model.specs.rules.Arrivals.{target_refusal, refusal_of, storing_refusal}
use Rattle.mqb_model.specs.rules.Effects.{Effect, begun, joined, with_line}
use Rattle.mqb_model.specs.rules.Notices.{arrived, meets}
use Rattle.mqb_model.specs.rules.Numbers.{numbers_taken, own_id}
use Rattle.mqb_model.specs.rules.Sends.{committed_line, committed_to, delivered, journalled, message_sent, plain_sent}
use Rattle.mqb_model.specs.rules.Sequences.{join, new_sequence, sequence_for, sequence_in_use, with_kept, with_sequence}
use Rattle.mqb_model.specs.state.Durable.{durable, durable_places, durable_plain, durable_queue}
use Rattle.mqb_model.specs.state.Places.{is_express, placed, put_at}
use Rattle.mqb_model.specs.state.Resolving.{is_for_order_layer, is_here, resolved}
use Rattle.mqb_model.specs.state.Rows.{with_row}
use Rattle.mqb_model.specs.state.State.{State}
use Rattle.mqb_model.proofs.Lenses.{placed_same, put_same, refusal_same, resolved_same}
use Rattle.mqb_model.proofs.Mapped.{any_mapped, first_changed_mapped, without_mapped}
use Rattle.mqb_model.proofs.Meeting.{arrived_same, meets_same}

-- the state and the lines, each by itself
pub effect_same : (e f : Effect) → e.state ≡ f.state → e.lines ≡ f.lines → e ≡ f
effect_same e f state lines = ap (λ s. with_state s) state ∙ ap (λ l. with_lines l) lines
  where
    with_state : State → Effect
    with_state s = record { state = s; lines = e.lines }

    with_lines : List Line → Effect
    with_lines l = record { state = f.state; lines = l }

-- Peers, queues and marks.

pub peer_same : (s : State) (peer : Identity) → begun (with_peer (durable s) peer) ≡ durable_effect (begun (with_peer s peer))
peer_same s peer = ap with_plain_lists (sym (map-append durable_plain s.plain (no_plain ∷ [])))
  where
    with_plain_lists : List PlainLists → Effect
    with_plain_lists ps = begun (record (durable s) { peers = s.peers ++ peer ∷ []; plain = ps })

pub queue_same : (s : State) (plan : QueuePlan) → begun (with_new_queue (durable s) plan) ≡ durable_effect (begun (with_new_queue s plan))
queue_same s plan = ap with_queues (sym (map-append durable_queue s.places.queues (new_queue plan ∷ [])))
  where
    with_queues : List Queue → Effect
    with_queues qs = begun (record (durable s) { places = record (durable_places s.places) { queues = qs } })

marks_same : (s : State) (marks : List Mark) → fold mark_raised (durable s) marks ≡ durable (fold mark_raised s marks)
marks_same s [] = refl
marks_same s (mark ∷ marks) = marks_same (mark_raised s mark) marks

pub offered_same : (s : State) (marks : List Mark) → offered_effect (durable s) marks ≡ durable_effect (offered_effect s marks)
offered_same s marks = ap begun (marks_same s marks)

-- Sends.

journalled_same : (s : State) (m : Message) → is_express m.delivery ≡ false → journalled (durable s) m ≡ durable (journalled s m)
journalled_same s m h = at (keeps_copy m)
  where
    at : (b : Bool) → cond b (put_at (durable s) place.Journal m) (durable s) ≡ durable (cond b (put_at s place.Journal m) s)
    at true = put_same s place.Journal m h
    at false = refl

here_same : (s : State) (t : Target) (m : Message) (now : ℕ) → is_express m.delivery ≡ false
    → meets (placed (durable s) t m) m REACHED_QUEUE now ≡ durable (meets (placed s t m) m REACHED_QUEUE now)
here_same s t m now h = ap (λ u. meets u m REACHED_QUEUE now) (placed_same s t m h) ∙ meets_same (placed s t m) m REACHED_QUEUE now h

delivered_same : (s : State) (t : Target) (m : Message) (now : ℕ) → is_express m.delivery ≡ false → delivered (durable s) t m now ≡ durable (delivered s t m now)
delivered_same s (AtPeer k) m now h = placed_same s (AtPeer k) m h
delivered_same s (Here queue) m now h = here_same s (Here queue) m now h
delivered_same s Nowhere m now h = here_same s Nowhere m now h

plain_sent_same : (s : State) (m : Message) (now : ℕ) → is_express m.delivery ≡ false → plain_sent (durable s) m now ≡ durable (plain_sent s m now)
plain_sent_same s m now h = ap (λ t. delivered (journalled (durable s) m) t m now) (resolved_same s m.destination)
    ∙ ap (λ u. delivered u (resolved s m.destination) m now) (journalled_same s m h)
    ∙ delivered_same (journalled s m) (resolved s m.destination) m now h

pub plain_same : (s : State) (now : ℕ) (p : UserPacket) → is_express p.message.delivery ≡ false → plain_effect (durable s) now p ≡ durable_effect (plain_effect s now p)
plain_same s now p h = effect_same (plain_effect (durable s) now p) (durable_effect (plain_effect s now p))
    (plain_sent_same (numbers_taken s 1) p.message now h)
    (ap (λ t. cond (is_here t) (line.Local p.message.id ∷ []) []) (resolved_same s p.message.destination))

-- Sequences.

join_same : (s : State) (k now : ℕ) (m : Message) → join (durable s) k now m ≡ durable (join s k now m)
join_same s k now m = at (sequence_in_use s k m.destination)
  where
    at : (o : Option Row) → option_map_or (λ row. with_row (with_kept m) (durable s) row.sequence.ordinal) o (with_sequence (durable s) (with_kept m (new_sequence s k m.destination now)))
        ≡ durable (option_map_or (λ row. with_row (with_kept m) s row.sequence.ordinal) o (with_sequence s (with_kept m (new_sequence s k m.destination now))))
    at None = refl
    at (Some row) = refl

committed_same : (now : ℕ) (s : State) (t : Target) (m : Message) → is_express m.delivery ≡ false → committed_to now (durable s) t m ≡ durable_effect (committed_to now s t m)
committed_same now s (AtPeer k) m h = ap (λ u. with_line (committed_line s (sequence_for s k m.destination now) m) u) (join_same s k now m)
committed_same now s (Here queue) m h = ap (λ u. with_line (line.Local m.id) u) (delivered_same s (Here queue) m now h)
committed_same now s Nowhere m h = ap (λ u. with_line (line.Local m.id) u) (delivered_same s Nowhere m now h)

pub message_sent_same : (now : ℕ) (s : State) (m : Message) → is_express m.delivery ≡ false → message_sent now (durable s) m ≡ durable_effect (message_sent now s m)
message_sent_same now s m h = ap (λ t. committed_to now (journalled (durable s) m) t m) (resolved_same s m.destination)
    ∙ ap (λ u. committed_to now u (resolved s m.destination) m) (journalled_same s m h)
    ∙ committed_same now (journalled s m) (resolved s m.destination) m h

-- Releases.

pub released_by_same : (s : State) (number : ℕ) (p : PlainLists) → has_recoverable (durable s) number (durable_plain p) ≡ has_recoverable s number p
released_by_same s number p = any_mapped (is_released_by s number) (λ (o : Outgoing). unsent o.message) p.recoverable

without_recoverable_same : (s : State) (number : ℕ) (p : PlainLists) → without_recoverable (durable s) number (durable_plain p) ≡ durable_plain (without_recoverable s number p)
without_recoverable_same s number p = ap with_items (without_mapped (is_released_by s number) (is_released_by s number) (λ (o : Outgoing). unsent o.message) p.recoverable (λ o. refl))
  where
    with_items : List Outgoing → PlainLists
    with_items items = record { recoverable = items; express = [] }

without_released_same : (s : State) (number : ℕ) → without_released (durable s) number ≡ durable (without_released s number)
without_released_same s number = ap (λ ps. record (durable s) { plain = ps })
    (first_changed_mapped durable_plain (without_recoverable s number) (without_recoverable (durable s) number) (has_recoverable (durable s) number) (has_recoverable s number) s.plain
    (released_by_same s number) (without_recoverable_same s number))

pub released_same : (e : Effect) (number : ℕ) → message_released (durable_effect e) number ≡ durable_effect (message_released e number)
released_same e number = ap (λ u. joined e (with_line (line.Released (own_id e.state number)) u)) (without_released_same e.state number)

pub releases_same : (e : Effect) (numbers : List ℕ) → fold message_released (durable_effect e) numbers ≡ durable_effect (fold message_released e numbers)
releases_same e [] = refl
releases_same e (number ∷ numbers) = ap (λ u. fold message_released u numbers) (released_same e number) ∙ releases_same (message_released e number) numbers

-- Arrivals.

refusal_of_same : (s : State) (p : UserPacket) → is_express p.message.delivery ≡ false → refusal_of (durable s) p ≡ refusal_of s p
refusal_of_same s p h = ap (λ o. cond (p.remaining == 0) (Some REACH_TIMEOUT) o)
    (ap (λ t. target_refusal (durable s) t p.message.delivery) (resolved_same s p.message.destination) ∙ refusal_same s (resolved s p.message.destination) p.message.delivery h)

pub order_same : (s : State) (p : UserPacket) → is_for_order_layer (durable s) p.message.destination ≡ is_for_order_layer s p.message.destination
order_same s p = ap (λ t. names_order_layer p.message.destination && is_here t) (resolved_same s p.message.destination)

storing_same : (s : State) (p : UserPacket) → is_express p.message.delivery ≡ false → storing_refusal (durable s) p ≡ storing_refusal s p
storing_same s p h = ap (λ b. cond b (Some BAD_DESTINATION) (refusal_of (durable s) p)) (order_same s p)
    ∙ ap (λ o. cond (is_for_order_layer s p.message.destination) (Some BAD_DESTINATION) o) (refusal_of_same s p h)

pub decided_same : (now : ℕ) (s : State) (p : UserPacket) (tx : TxHead) → is_express p.message.delivery ≡ false
    → message_decided now (durable s) p tx ≡ durable_effect (message_decided now s p tx)
decided_same now s p tx h = ap (λ o. with_line (decided_line p.message tx o) (arrived (with_decided (durable s) p.message tx) p.message now o)) (refusal_of_same s p h)
    ∙ ap (λ u. with_line (decided_line p.message tx (refusal_of s p)) u) (arrived_same (with_decided s p.message tx) p.message now (refusal_of s p) h)

pub stored_same : (now : ℕ) (s : State) (p : UserPacket) → is_express p.message.delivery ≡ false → message_stored now (durable s) p ≡ durable_effect (message_stored now s p)
stored_same now s p h = ap (λ o. with_line (stored_line p.message o) (arrived (durable s) p.message now o)) (storing_same s p h)
    ∙ ap (λ u. with_line (stored_line p.message (storing_refusal s p)) u) (arrived_same s p.message now (storing_refusal s p) h)

pub steps_are_durable : StepsAreDurable
steps_are_durable = record {
  peer_added = peer_same;
  queue_made = queue_same;
  marks_offered = offered_same;
  plain = plain_same;
  sent = message_sent_same;
  released = releases_same;
  decided = decided_same;
  stored = stored_same;
}
