-- What is refused because its time was over was sent so.
use Rattle.std.proofs.Common.{refl, ap, sym, subst, ◌∙◌, arith, inl, inr}
use Rattle.std.specs.Option.{option_map_or}
use Rattle.std.specs.Prelude.{[], ◌&&◌, ◌<◌, ◌==◌, ◌∷◌, ◌≡◌, Bool, List, None, Option, Some, cond, false, nat_le, not, slice_get, suc, true, ℕ}
use Rattle.mqb_base.specs.declared.class.Class.{Class}
use Rattle.mqb_base.specs.declared.class.TheConstants.Class.{BAD_DESTINATION, MESSAGE_NOT_TRANSACTIONAL, QUEUE_NOT_TRANSACTIONAL, QUOTA_EXCEEDED, REACH_TIMEOUT}
use Rattle.mqb_base.specs.declared.heads.TxHead.{TxHead}
use Rattle.mqb_base.specs.declared.ids.Identity.{Identity}
use Rattle.mqb_base.specs.declared.ids.MessageId.{MessageId}
use Rattle.mqb_base.specs.declared.ledger.Line.TheVariants as line
use Rattle.mqb_base.specs.declared.ledger.Stream.{Stream}
use Rattle.mqb_base.specs.declared.message.Delivery.{Delivery}
use Rattle.mqb_base.specs.declared.message.Message.{Message}
use Rattle.mqb_exactly_once.specs.Words.{In}
use Rattle.mqb_exactly_once.specs.World.{Position}
use Rattle.mqb_fate.specs.Asking.{is_transactional}
use Rattle.mqb_model.specs.declared.target.Target.{Target}
use Rattle.mqb_model.specs.declared.target.Target.TheVariants.{Here}
use Rattle.mqb_model.specs.records.Applying.{lines_of}
use Rattle.mqb_model.specs.records.Decisions.{decided_line}
use Rattle.mqb_model.specs.records.Record as entry
use Rattle.mqb_model.specs.rules.Arrivals.{is_recorded, refusal_by, refusal_of, target_refusal}
use Rattle.mqb_model.specs.state.Resolving.{resolved}
use Rattle.mqb_model.specs.state.State.{State}
use Rattle.mqb_network.specs.Courses.{Course, Written}
use Rattle.mqb_network.specs.Doubts.{settled}
use Rattle.mqb_network.specs.Laws.{AreApart}
use Rattle.mqb_network.specs.Network.{Note, manager_at}
use Rattle.mqb_network.specs.Runs.{after_run}
use Rattle.mqb_packet.specs.declared.packet.Packet.TheVariants as packet
use Rattle.mqb_packet.specs.declared.packet.UserPacket.{UserPacket}
use Rattle.mqb_queue.specs.Arrival.{length_met}
use Rattle.mqb_queue.specs.Places.{Queue, numbered}
use Rattle.mqb_history.specs.Carried.{AreCarriedTruly, IsCommittedBy}
use Rattle.mqb_history.specs.Committed.{commitments}
use Rattle.mqb_history.specs.Decided.{written_of}
use Rattle.mqb_history.specs.Late.{AlwaysRefusedLate, AreRefusedLate, WasSentLate}
use Rattle.mqb_history.specs.Orderly.{IsOrderly}
use Rattle.mqb_history.specs.Told.{Joined, joined_by}
use Rattle.mqb_history.proofs.Agreeing.{agreeing}
use Rattle.mqb_history.proofs.Between.{all_in}
use Rattle.mqb_history.proofs.Carrying.{always_carried_truly, numbered_suc}
use Rattle.mqb_history.proofs.Courses.{Agrees, HeardIn}
use Rattle.mqb_history.proofs.Lists.{get_within, some_is, within_get}
use Rattle.mqb_history.proofs.Noticed.{heard_in, written_in}
use Rattle.mqb_history.proofs.Numbering.{AreCounted, counted_by_records}
use Rattle.mqb_history.proofs.Puts.{IsDeciding, decision_line, refused_decides}
use Rattle.mqb_history.proofs.Sources.{IsLineOf, refused_line}
use Rattle.mqb_history.proofs.Written.{always_by_records}

-- A refusal for time has that reason.

other_class : (class : Class) → (class.0 ≡ REACH_TIMEOUT.0 → ⊥) → Some class ≡ Some REACH_TIMEOUT → ⊥
other_class class apart e = apart (ap (λ (c : Class). c.0) (some_is class REACH_TIMEOUT e))

not_by_queue : (transactional kind full : Bool) → cond (transactional && not kind) (Some QUEUE_NOT_TRANSACTIONAL) (cond (not transactional && kind) (Some MESSAGE_NOT_TRANSACTIONAL) (cond full (Some QUOTA_EXCEEDED) None)) ≡ Some REACH_TIMEOUT → ⊥
not_by_queue true true true e = other_class QUOTA_EXCEEDED (λ f. omega (arith, f)) e
not_by_queue true true false e = let none : ⊥ = cc in none
not_by_queue true false full e = other_class QUEUE_NOT_TRANSACTIONAL (λ f. omega (arith, f)) e
not_by_queue false true full e = other_class MESSAGE_NOT_TRANSACTIONAL (λ f. omega (arith, f)) e
not_by_queue false false true e = other_class QUOTA_EXCEEDED (λ f. omega (arith, f)) e
not_by_queue false false false e = let none : ⊥ = cc in none

not_by_target : (s : State) (t : Target) (d : Delivery) → target_refusal s t d ≡ Some REACH_TIMEOUT → ⊥
not_by_target s (Here (Some k)) d e = at (numbered s.places.queues k) e
  where
    at : (o : Option Queue) → option_map_or (refusal_by d) o (Some BAD_DESTINATION) ≡ Some REACH_TIMEOUT → ⊥
    at None f = other_class BAD_DESTINATION (λ g. omega (arith, g)) f
    at (Some q) f = not_by_queue (is_transactional d) q.plan.transactional (nat_le q.plan.quota (length_met (is_recorded d) q.lists)) f
not_by_target s t d e = other_class BAD_DESTINATION (λ f. omega (arith, f)) e

late : (s : State) (p : UserPacket) → refusal_of s p ≡ Some REACH_TIMEOUT → (p.remaining == 0) ≡ true
late s p e = at (p.remaining == 0) e
  where
    at : (b : Bool) → cond b (Some REACH_TIMEOUT) (target_refusal s (resolved s p.message.destination) p.message.delivery) ≡ Some REACH_TIMEOUT → b ≡ true
    at true f = refl
    at false f = absurd (not_by_target s (resolved s p.message.destination) p.message.delivery f)

reason : (m : Message) (tx : TxHead) (o : Option Class) (stream : Stream) (number : ℕ) (id : MessageId) → decided_line m tx o ≡ line.Refused stream number REACH_TIMEOUT id → o ≡ Some REACH_TIMEOUT
reason m tx None stream number id e = absurd (let none : ⊥ = cc in none)
reason m tx (Some class) stream number id e = let same : class ≡ REACH_TIMEOUT = cc in ap (λ c. Some c) same

-- A member stands at an index.
in_get : {X : Type 0} (xs : List X) (x : X) → In x xs → (k : ℕ) × (slice_get xs k ≡ Some x)
in_get [] x i = absurd i
in_get (y ∷ xs) x (inl e) = (0, ap (λ z. Some z) e)
in_get (y ∷ xs) x (inr i) = let g = in_get xs x i in (suc g.0, g.1)

module _ (known : List Identity) (apart : AreApart known) (c : Course) (o : IsOrderly known c) (h : Agrees known c) (counted : (i : ℕ) → AreCounted (manager_at c.network i).state (written_of i c.written)) (carried : AreCarriedTruly c) where
  -- the packet of a decision was sent, and carries what its sender committed
  sent_late : (w : Written) → In w c.written → (stream : Stream) (number : ℕ) (id : MessageId) (d : IsDeciding w.entry) → IsLineOf stream number id d.packet.message d.head → (d.packet.remaining == 0) ≡ true → WasSentLate c stream number id
  sent_late w i stream number id d is none = record {
    index = suc place.0;
    note = note.0;
    noted = numbered_suc c.network.notes place.0 ∙ note.1;
    content = d.packet;
    sent = numbered_suc c.sent place.0 ∙ place.1;
    names = sym is.id_is;
    commitment = by.commitment;
    committed = by.there;
    joined = ap (λ own. joined_by own by.commitment) source ∙ ap (λ (q : Position). record {
      stream = record { source = d.packet.message.id.qm; destination = by.commitment.message.destination; sequence = q.sequence };
      number = q.number;
      id = by.commitment.message.id;
    }) by.position ∙ ap (λ (m : Message). record {
      stream = record { source = d.packet.message.id.qm; destination = m.destination; sequence = d.head.sequence };
      number = d.head.number;
      id = m.id;
    }) (sym by.message) ∙ named;
    due = sym by.late ∙ none;
  }
    where
      heard : HeardIn known c.sent w.by (entry.Arrived d.now d.numbers (entry.Decided d.packet))
      heard = subst (HeardIn known c.sent w.by) d.entry (heard_in known apart c o h w i)

      place : (k : ℕ) × (slice_get c.sent k ≡ Some (packet.User d.packet))
      place = in_get c.sent (packet.User d.packet) heard.2.0

      note : (x : Note) × (slice_get c.network.notes place.0 ≡ Some x)
      note = within_get c.network.notes place.0 (subst (λ n. place.0 < n) (sym o.noted) (get_within c.sent place.0 (packet.User d.packet) place.1))

      by : IsCommittedBy note.0.sender c.written note.0.moment d.packet d.head
      by = carried (suc place.0) note.0 d.packet d.head (numbered_suc c.network.notes place.0 ∙ note.1) (numbered_suc c.sent place.0 ∙ place.1) d.there

      source : (manager_at c.network note.0.sender).state.identity.guid ≡ d.packet.message.id.qm
      source = sym (all_in _ (commitments (written_of note.0.sender c.written)) by.commitment (counted note.0.sender).own_ids by.there).0 ∙ ap (λ (m : Message). m.id.qm) (sym by.message)

      heard_as : Joined
      heard_as = record { stream = record { source = d.packet.message.id.qm; destination = d.packet.message.destination; sequence = d.head.sequence }; number = d.head.number; id = d.packet.message.id }

      told_of : Joined
      told_of = record { stream = stream; number = number; id = id }

      named : heard_as ≡ told_of
      named = ap (λ x. record { stream = x; number = d.head.number; id = d.packet.message.id }) (sym is.stream_is) ∙ ap (λ x. record { stream = stream; number = x; id = d.packet.message.id }) (sym is.number_is)
          ∙ ap (λ x. record { stream = stream; number = number; id = x }) (sym is.id_is)

  refused_late : AreRefusedLate c
  refused_late stream number id i = at (written_in known apart c o h (line.Refused stream number REACH_TIMEOUT id) i)
    where
      at : (w : Written) × In w c.written × In (line.Refused stream number REACH_TIMEOUT id) (lines_of w.before w.entry) → WasSentLate c stream number id
      at (w, met, inside) = let d = refused_decides w.before w.entry stream number REACH_TIMEOUT id inside in let e = decision_line w.before d.now d.numbers d.packet d.head (line.Refused stream number REACH_TIMEOUT id) d.there (λ none. none)
          (subst (λ r. In (line.Refused stream number REACH_TIMEOUT id) (lines_of w.before r)) d.entry inside) in
          sent_late w met stream number id d (refused_line d.packet.message d.head (refusal_of w.before d.packet) stream number REACH_TIMEOUT id e)
          (late w.before d.packet (reason d.packet.message d.head (refusal_of w.before d.packet) stream number id e))

-- The law.
pub always_refused_late : AlwaysRefusedLate
always_refused_late known ms apart run kept = let c = settled kept (after_run known ms) in let h = agreeing known apart ms run kept in
    refused_late known apart c h.0 h.1 (always_by_records AreCounted counted_by_records known ms apart run kept) (always_carried_truly known ms apart run kept)
