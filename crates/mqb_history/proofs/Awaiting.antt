-- An order acknowledgement in doubt is of the present connection: what each change leaves of that.
use Rattle.std.proofs.Common.{refl, sym, subst}
use Rattle.std.specs.Prelude.{◌≡◌, Bool, IfSome, List, None, Option, Some, false, true, ℕ}
use Rattle.mqb_base.specs.declared.queue_names.QueueName.{QueueName}
use Rattle.mqb_exactly_once.specs.Words.{In}
use Rattle.mqb_exactly_once.specs.World.{OrderAck}
use Rattle.mqb_model.specs.managers.Manager.{Manager, doubt_of, is_down}
use Rattle.mqb_model.specs.managers.Outcomes.{failed, succeeded}
use Rattle.mqb_model.specs.records.Record.{Part, Record}
use Rattle.mqb_model.specs.records.Record as entry
use Rattle.mqb_model.specs.state.State.{State}
use Rattle.mqb_network.specs.Changes.{ended, parted}
use Rattle.mqb_network.specs.Choices.{Failure}
use Rattle.mqb_network.specs.Courses.{Course}
use Rattle.mqb_network.specs.Network.{Network, manager_at, with_manager}
use Rattle.mqb_orders.specs.Rows.{Row}
use Rattle.mqb_packet.specs.declared.packet.Packet.{Packet}
use Rattle.mqb_model.specs.calls.Call.{Call, Hear, outcome_of}
use Rattle.mqb_history.specs.Changes.{calling}
use Rattle.mqb_history.proofs.Ending.{parted_at, parted_condition, parted_rows}
use Rattle.mqb_history.proofs.Finishing.{MayAck}
use Rattle.mqb_history.proofs.Linked.{AwaitsIn}
use Rattle.mqb_history.proofs.Ordering.{with_at}
use Rattle.mqb_history.proofs.Recorded.{IsAckHeard, RecordOf}
use Rattle.mqb_history.proofs.Recording.{Awaits}
use Rattle.mqb_history.proofs.Refusing.{down_changes_nothing}
use Rattle.mqb_history.proofs.Storing.{up_doubt}

-- Records.

-- more acknowledgements are there
record_more : (d : QueueName) (olds news : List OrderAck) (number : ℕ) (outs : List Row) → ((a : OrderAck) → In a olds → In a news) → (r : Record) → Awaits d olds number outs r → Awaits d news number outs r
record_more d olds news number outs more (entry.Arrived now numbers (entry.OrderAcknowledged ordinal n)) h = λ row inside same to. let g = h row inside same to in (g.0, more g.0 g.1, g.2, g.3)
record_more d olds news number outs more r h = tt

pub awaits_more : (d : QueueName) (olds news : List OrderAck) (number : ℕ) (m : Manager) → ((a : OrderAck) → In a olds → In a news) → AwaitsIn d olds number m → AwaitsIn d news number m
awaits_more d olds news number m more h = at (doubt_of m.condition) h
  where
    at : (o : Option Record) → IfSome o (Awaits d olds number m.state.outs) → IfSome o (Awaits d news number m.state.outs)
    at None g = tt
    at (Some r) g = record_more d olds news number m.state.outs more r g

-- a call records one where it heard it
abbrev pub HeardAcks : State → Call → QueueName → List OrderAck → ℕ → Type 0
HeardAcks s call d acks connection = (now : ℕ) (x : Packet) → call ≡ Hear now x → (ordinal number : ℕ) → IsAckHeard s.identity.guid x ordinal number → MayAck d acks connection s.outs ordinal number

acked_by_call : (s : State) (call : Call) (d : QueueName) (acks : List OrderAck) (connection now : ℕ) (numbers : List ℕ) (part : Part) → RecordOf s call (entry.Arrived now numbers part)
    → HeardAcks s call d acks connection → Awaits d acks connection s.outs (entry.Arrived now numbers part)
acked_by_call s call d acks connection now numbers (entry.OrderAcknowledged ordinal number) h heard = heard h.now h.heard h.call_is ordinal number h.part_is
acked_by_call s call d acks connection now numbers part h heard = tt

pub call_awaits : (s : State) (call : Call) (d : QueueName) (acks : List OrderAck) (connection : ℕ) (o : Option Record) → IfSome o (RecordOf s call) → HeardAcks s call d acks connection
    → IfSome o (Awaits d acks connection s.outs)
call_awaits s call d acks connection (Some (entry.Arrived now numbers part)) h heard = acked_by_call s call d acks connection now numbers part h heard
call_awaits s call d acks connection o h heard = tt

-- Changes.

module _ (d : QueueName) (acks : List OrderAck) (number : ℕ) where
  -- the same rows, and the same doubt
  awaits_as : (a b : Manager) → b.condition ≡ a.condition → b.state.outs ≡ a.state.outs → AwaitsIn d acks number a → AwaitsIn d acks number b
  awaits_as a b condition outs h = subst (λ x. IfSome (doubt_of x) (Awaits d acks number b.state.outs)) (sym condition)
      (subst (λ rows. IfSome (doubt_of a.condition) (Awaits d acks number rows)) (sym outs) h)

  pub ended_awaits : (a i : ℕ) (n : Network) → AwaitsIn d acks number (manager_at n i) → AwaitsIn d acks number (manager_at (ended a n) i)
  ended_awaits a i n h = parted_at (AwaitsIn d acks number) n a i (λ m g. awaits_as m (parted m) (parted_condition m) (parted_rows m).outs g) h

  pub started_awaits : (a i : ℕ) (n : Network) (m : Manager) → AwaitsIn d acks number (manager_at n i) → (a ≡ i → AwaitsIn d acks number m) → AwaitsIn d acks number (manager_at (with_manager n a m) i)
  started_awaits a i n m h new = with_at (AwaitsIn d acks number) n a i m h new

  pub called_awaits : (a i : ℕ) (call : Call) (failure : Option Failure) (c : Course) → AwaitsIn d acks number (manager_at c.network i)
      → (a ≡ i → IfSome (outcome_of (manager_at c.network a) call).entry (Awaits d acks number (manager_at c.network a).state.outs)) → AwaitsIn d acks number (manager_at (calling a call failure c).network i)
  called_awaits a i call None c h may = started_awaits a i c.network (succeeded m (outcome_of m call)) h (λ e. at e (is_down m) refl)
    where
      m : Manager
      m = manager_at c.network a

      at : a ≡ i → (b : Bool) → is_down m ≡ b → AwaitsIn d acks number (succeeded m (outcome_of m call))
      at e false down = up_doubt m.condition _ down
      at e true down = subst (λ (s : State). IfSome (doubt_of m.condition) (Awaits d acks number s.outs)) (sym (down_changes_nothing m call down))
          (subst (λ k. AwaitsIn d acks number (manager_at c.network k)) (sym e) h)
  called_awaits a i call (Some how) c h may = let m = manager_at c.network a in
      ended_awaits a i (with_manager c.network a (failed m (outcome_of m call))) (started_awaits a i c.network (failed m (outcome_of m call)) h may)
