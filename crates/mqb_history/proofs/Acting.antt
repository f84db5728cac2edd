-- What calls record that have nothing to do with packets is true, and so is what they do beside it.
use Rattle.std.proofs.Common.{ap, sym, ◌∙◌}
use Rattle.std.specs.Prelude.{◌==◌, ◌≡◌, List, Some, false, true, ℕ}
use Rattle.mqb_base.specs.Same.{same_id}
use Rattle.mqb_base.specs.declared.ids.Guid.{Guid}
use Rattle.mqb_base.specs.declared.ids.Identity.{Identity}
use Rattle.mqb_base.specs.declared.message.Message.{Message}
use Rattle.mqb_exactly_once.specs.Words.{In}
use Rattle.mqb_orders.specs.Rows.{Row}
use Rattle.mqb_orders.specs.declared.kept.Kept.{Kept}
use Rattle.mqb_packet.specs.declared.packet.UserPacket.{UserPacket}
use Rattle.mqb_model.specs.managers.Beside as beside
use Rattle.mqb_model.specs.managers.Beside.{Beside}
use Rattle.mqb_base.specs.declared.class.TheConstants.Class.{ORDER_ACKNOWLEDGEMENT}
use Rattle.mqb_model.specs.managers.Manager.{Manager}
use Rattle.mqb_model.specs.records.Record.{Record}
use Rattle.mqb_model.specs.records.Record as entry
use Rattle.mqb_model.specs.state.Places.{is_express}
use Rattle.mqb_model.specs.state.Resolving.{peer_known}
use Rattle.mqb_model.specs.state.State.{State}
use Rattle.mqb_network.specs.Courses.{Course}
use Rattle.mqb_history.specs.Acked.{IsDecidedThere}
use Rattle.mqb_model.specs.calls.Call.{Call, outcome_of}
use Rattle.mqb_history.specs.Changes.{is_of_packets}
use Rattle.mqb_history.proofs.Recorded.{BesideOf, calls_are_of}
use Rattle.mqb_history.proofs.Later.{CameRightly, Unused}
use Rattle.mqb_history.proofs.Lists.{clash}
use Rattle.mqb_history.proofs.Named.{IsRightBeside}
use Rattle.mqb_history.proofs.Pumping.{IsOfMarks}
use Rattle.mqb_history.proofs.Rowwise.{Acknowledges, Finishes}
use Rattle.mqb_history.proofs.Serving.{IsWork}

-- a record stores a message
abbrev pub StoresIt : Record → UserPacket → Type 0
StoresIt (entry.Arrived now numbers (entry.Stored q)) p = q ≡ p
StoresIt _ p = ⊥

-- a record decides one
abbrev pub DecidesPacket : Record → UserPacket → Type 0
DecidesPacket (entry.Arrived now numbers (entry.Decided q)) p = q ≡ p
DecidesPacket _ p = ⊥

-- What is known of a record that a manager makes or may have made: what it decides came from where it leads here, what it stores has an identifier of no transaction, and what it acknowledges was
-- decided where the row leads.
pub record IsTrueRecord (known : List Identity) (c : Course) (i : ℕ) (s : State) (r : Record) : Type 0 where
  pub decided : (p : UserPacket) → DecidesPacket r p → CameRightly known c i p
  pub stored : (p : UserPacket) → StoresIt r p → is_express p.message.delivery ≡ false → Unused known c p.message.id
  pub acked : (ordinal number : ℕ) (row : Row) → Acknowledges r ordinal number → In row s.outs → row.sequence.ordinal ≡ ordinal → IsDecidedThere c i row number
  pub finished : (m : Message) (k : Kept) (row : Row) → Finishes r m → In row s.outs → peer_known s m.id.qm ≡ Some row.peer → In k row.kept → same_id k.message.id m.correlation ≡ true
      → IsDecidedThere c i row k.number

-- a record of no arrival
pub work_true : (known : List Identity) (c : Course) (i : ℕ) (s : State) (own : Guid) (r : Record) → IsWork own r → IsTrueRecord known c i s r
work_true known c i s own (entry.Arrived now numbers part) h = absurd h
work_true known c i s own r h = record { decided = λ p f. absurd f; stored = λ p f. absurd f; acked = λ o n row f. absurd f; finished = λ m k row f. absurd f }

-- a record of marks
pub marks_true : (known : List Identity) (c : Course) (i : ℕ) (s : State) (r : Record) → IsOfMarks r → IsTrueRecord known c i s r
marks_true known c i s (entry.Offered marks) h = record { decided = λ p f. absurd f; stored = λ p f. absurd f; acked = λ o n row f. absurd f; finished = λ m k row f. absurd f }
marks_true known c i s r h = absurd h

-- What is done beside a record.

-- what is done beside the record of a call that hears nothing
unheard_beside : (s t : State) (call : Call) (b : Beside) → is_of_packets call ≡ false → BesideOf t call b → IsRightBeside s b
unheard_beside s t call (beside.SendsExpress now m) e h = (ap (λ (x : Message). is_express x.delivery) h.message, ap (λ (x : Message). x.class.0 == ORDER_ACKNOWLEDGEMENT.0) h.message)
unheard_beside s t call (beside.HearsExpress peer number now m refusal) e h = absurd (clash (sym (ap is_of_packets h.call_is) ∙ e))
unheard_beside s t call b e h = tt

pub calls_beside : (s : State) (m : Manager) (call : Call) → is_of_packets call ≡ false → IsRightBeside s (outcome_of m call).beside
calls_beside s m call e = unheard_beside s m.state call (outcome_of m call).beside e (calls_are_of m call).beside
