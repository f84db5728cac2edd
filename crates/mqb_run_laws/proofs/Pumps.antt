-- Whatever a pump answers is told.
use Rattle.std.proofs.Common.{◌≡◌, ◌==◌, Bool, true, false, List, [], ◌∷◌, None, Option, Some, length, refl, ℕ}
use Rattle.std.specs.Option.{option_map_or}
use Rattle.std.specs.Prelude.{◌&&◌, Err, Ok, Result, if◌then◌else◌, not, slice_get}
use Rattle.mqb_base.specs.declared.ids.Guid.{Guid}
use Rattle.mqb_base.specs.declared.ids.Identity.{Identity}
use Rattle.mqb_base.specs.declared.ledger.Line.{Line}
use Rattle.mqb_packet.specs.declared.packet.Packet.TheVariants as packet
use Rattle.mqb_plain.specs.Plain.{PlainLists}
use Rattle.mqb_session.specs.Phases.{owed_by}
use Rattle.mqb_session.specs.Sending.{is_ready, is_spent, stamped}
use Rattle.mqb_session.specs.State as one_end
use Rattle.mqb_session.specs.declared.heads.Kind.TheVariants as kind
use Rattle.mqb_setup.specs.declared.internal.Internal.{Internal}
use Rattle.mqb_model.specs.calls.pump.Candidates.{Candidate, candidates}
use Rattle.mqb_model.specs.calls.pump.Choosing.{chosen}
use Rattle.mqb_model.specs.calls.pump.Pump.{pump, pump_at, pump_linked, pump_owed, pump_ready, pump_to, pump_with, sending_ack, sending_chosen, sending_one}
use Rattle.mqb_model.specs.declared.faults.PumpFault.{PumpFault}
use Rattle.mqb_model.specs.declared.faults.PumpFault.TheVariants as fault
use Rattle.mqb_model.specs.managers.Manager.{Manager, is_down, linked_peer}
use Rattle.mqb_model.specs.managers.Outcomes.{answering, unless}
use Rattle.mqb_network.specs.Sending.{pumped}
use Rattle.mqb_runs.specs.Pumped.{pump_fault_reply}
use Rattle.mqb_transcript.specs.declared.replies.Reply.{Reply}
use Rattle.mqb_transcript.specs.declared.replies.Reply.TheVariants as reply
use Rattle.mqb_run_laws.proofs.Tellable.{IsTold}

-- why no packets go is told
abbrev TellsWhy : Result ℕ PumpFault → Type 0
TellsWhy (Ok count) = Unit {0}
TellsWhy (Err why) = (given : Reply) × (pump_fault_reply why ≡ Ok given)

-- each packet of a session goes alone, or what was chosen
module _ (m : Manager) (now : ℕ) (session : one_end.State) where
  ack_tells : TellsWhy (sending_ack m session).answer
  ack_tells = by session.owes
    where
      by : (owes : Bool) → TellsWhy (if owes
          then sending_one m (packet.Ack (stamped kind.Ack session).0) (stamped kind.Ack session).1
          else answering m (Ok 0)).answer
      by true = tt
      by false = tt

  chosen_tells : (k : ℕ) (to : Guid) (cs : List Candidate) → TellsWhy (sending_chosen m now session k to cs).answer
  chosen_tells k to [] = ack_tells
  chosen_tells k to (c ∷ cs) = tt

  with_tells : (k : ℕ) (to : Guid) (cs : List Candidate) → TellsWhy (pump_with m now session k to cs).answer
  with_tells k to cs = by (is_spent session && not (length cs == 0))
    where
      by : (spent : Bool) → TellsWhy (if spent
          then answering m (Err fault.Spent)
          else sending_chosen m now session k to (chosen session 0 0 cs)).answer
      by true = (reply.Spent, refl)
      by false = chosen_tells k to (chosen session 0 0 cs)

  at_tells : (k : ℕ) → TellsWhy (pump_at m now session k).answer
  at_tells k = by (slice_get m.state.peers k)
    where
      plain : (peer : Identity) (o : Option PlainLists) → TellsWhy (option_map_or (pump_to m now session k peer) o (answering m (Ok 0))).answer
      plain peer None = tt
      plain peer (Some p) = with_tells k peer.guid (candidates m.state m.rest now k peer p)

      by : (o : Option Identity) → TellsWhy (option_map_or (λ (peer : Identity). option_map_or (pump_to m now session k peer)
          (slice_get m.state.plain k) (answering m (Ok 0))) o (answering m (Ok 0))).answer
      by None = tt
      by (Some peer) = plain peer (slice_get m.state.plain k)

  ready_tells : TellsWhy (pump_ready m now session).answer
  ready_tells = by (is_ready session.phase)
    where
      by : (ready : Bool) → TellsWhy (if ready then pump_at m now session (linked_peer m.state session) else answering m (Ok 0)).answer
      by true = at_tells (linked_peer m.state session)
      by false = tt

  owed_tells : (o : Option Internal) → TellsWhy (pump_owed m now session o).answer
  owed_tells None = ready_tells
  owed_tells (Some owed) = tt

pump_tells : (m : Manager) (now : ℕ) → TellsWhy (pump m now).answer
pump_tells m now = by (is_down m) m.rest.session
  where
    by : (down : Bool) (o : Option one_end.State) → TellsWhy (unless m (if down then Some fault.Down else None)
        (option_map_or (pump_linked m now) o (answering m (Err fault.NotLinked)))).answer
    by true o = (reply.Down, refl)
    by false None = (reply.Unlinked, refl)
    by false (Some session) = owed_tells m now session (owed_by session.phase now session)

-- so is what goes
pub pump_told : (m : Manager) (now before : ℕ) (lines : List Line) → IsTold (pumped before (pump m now).answer lines)
pump_told m now before lines = by (pump m now).answer (pump_tells m now)
  where
    by : (r : Result ℕ PumpFault) → TellsWhy r → IsTold (pumped before r lines)
    by (Ok count) tells = (_, refl)
    by (Err why) tells = tells
