-- A pump answers how many packets go.
use Rattle.std.proofs.Common.{◌≡◌, ℕ, Bool, true, false, List, [], ◌∷◌, Option, None, Some, Ok, Err, length, suc, refl, sym, ap, ◌∙◌}
use Rattle.std.proofs.lemmas.List.{length-map}
use Rattle.std.specs.Option.{option_map_or}
use Rattle.std.specs.Prelude.{if◌then◌else◌, slice_get}
use Rattle.mqb_base.specs.declared.ids.Guid.{Guid}
use Rattle.mqb_model.specs.calls.pump.Candidates.{Candidate, candidates}
use Rattle.mqb_model.specs.calls.pump.Choosing.{chosen, session_after, with_heads}
use Rattle.mqb_model.specs.calls.pump.Pump.{PumpOutcome, packet_for, pump_at, pump_linked, pump_owed, pump_ready, pump_refusal, pump_to, pump_with, sending_ack, sending_chosen}
use Rattle.mqb_model.specs.declared.faults.PumpFault.{PumpFault}
use Rattle.mqb_model.specs.declared.faults.PumpFault.TheVariants as fault
use Rattle.mqb_model.specs.managers.Manager.{Manager, linked_peer}
use Rattle.mqb_model.specs.managers.Outcomes.{answering, unless}
use Rattle.mqb_session.specs.Phases.{owed_by}
use Rattle.mqb_session.specs.Sending.{is_ready}
use Rattle.mqb_session.specs.State as one_end
use Rattle.mqb_setup.specs.declared.internal.Internal.{Internal}
use Rattle.mqb_moves.specs.Counting.{IsCounted, PumpsAreCounted}

either : (b : Bool) (x y : PumpOutcome) → IsCounted x → IsCounted y → IsCounted (if b then x else y)
either true x y one other = one
either false x y one other = other

or_else : {X : Type 0} (f : X → PumpOutcome) (o : Option X) (z : PumpOutcome) → ((x : X) → IsCounted (f x)) → IsCounted z → IsCounted (option_map_or f o z)
or_else f None z each none = none
or_else f (Some x) z each none = each x

heads : (session : one_end.State) (cs : List Candidate) → length (with_heads session cs) ≡ length cs
heads session [] = refl
heads session (c ∷ cs) = ap suc (heads (session_after session c) cs)

module _ (m : Manager) (now : ℕ) where
  acked : (session : one_end.State) → IsCounted (sending_ack m session)
  acked session = either session.owes _ _ refl refl

  all_chosen : (session : one_end.State) (k : ℕ) (to : Guid) (cs : List Candidate) → IsCounted (sending_chosen m now session k to cs)
  all_chosen session k to [] = acked session
  all_chosen session k to (c ∷ cs) = sym (length-map (with_heads session (c ∷ cs)) (packet_for to now) ∙ heads session (c ∷ cs))

  all_with : (session : one_end.State) (k : ℕ) (to : Guid) (cs : List Candidate) → IsCounted (pump_with m now session k to cs)
  all_with session k to cs = either _ (answering m (Err fault.Spent)) _ tt (all_chosen session k to (chosen session 0 0 cs))

  abbrev idle : PumpOutcome
  idle = answering m (Ok 0)

  at_peer : (session : one_end.State) (k : ℕ) → IsCounted (pump_at m now session k)
  at_peer session k = or_else (λ peer. option_map_or (pump_to m now session k peer) (slice_get m.state.plain k) idle) (slice_get m.state.peers k) idle
      (λ peer. or_else (pump_to m now session k peer) (slice_get m.state.plain k) idle (λ p. all_with session k peer.guid (candidates m.state m.rest now k peer p)) refl) refl

  when_ready : (session : one_end.State) → IsCounted (pump_ready m now session)
  when_ready session = either (is_ready session.phase) (pump_at m now session (linked_peer m.state session)) idle (at_peer session (linked_peer m.state session)) refl

  when_owed : (session : one_end.State) (o : Option Internal) → IsCounted (pump_owed m now session o)
  when_owed session None = when_ready session
  when_owed session (Some owed) = refl

  unless_so : (o : Option PumpFault) (x : PumpOutcome) → IsCounted x → IsCounted (unless m o x)
  unless_so None x one = one
  unless_so (Some why) x one = tt

pub counted : PumpsAreCounted
counted m now = unless_so m now (pump_refusal m) _ (or_else (pump_linked m now) m.rest.session _ (λ session. when_owed m now session (owed_by session.phase now session)) tt)
