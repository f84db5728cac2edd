-- A flow in which no record is written: a manager whose session is not ready sends set-up packets alone, and hearing them writes nothing.
use Rattle.std.proofs.Common.{refl, ap, sym, subst, ◌∙◌, inl, inr}
use Rattle.std.specs.List.{enumerate_from}
use Rattle.std.specs.Option.{option_map_or}
use Rattle.std.specs.Prelude.{[], ◌+◌, ◌∷◌, ◌≡◌, ◌⊎◌, Bool, Err, IfSome, List, None, Ok, Option, Result, Some, cond, false, fold, length, slice_get, true, unwrap_or, ℕ}
use Rattle.mqb_model.specs.calls.hear.Hear.{hear, hear_linked, hear_refusal}
use Rattle.mqb_model.specs.calls.hear.Session.{HeardOutcome}
use Rattle.mqb_model.specs.calls.pump.Pump.{PumpOutcome, pump, pump_at, pump_linked, pump_owed, pump_refusal}
use Rattle.mqb_model.specs.declared.faults.HearFault.{HearFault}
use Rattle.mqb_model.specs.declared.faults.HearFault.TheVariants as hear_fault
use Rattle.mqb_model.specs.declared.faults.PumpFault.{PumpFault}
use Rattle.mqb_model.specs.declared.faults.PumpFault.TheVariants as pump_fault
use Rattle.mqb_model.specs.managers.Manager.{Manager, is_down, linked_peer}
use Rattle.mqb_model.specs.managers.Outcomes.{Outcome, answering, succeeded, unless}
use Rattle.mqb_model.specs.calls.Link.{unlink}
use Rattle.mqb_network.specs.Changes.{ended, parted}
use Rattle.mqb_network.specs.Choices.{Well}
use Rattle.mqb_network.specs.Courses.{Course, called, moved}
use Rattle.mqb_network.specs.Delivering.{closes, heard_by, passed, unheard}
use Rattle.mqb_network.specs.Network.{Network, Note, is_underway, manager_at, nobody}
use Rattle.mqb_network.specs.Sending.{Passing, flow, flow_by, passed_on, pump_by}
use Rattle.mqb_packet.specs.declared.packet.Packet.{Packet}
use Rattle.mqb_packet.specs.declared.packet.Packet.TheVariants as packet
use Rattle.mqb_queue.specs.Places.{numbered}
use Rattle.mqb_session.specs.Phases.{owed_by, phase_after_establish, phase_after_owed, phase_after_parameters}
use Rattle.mqb_session.specs.Sending.{is_ready}
use Rattle.mqb_session.specs.State as one_end
use Rattle.mqb_session.specs.State.{new_initiator}
use Rattle.mqb_session.specs.declared.phase.Phase.{Phase}
use Rattle.mqb_session.specs.declared.phase.Phase.TheVariants.{Closed, Ready, WaitEstablish, WaitParameters}
use Rattle.mqb_session.specs.declared.phase.Role as one_role
use Rattle.mqb_history.proofs.Beginning.{there}
use Rattle.mqb_history.proofs.Ending.{parted_at}
use Rattle.mqb_history.proofs.Lists.{append_nothing}
use Rattle.mqb_history.proofs.Ordering.{with_at}
use Rattle.mqb_history.proofs.Written.{noted_managers}

-- what holds of a phase in a role
abbrev pub InPhase : Type 1
InPhase = Phase → one_role.Role → Type 0

-- the session of a manager meets it, where there is one
abbrev pub Meets : InPhase → Manager → Type 0
Meets Q m = IfSome m.rest.session (λ s. Q s.phase s.role)

-- the managers of a network do
abbrev pub AllMeet : (ℕ → InPhase) → Network → Type 0
AllMeet S n = (j : ℕ) → Meets (S j) (manager_at n j)

some_weaker : (P Q : InPhase) → ((p : Phase) (r : one_role.Role) → P p r → Q p r) → (o : Option one_end.State)
    → IfSome o (λ s. P s.phase s.role) → IfSome o (λ s. Q s.phase s.role)
some_weaker P Q weaker None h = tt
some_weaker P Q weaker (Some s) h = weaker s.phase s.role h

-- A set-up packet that is heard.

abbrev IsSetUp : Packet → Type 0
IsSetUp (packet.Establish e) = Unit {0}
IsSetUp (packet.Parameters p) = Unit {0}
IsSetUp _ = ⊥

-- what hearing one keeps
pub record IsClosed (Q : InPhase) : Type 0 where
  pub establish : (p : Phase) (r : one_role.Role) (wanted : Bool) → Q p r → Q (phase_after_establish p r wanted) r
  pub parameters : (p : Phase) (r : one_role.Role) → Q p r → Q (phase_after_parameters p r) r

-- an outcome has no record, and leaves a session of which this holds
record IsQuiet {A : Type 0} (Q : InPhase) (outcome : Outcome A) : Type 0 where
  pub entry : outcome.entry ≡ None
  pub session : IfSome outcome.rest.session (λ s. Q s.phase s.role)

heard_linked : (Q : InPhase) → IsClosed Q → (m : Manager) (p : Packet) (now : ℕ) (s : one_end.State) → IsSetUp p → Q s.phase s.role → IsQuiet Q (hear_linked m now p s)
heard_linked Q k m (packet.Establish e) now s set h = record { entry = refl; session = k.establish s.phase s.role _ h }
heard_linked Q k m (packet.Parameters p) now s set h = record { entry = refl; session = k.parameters s.phase s.role h }
heard_linked Q k m (packet.Ack head) now s set h = absurd set
heard_linked Q k m (packet.User p) now s set h = absurd set

heard_quiet : (Q : InPhase) → IsClosed Q → (m : Manager) (p : Packet) (now : ℕ) → IsSetUp p → Meets Q m → IsQuiet Q (hear m p now)
heard_quiet Q k m p now set h = unless_quiet (hear_refusal m) (by m.rest.session refl)
  where
    by : (o : Option one_end.State) → m.rest.session ≡ o → IsQuiet Q (option_map_or (hear_linked m now p) o (answering m (Err hear_fault.NotLinked)))
    by None e = record { entry = refl; session = h }
    by (Some s) e = heard_linked Q k m p now s set (subst (λ o. IfSome o (λ s. Q s.phase s.role)) e h)

    unless_quiet : (o : Option HearFault) → IsQuiet Q (option_map_or (hear_linked m now p) m.rest.session (answering m (Err hear_fault.NotLinked)))
        → IsQuiet Q (unless m o (option_map_or (hear_linked m now p) m.rest.session (answering m (Err hear_fault.NotLinked))))
    unless_quiet None q = q
    unless_quiet (Some why) q = record { entry = refl; session = h }

-- A pump.

-- a phase owes a packet
abbrev pub owes : Phase → Bool
owes WaitEstablish = false
owes WaitParameters = false
owes Ready = false
owes (Closed cause) = false
owes _ = true

-- a pump sends nothing, or one set-up packet, where C holds
abbrev IsOneOrNone : Type 0 → List Packet → Type 0
IsOneOrNone C ps = (ps ≡ []) ⊎ ((p : Packet) × IsSetUp p × (ps ≡ p ∷ []) × C)

record IsQuietPump (C : Type 0) (Q : InPhase) (outcome : PumpOutcome) : Type 0 where
  pub quiet : IsQuiet Q outcome
  pub packets : IsOneOrNone C outcome.packets

-- What makes a pump quiet: the session is not ready, and C holds where it owes a packet.
pub record IsUnready (C : Type 0) (P Q : InPhase) : Type 0 where
  pub unready : (p : Phase) (r : one_role.Role) → P p r → is_ready p ≡ false
  pub sends : (p : Phase) (r : one_role.Role) → P p r → owes p ≡ true → C
  pub stays : (p : Phase) (r : one_role.Role) → P p r → Q p r
  pub owed : (p : Phase) (r : one_role.Role) → P p r → Q (phase_after_owed p r) r

owed_quiet : (C : Type 0) (P Q : InPhase) → IsUnready C P Q → (m : Manager) (now : ℕ) (s : one_end.State) → m.rest.session ≡ Some s → P s.phase s.role
    → (phase : Phase) → s.phase ≡ phase → IsQuietPump C Q (pump_owed m now s (owed_by phase now s))
owed_quiet C P Q u m now s there h phase e = by phase e
  where
    sent : (p : Packet) → IsSetUp p → owes s.phase ≡ true → (p : Packet) × IsSetUp p × ((p ∷ []) ≡ p ∷ []) × C
    sent p set o = (p, set, refl, u.sends s.phase s.role h o)

    idle : IsQuietPump C Q (cond (is_ready s.phase) (pump_at m now s (linked_peer m.state s)) (answering m (Ok 0)))
    idle = subst (λ b. IsQuietPump C Q (cond b (pump_at m now s (linked_peer m.state s)) (answering m (Ok 0)))) (sym (u.unready s.phase s.role h)) (record {
      quiet = record { entry = refl; session = subst (λ o. IfSome o (λ s. Q s.phase s.role)) (sym there) (u.stays s.phase s.role h) };
      packets = inl refl;
    })

    by : (phase : Phase) → s.phase ≡ phase → IsQuietPump C Q (pump_owed m now s (owed_by phase now s))
    by WaitEstablish e = idle
    by WaitParameters e = idle
    by Ready e = idle
    by (Closed cause) e = idle
    by x e = record { quiet = record { entry = refl; session = u.owed s.phase s.role h }; packets = inr (_, tt, refl, u.sends s.phase s.role h (ap owes e)) }

pump_quiet : (C : Type 0) (P Q : InPhase) → IsUnready C P Q → (m : Manager) (now : ℕ) → Meets P m → IsQuietPump C Q (pump m now)
pump_quiet C P Q u m now h = unless_quiet (pump_refusal m) (by m.rest.session refl)
  where
    refused : (why : PumpFault) → IsQuietPump C Q (answering m (Err why))
    refused why = record { quiet = record { entry = refl; session = some_weaker P Q u.stays m.rest.session h }; packets = inl refl }

    by : (o : Option one_end.State) → m.rest.session ≡ o → IsQuietPump C Q (option_map_or (pump_linked m now) o (answering m (Err pump_fault.NotLinked)))
    by None e = refused pump_fault.NotLinked
    by (Some s) e = owed_quiet C P Q u m now s e (subst (λ o. IfSome o (λ s. P s.phase s.role)) e h) s.phase refl

    unless_quiet : (o : Option PumpFault) → IsQuietPump C Q (option_map_or (pump_linked m now) m.rest.session (answering m (Err pump_fault.NotLinked)))
        → IsQuietPump C Q (unless m o (option_map_or (pump_linked m now) m.rest.session (answering m (Err pump_fault.NotLinked))))
    unless_quiet None q = q
    unless_quiet (Some why) q = refused why

-- A flow.

-- sessions are as they are to be, and these are all records
pub record IsStill (S : ℕ → InPhase) (before c : Course) : Type 0 where
  pub sessions : AllMeet S c.network
  pub written : c.written ≡ before.written

pub still_then : (S : ℕ → InPhase) (a b c : Course) → b.written ≡ a.written → IsStill S b c → IsStill S a c
still_then S a b c e h = record { sessions = h.sessions; written = h.written ∙ e }

-- a manager's call without a record
called_still : {A : Type 0} (T : ℕ → InPhase) (i : ℕ) (outcome : Outcome A) (c : Course) → AllMeet T c.network → IsQuiet (T i) outcome
    → IsStill T c (called i outcome Well c)
called_still T i outcome c old q = record {
  sessions = λ j. with_at (Meets (T j)) c.network i j (succeeded (manager_at c.network i) outcome) (old j) (λ e. subst (λ k. IfSome outcome.rest.session (λ s. T k s.phase s.role)) e q.session);
  written = subst (λ o. (called i (record outcome { entry = o }) Well c).written ≡ c.written) (sym q.entry) (append_nothing c.written);
}

-- the connection of a manager ends
ended_still : (S : ℕ → InPhase) (i : ℕ) (before c : Course) → IsStill S before c → IsStill S before (moved (ended i) c)
ended_still S i before c h = record {
  sessions = λ j. parted_at (Meets (S j)) c.network i j (λ m. parted_meets (S j) m) (h.sessions j);
  written = h.written;
}
  where
    parted_meets : (Q : InPhase) (m : Manager) → Meets Q m → Meets Q (parted m)
    parted_meets Q m h = at (is_down m)
      where
        at : (b : Bool) → Meets Q (cond b m (succeeded m (unlink m)))
        at true = h
        at false = tt

-- a manager hears a set-up packet
heard_still : (S : ℕ → InPhase) → ((j : ℕ) → IsClosed (S j)) → (i : ℕ) (p : Packet) (now : ℕ) (c : Course) → IsSetUp p → AllMeet S c.network
    → IsStill S c (heard_by i (hear (manager_at c.network i) p now) Well c).after
heard_still S k i p now c set h = at (closes outcome.answer)
  where
    outcome : HeardOutcome
    outcome = hear (manager_at c.network i) p now

    called_so : IsStill S c (called i outcome Well c)
    called_so = called_still S i outcome c h (heard_quiet (S i) (k i) (manager_at c.network i) p now set (h i))

    at : (b : Bool) → IsStill S c (cond b (moved (ended i) (called i outcome Well c)) (called i outcome Well c))
    at true = ended_still S i c (called i outcome Well c) called_so
    at false = called_so

itself : (S : ℕ → InPhase) (c : Course) → AllMeet S c.network → IsStill S c c
itself S c h = record { sessions = h; written = refl }

passed_still : (S : ℕ → InPhase) → ((j : ℕ) → IsClosed (S j)) → (note : Option Note) (p : Packet) (now : ℕ) (c : Course) → IsSetUp p → AllMeet S c.network
    → IsStill S c (option_map_or (λ note. passed note p now Well c) note (unheard Well c)).after
passed_still S k None p now c set h = itself S c h
passed_still S k (Some note) p now c set h = at (is_underway c.network note)
  where
    at : (b : Bool) → IsStill S c (cond b (heard_by note.receiver (hear (manager_at c.network note.receiver) p now) Well c) (unheard Well c)).after
    at true = heard_still S k note.receiver p now c set h
    at false = itself S c h

-- a manager is pumped
pumped_still : (C : Type 0) (T : ℕ → InPhase) (i now : ℕ) (outcome : PumpOutcome) (c : Course) → AllMeet T c.network
    → IsQuietPump C (T i) outcome → IsStill T c (pump_by i now outcome Well c).after
pumped_still C T i now outcome c old q = record {
  sessions = λ j. subst (λ ms. Meets (T j) (unwrap_or (slice_get ms j) nobody)) (sym (noted_managers i now (length outcome.packets) (called i outcome Well c).network)) (by.sessions j);
  written = by.written;
}
  where
    by : IsStill T c (called i outcome Well c)
    by = called_still T i outcome c old q.quiet

-- and what it sends is heard
pub flow_still : (C : Type 0) (S T : ℕ → InPhase) (i now : ℕ) (c : Course) → IsUnready C (S i) (T i)
    → ((j : ℕ) (p : Phase) (r : one_role.Role) → S j p r → T j p r) → (C → (j : ℕ) → IsClosed (T j)) → AllMeet S c.network → IsStill T c (flow i now Well c).after
flow_still C S T i now c u weaker closed h = by outcome.answer
  where
    outcome : PumpOutcome
    outcome = pump (manager_at c.network i) now

    quiet : IsQuietPump C (T i) outcome
    quiet = pump_quiet C (S i) (T i) u (manager_at c.network i) now (h i)

    pumped : Course
    pumped = (pump_by i now outcome Well c).after

    so : IsStill T c pumped
    so = pumped_still C T i now outcome c (λ j. some_weaker (S j) (T j) (weaker j) (manager_at c.network j).rest.session (h j)) quiet

    start : Passing
    start = record { arrivals = []; after = pumped; left = Well }

    heard : (ps : List Packet) → IsOneOrNone C ps → IsStill T c (fold (passed_on now) start (enumerate_from (length c.network.notes + 1) ps)).after
    heard ps (inl e) = subst (λ ps. IsStill T c (fold (passed_on now) start (enumerate_from (length c.network.notes + 1) ps)).after) (sym e) so
    heard ps (inr (p, set, e, k)) = subst (λ ps. IsStill T c (fold (passed_on now) start (enumerate_from (length c.network.notes + 1) ps)).after) (sym e)
        (still_then T c pumped _ so.written (passed_still T (closed k) (numbered pumped.network.notes (length c.network.notes + 1)) p now pumped set so.sessions))

    by : (answer : Result ℕ PumpFault) → IsStill T c (flow_by i now outcome Well c answer).after
    by (Err fault) = so
    by (Ok count) = heard outcome.packets quiet.packets
