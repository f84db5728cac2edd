-- Each pump that sends something takes one of the numbers of a session, its set-up packet or its acknowledgement, so a row of pumps ends.
use Rattle.std.proofs.Common.{◌≡◌, ◌≤◌, ◌<◌, ◌+◌, ◌-◌, ◌==◌, ◌&&◌, ℕ, zero, suc, Bool, true, false, not, cond, List, [], ◌∷◌, length, Option, None, Some, Result, Ok, Err, refl, sym, ap, ◌∙◌, inl, inr, arith}
use Rattle.std.specs.Option.{option_map_or}
use Rattle.std.specs.Prelude.{nat_lt, slice_get}
use Rattle.std.proofs.lemmas.Bool.{and_parts, cases_lt, eqb-false, false≢true}
use Rattle.mqb_base.specs.declared.ids.Guid.{Guid}
use Rattle.mqb_base.specs.declared.ids.Identity.{Identity}
use Rattle.mqb_plain.specs.Plain.{PlainLists}
use Rattle.mqb_session.specs.Hearing.{after_owed}
use Rattle.mqb_session.specs.Phases.{owed_by, phase_after_owed}
use Rattle.mqb_packet.specs.declared.packet.Packet.TheVariants as packet
use Rattle.mqb_session.specs.Sending.{is_ready, is_spent, is_used_up, may_send, stamped}
use Rattle.mqb_session.specs.declared.heads.Kind.TheVariants as kind
use Rattle.mqb_session.specs.State as one_end
use Rattle.mqb_session.specs.declared.phase.Phase.{Phase}
use Rattle.mqb_session.specs.declared.phase.Phase.TheVariants.{Closed, OweEstablish, OweParameters, OweRefusal, Ready, Start, WaitEstablish, WaitParameters}
use Rattle.mqb_session.specs.declared.phase.Role.{Role}
use Rattle.mqb_session.specs.declared.phase.Role.TheVariants.{Acceptor, Initiator}
use Rattle.mqb_setup.specs.declared.internal.Internal.{Internal}
use Rattle.mqb_model.specs.calls.pump.Candidates.{Candidate, candidates}
use Rattle.mqb_model.specs.calls.pump.Choosing.{candidate_size, chosen, is_within, may_follow, session_after, session_behind}
use Rattle.mqb_model.specs.calls.pump.Pump.{PumpOutcome, pump, pump_at, pump_linked, pump_owed, pump_ready, pump_refusal, pump_to, pump_with, sending_ack, sending_all, sending_chosen, sending_one}
use Rattle.mqb_model.specs.declared.limits.TheConstants.{MAX_PACKETS}
use Rattle.mqb_model.specs.laws.Keeping.{CallsKeepValid}
use Rattle.mqb_model.specs.declared.faults.PumpFault.{PumpFault}
use Rattle.mqb_model.specs.declared.faults.PumpFault.TheVariants as fault
use Rattle.mqb_model.specs.managers.Beside.{OfExpress, OfRecoverable, OfRow, Origin, Owed}
use Rattle.mqb_model.specs.managers.Manager.{Condition, Down, Manager, Up, is_down, linked_peer}
use Rattle.mqb_model.specs.managers.Outcomes.{answering, succeeded, unless}
use Rattle.mqb_model.specs.managers.Valid.{IsLinkedWell, IsValidManager}
use Rattle.mqb_model.specs.state.State.{State}
use Rattle.mqb_serving.specs.Conversations.{Conversation, at_rest, gave, pumped, sent_some}
use Rattle.mqb_serving.specs.Laws.{PumpsComeToRest}
use Rattle.mqb_serving.specs.declared.limits.TheConstants.{MAX_PUMPS}

-- What is left to be sent.

abbrev owed_in : Phase → ℕ
owed_in Start = 1
owed_in OweEstablish = 1
owed_in OweRefusal = 1
owed_in OweParameters = 1
owed_in WaitEstablish = 0
owed_in WaitParameters = 0
owed_in Ready = 0
owed_in (Closed why) = 0

abbrev one_if : Bool → ℕ
one_if true = 1
one_if false = 0

abbrev left_in : one_end.State → ℕ
left_in s = owed_in s.phase + (65535 - s.sent) + one_if s.owes

abbrev left_of : Option one_end.State → ℕ
left_of None = 0
left_of (Some s) = left_in s

-- of a session with which it began, a pump that sends something leaves less
abbrev Lowers : Option one_end.State → PumpOutcome → Type 0
Lowers session outcome = sent_some outcome.answer ≡ true → left_of outcome.rest.session < left_of session

-- nothing is sent
idle : (session : Option one_end.State) (m : Manager) (answer : Result ℕ PumpFault) → sent_some answer ≡ false → Lowers session (answering m answer)
idle session m answer none some = absurd (false≢true (sym none ∙ some))

-- Set-up packets.

owes_one : (phase : Phase) (role : Role) (now : ℕ) (s : one_end.State) (owed : Internal) → owed_by phase now s ≡ Some owed → owed_in (phase_after_owed phase role) < owed_in phase
owes_one Start role now s owed e = omega arith
owes_one OweEstablish role now s owed e = omega arith
owes_one OweRefusal role now s owed e = omega arith
owes_one OweParameters Initiator now s owed e = omega arith
owes_one OweParameters Acceptor now s owed e = omega arith
owes_one WaitEstablish role now s owed e = absurd cc
owes_one WaitParameters role now s owed e = absurd cc
owes_one Ready role now s owed e = absurd cc
owes_one (Closed why) role now s owed e = absurd cc

-- Numbers.

next_sent : (s : one_end.State) (c : Candidate) → (session_after s c).sent ≡ s.sent + 1
next_sent s c = at c.origin
  where
    at : (origin : Origin) → (session_after s (record c { origin = origin })).sent ≡ s.sent + 1
    at (Owed row) = refl
    at origin = refl

next_phase : (s : one_end.State) (c : Candidate) → (session_after s c).phase ≡ s.phase
next_phase s c = at c.origin
  where
    at : (origin : Origin) → (session_after s (record c { origin = origin })).phase ≡ s.phase
    at (Owed row) = refl
    at origin = refl

-- what packets leave of a session
record IsBehind (s t : one_end.State) : Type 0 where
  pub sent : s.sent ≤ t.sent
  pub phase : t.phase ≡ s.phase
  pub owes : t.owes ≡ s.owes

all_behind : (s : one_end.State) (cs : List Candidate) → s.owes ≡ false → IsBehind s (session_behind s cs)
all_behind s [] e = record { sent = omega arith; phase = refl; owes = refl }
all_behind s (c ∷ cs) e = let more = all_behind (session_after s c) cs refl in record {
  sent = omega (arith, next_sent s c, more.sent);
  phase = more.phase ∙ next_phase s c;
  owes = more.owes ∙ sym e;
}

unused : (s : one_end.State) (ready used rest : Bool) → is_used_up s ≡ used → (ready && (not used && rest)) ≡ true → s.sent ≡ 65535 → ⊥
unused s false used rest is may e = false≢true may
unused s true true rest is may e = false≢true may
unused s true false rest is may e = eqb-false s.sent 65535 is e

below : (s : one_end.State) → may_send s ≡ true → s.sent ≤ 65535 → s.sent < 65535
below s may few = elim (cases_lt s.sent 65535) [
  | inl less ↦ less
  | inr more ↦ absurd (unused s (is_ready s.phase) (is_used_up s) (nat_lt (s.sent - s.acked) s.peer_window) refl may (omega (arith, few, more)))
]

some_behind : (s : one_end.State) (c : Candidate) (cs : List Candidate) → may_send s ≡ true → s.sent ≤ 65535 → left_in (session_behind s (c ∷ cs)) < left_in s
some_behind s c cs may few =
    let t = session_behind s (c ∷ cs) in
    let behind : IsBehind (session_after s c) t = all_behind (session_after s c) cs refl in
    let phase : owed_in t.phase ≡ owed_in s.phase = ap owed_in (behind.phase ∙ next_phase s c) in
    let owes : one_if t.owes ≡ 0 = ap one_if behind.owes in
    omega (arith, phase, owes, behind.sent, next_sent s c, below s may few)

-- One pump.

ack_lowers : (m : Manager) (s : one_end.State) → Lowers (Some s) (sending_ack m s)
ack_lowers m s = at s.owes refl
  where
    one : PumpOutcome
    one = sending_one m (packet.Ack (stamped kind.Ack s).0) (stamped kind.Ack s).1

    at : (b : Bool) → s.owes ≡ b → Lowers (Some s) (cond b one (answering m (Ok 0)))
    at true is = λ some. omega (arith, ap one_if is)
    at false is = idle (Some s) m (Ok 0) refl

chosen_lowers : (m : Manager) (now k : ℕ) (s : one_end.State) (to : Guid) (cs : List Candidate) → s.sent ≤ 65535 → Lowers (Some s) (sending_chosen m now s k to (chosen s 0 0 cs))
chosen_lowers m now k s to [] few = ack_lowers m s
chosen_lowers m now k s to (c ∷ cs) few = at (may_follow s 0 0 c) refl
  where
    rest : List Candidate
    rest = chosen (session_after s c) (0 + 1) (0 + candidate_size c) cs

    at : (b : Bool) → may_follow s 0 0 c ≡ b → Lowers (Some s) (sending_chosen m now s k to (cond b (c ∷ rest) []))
    at true is = λ some. some_behind s c rest (and_parts (may_send s) (nat_lt 0 MAX_PACKETS) (and_parts (may_send s && nat_lt 0 MAX_PACKETS) (is_within 0 0 c) is).0).0 few
    at false is = ack_lowers m s

with_lowers : (m : Manager) (now k : ℕ) (s : one_end.State) (to : Guid) (cs : List Candidate) → s.sent ≤ 65535 → Lowers (Some s) (pump_with m now s k to cs)
with_lowers m now k s to cs few = at (is_spent s && not (length cs == 0))
  where
    at : (b : Bool) → Lowers (Some s) (cond b (answering m (Err fault.Spent)) (sending_chosen m now s k to (chosen s 0 0 cs)))
    at true = idle (Some s) m (Err fault.Spent) refl
    at false = chosen_lowers m now k s to cs few

at_lowers : (m : Manager) (now k : ℕ) (s : one_end.State) → s.sent ≤ 65535 → Lowers (Some s) (pump_at m now s k)
at_lowers m now k s few = at (slice_get m.state.peers k) (slice_get m.state.plain k)
  where
    at : (peer : Option Identity) (plain : Option PlainLists)
        → Lowers (Some s) (option_map_or (λ peer. option_map_or (pump_to m now s k peer) plain (answering m (Ok 0))) peer (answering m (Ok 0)))
    at None plain = idle (Some s) m (Ok 0) refl
    at (Some peer) None = idle (Some s) m (Ok 0) refl
    at (Some peer) (Some p) = with_lowers m now k s peer.guid (candidates m.state m.rest now k peer p) few

ready_lowers : (m : Manager) (now : ℕ) (s : one_end.State) → s.sent ≤ 65535 → Lowers (Some s) (pump_ready m now s)
ready_lowers m now s few = at (is_ready s.phase)
  where
    at : (b : Bool) → Lowers (Some s) (cond b (pump_at m now s (linked_peer m.state s)) (answering m (Ok 0)))
    at true = at_lowers m now (linked_peer m.state s) s few
    at false = idle (Some s) m (Ok 0) refl

owed_lowers : (m : Manager) (now : ℕ) (s : one_end.State) (owed : Option Internal) → owed_by s.phase now s ≡ owed → s.sent ≤ 65535 → Lowers (Some s) (pump_owed m now s owed)
owed_lowers m now s (Some owed) is few = λ some. let less = owes_one s.phase s.role now s owed is in omega (arith, less)
owed_lowers m now s None is few = ready_lowers m now s few

linked_lowers : (m : Manager) (now : ℕ) (session : Option one_end.State) → ((s : one_end.State) → session ≡ Some s → s.sent ≤ 65535)
    → Lowers session (option_map_or (pump_linked m now) session (answering m (Err fault.NotLinked)))
linked_lowers m now (Some s) few = owed_lowers m now s (owed_by s.phase now s) refl (few s refl)
linked_lowers m now None few = idle None m (Err fault.NotLinked) refl

up_lowers : (m : Manager) (now : ℕ) (refusal : Option PumpFault) → ((s : one_end.State) → m.rest.session ≡ Some s → s.sent ≤ 65535)
    → Lowers m.rest.session (unless m refusal (option_map_or (pump_linked m now) m.rest.session (answering m (Err fault.NotLinked))))
up_lowers m now (Some why) few = idle m.rest.session m (Err why) refl
up_lowers m now None few = linked_lowers m now m.rest.session few

-- a valid manager has sent as many packets as there are numbers
few_sent : (m : Manager) → IsValidManager m → (s : one_end.State) → m.rest.session ≡ Some s → s.sent ≤ 65535
few_sent m v s e = at m.condition m.rest.session v.session e
  where
    at : (condition : Condition) (session : Option one_end.State) → IsLinkedWell m.state condition session → session ≡ Some s → s.sent ≤ 65535
    at Up (Some t) well e = let same : t ≡ s = cc in let few : t.sent ≤ 65535 = well.kept.sent in omega (arith, few, ap (λ (x : one_end.State). x.sent) same)
    at Up None well e = absurd cc
    at (Down doubt) (Some t) well e = absurd cc
    at (Down doubt) None well e = absurd cc

pump_lowers : (m : Manager) (now : ℕ) → IsValidManager m → Lowers m.rest.session (pump m now)
pump_lowers m now v = up_lowers m now (pump_refusal m) (few_sent m v)

-- A row of them.

rest_by : (count more : ℕ) (c : Conversation) (outcome : PumpOutcome) → (sent_some outcome.answer ≡ true → pumped more (gave outcome c) ≡ pumped count (gave outcome c))
    → (some : Bool) → sent_some outcome.answer ≡ some
    → cond some (pumped more (gave outcome c)) (at_rest outcome.answer (gave outcome c)) ≡ cond some (pumped count (gave outcome c)) (at_rest outcome.answer (gave outcome c))
rest_by count more c outcome later true is = later is
rest_by count more c outcome later false is = refl

comes_to_rest : CallsKeepValid → (count more : ℕ) (c : Conversation) → IsValidManager c.stored.manager → count ≤ more → left_of c.stored.manager.rest.session < count → pumped more c ≡ pumped count c
comes_to_rest keep zero more c v most less = absurd (omega (arith, less))
comes_to_rest keep (suc count) zero c v most less = absurd (omega (arith, most))
comes_to_rest keep (suc count) (suc more) c v most less = rest_by count more c (pump c.stored.manager c.now)
    (λ is. comes_to_rest keep count more (gave (pump c.stored.manager c.now) c) ((keep c.stored.manager v).pumps c.now).succeeds (omega (arith, most)) (omega (arith, less, pump_lowers c.stored.manager c.now v is)))
    (sent_some (pump c.stored.manager c.now).answer) refl

few_left : (session : Option one_end.State) → left_of session < MAX_PUMPS
few_left None = omega arith
few_left (Some s) = omega (arith, at s.phase, owed s.owes)
  where
    at : (phase : Phase) → owed_in phase ≤ 1
    at Start = omega arith
    at phase = omega arith

    owed : (owes : Bool) → one_if owes ≤ 1
    owed true = omega arith
    owed false = omega arith

pub pumps_come_to_rest : CallsKeepValid → PumpsComeToRest
pumps_come_to_rest keep c more v = comes_to_rest keep MAX_PUMPS (MAX_PUMPS + more) c v (omega arith) (few_left c.stored.manager.rest.session)
