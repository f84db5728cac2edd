-- The peer's window is kept.
use Rattle.std.proofs.Common.{◌≡◌, ◌≤◌, ◌<◌, ℕ, ◌+◌, ◌-◌, Bool, true, false, if◌then◌else◌, List, [], ◌∷◌, refl, arith}
use Rattle.std.specs.Prelude.{IsTrue}
use Rattle.std.proofs.lemmas.Bool.{and_parts, ltb-true}
use Rattle.mqb_base.specs.declared.heads.SessionHead.{SessionHead}
use Rattle.mqb_base.specs.declared.heard.Cause.{Cause}
use Rattle.mqb_base.specs.declared.heard.Cause.TheVariants.{BadAck, Early}
use Rattle.mqb_session.specs.declared.heads.HeadHeard.{HeadHeard}
use Rattle.mqb_session.specs.declared.heads.HeadHeard.TheVariants as heard
use Rattle.mqb_session.specs.declared.heads.Kind.TheVariants.{Plain, Recoverable, Ack}
use Rattle.mqb_session.specs.declared.phase.Phase.{Phase}
use Rattle.mqb_session.specs.declared.phase.Phase.TheVariants.{Start, WaitEstablish, OweEstablish, OweRefusal, OweParameters, WaitParameters, Ready, Closed}
use Rattle.mqb_session.specs.declared.phase.Role.{Role}
use Rattle.mqb_session.specs.State.{State}
use Rattle.mqb_session.specs.Phases.{phase_after_owed, phase_after_establish, phase_after_parameters}
use Rattle.mqb_session.specs.Hearing.{window_after, closed_by, closing, counted, acknowledged, is_bad_ack, order_of, head_in}
use Rattle.mqb_session.specs.Sending.{is_ready, may_send}
use Rattle.mqb_session.specs.Calls.{Call, HearEstablish, HearParameters, HearHead, Owed, Stamp, NoteStored, Close, after, after_all, IsAllowed, AreAllowed, IsSettingUp, IsWithinWindow}

-- No call goes back to the set-up.
owed_first : (phase : Phase) (role : Role) → IsSettingUp (phase_after_owed phase role) → IsSettingUp phase
owed_first Start role p = tt
owed_first WaitEstablish role p = tt
owed_first OweEstablish role p = tt
owed_first OweRefusal role p = tt
owed_first OweParameters role p = tt
owed_first WaitParameters role p = tt
owed_first Ready role p = p
owed_first (Closed cause) role p = p

establish_first : (phase : Phase) (role : Role) (wanted : Bool) → IsSettingUp (phase_after_establish phase role wanted) → IsSettingUp phase
establish_first Start role wanted p = tt
establish_first WaitEstablish role wanted p = tt
establish_first OweEstablish role wanted p = tt
establish_first OweRefusal role wanted p = tt
establish_first OweParameters role wanted p = tt
establish_first WaitParameters role wanted p = tt
establish_first Ready role wanted p = p
establish_first (Closed cause) role wanted p = p

parameters_first : (phase : Phase) (role : Role) → IsSettingUp (phase_after_parameters phase role) → IsSettingUp phase
parameters_first Start role p = tt
parameters_first WaitEstablish role p = tt
parameters_first OweEstablish role p = tt
parameters_first OweRefusal role p = tt
parameters_first OweParameters role p = tt
parameters_first WaitParameters role p = tt
parameters_first Ready role p = p
parameters_first (Closed cause) role p = p

closed_first : (phase : Phase) (cause : Cause) → IsSettingUp (closed_by cause phase) → IsSettingUp phase
closed_first Start cause p = tt
closed_first WaitEstablish cause p = tt
closed_first OweEstablish cause p = tt
closed_first OweRefusal cause p = tt
closed_first OweParameters cause p = tt
closed_first WaitParameters cause p = tt
closed_first Ready cause p = p
closed_first (Closed kept) cause p = p

ready_first : (phase : Phase) → is_ready phase ≡ true → IsSettingUp phase → ⊥
ready_first Start ready p = absurd cc
ready_first WaitEstablish ready p = absurd cc
ready_first OweEstablish ready p = absurd cc
ready_first OweRefusal ready p = absurd cc
ready_first OweParameters ready p = absurd cc
ready_first WaitParameters ready p = absurd cc
ready_first Ready ready p = p
ready_first (Closed cause) ready p = p

-- the window of Parameters is taken while nothing is sent
window_heard : (phase : Phase) (sent acked heard window : ℕ) → sent ≤ acked + window → (IsSettingUp phase → sent ≡ 0) → sent ≤ acked + window_after phase heard window
window_heard Start sent acked heard window within first = within
window_heard WaitEstablish sent acked heard window within first = within
window_heard OweEstablish sent acked heard window within first = within
window_heard OweRefusal sent acked heard window within first = within
window_heard OweParameters sent acked heard window within first = within
window_heard WaitParameters sent acked heard window within first = omega (arith, first tt)
window_heard Ready sent acked heard window within first = within
window_heard (Closed cause) sent acked heard window within first = within

closing_within : (cause : Cause) (s : State) → IsWithinWindow s → IsWithinWindow (closing cause s).1
closing_within cause s within = record { outstanding = within.outstanding; first = λ p. absurd p }

acknowledged_within : (h : SessionHead) (s : State) → IsWithinWindow s → IsWithinWindow (acknowledged h s)
acknowledged_within h s within = record { outstanding = omega (arith, within.outstanding); first = within.first }

counted_within : (order : HeadHeard) (s : State) → IsWithinWindow s → IsWithinWindow (counted order s)
counted_within (heard.Closed cause) s within = within
counted_within heard.InOrder s within = record { outstanding = within.outstanding; first = within.first }
counted_within heard.OutOfOrder s within = within
counted_within heard.AckOnly s within = within

ready_within : (bad : Bool) (h : SessionHead) (s : State) → IsWithinWindow s
    → IsWithinWindow (if bad then closing BadAck s else (order_of h s, counted (order_of h s) (acknowledged h s))).1
ready_within true h s within = closing_within BadAck s within
ready_within false h s within = counted_within (order_of h s) (acknowledged h s) (acknowledged_within h s within)

head_within : (phase : Phase) (h : SessionHead) (s : State) → IsWithinWindow s → IsWithinWindow (head_in phase h s).1
head_within Start h s within = closing_within Early s within
head_within WaitEstablish h s within = closing_within Early s within
head_within OweEstablish h s within = closing_within Early s within
head_within OweRefusal h s within = closing_within Early s within
head_within OweParameters h s within = closing_within Early s within
head_within WaitParameters h s within = closing_within Early s within
head_within Ready h s within = ready_within (is_bad_ack h s) h s within
head_within (Closed cause) h s within = within

-- one more may go
record MayGo (s : State) : Type 0 where
  ready : is_ready s.phase ≡ true
  room : s.sent - s.acked < s.peer_window

may_go : (s : State) → IsTrue (may_send s) → MayGo s
may_go s may =
    let parts = and_parts _ _ may in
    let counts = and_parts _ _ parts.1 in
    record { ready = parts.0; room = ltb-true _ _ counts.1 }

stays_within : (call : Call) (s : State) → IsAllowed call s → IsWithinWindow s → IsWithinWindow (after call s)
stays_within (HearEstablish e known) s allowed within = record { outstanding = within.outstanding; first = λ p. within.first (establish_first s.phase s.role _ p) }
stays_within (HearParameters p) s allowed within = record {
  outstanding = window_heard s.phase s.sent s.acked p.window s.peer_window within.outstanding within.first;
  first = λ q. within.first (parameters_first s.phase s.role q);
}
stays_within (HearHead h) s allowed within = head_within s.phase h s within
stays_within (Owed now) s allowed within = record { outstanding = within.outstanding; first = λ p. within.first (owed_first s.phase s.role p) }
stays_within (Stamp Plain) s allowed within = let may = may_go s allowed in
    record { outstanding = omega (arith, may.room); first = λ p. absurd (ready_first s.phase may.ready p) }
stays_within (Stamp Recoverable) s allowed within = let may = may_go s allowed in
    record { outstanding = omega (arith, may.room); first = λ p. absurd (ready_first s.phase may.ready p) }
stays_within (Stamp Ack) s allowed within = record { outstanding = within.outstanding; first = within.first }
stays_within NoteStored s allowed within = record { outstanding = within.outstanding; first = within.first }
stays_within (Close cause) s allowed within = record { outstanding = within.outstanding; first = λ p. within.first (closed_first s.phase cause p) }

pub all_within : (calls : List Call) (s : State) → AreAllowed calls s → IsWithinWindow s → IsWithinWindow (after_all calls s)
all_within [] s allowed within = within
all_within (call ∷ calls) s allowed within = all_within calls (after call s) allowed.1 (stays_within call s allowed.0 within)

counted_window : (order : HeadHeard) (s : State) → (counted order s).peer_window ≡ s.peer_window
counted_window (heard.Closed cause) s = refl
counted_window heard.InOrder s = refl
counted_window heard.OutOfOrder s = refl
counted_window heard.AckOnly s = refl

ready_window : (bad : Bool) (h : SessionHead) (s : State)
    → (if bad then closing BadAck s else (order_of h s, counted (order_of h s) (acknowledged h s))).1.peer_window ≡ s.peer_window
ready_window true h s = refl
ready_window false h s = counted_window (order_of h s) (acknowledged h s)

-- no header changes the window
head_window : (phase : Phase) (h : SessionHead) (s : State) → (head_in phase h s).1.peer_window ≡ s.peer_window
head_window Start h s = refl
head_window WaitEstablish h s = refl
head_window OweEstablish h s = refl
head_window OweRefusal h s = refl
head_window OweParameters h s = refl
head_window WaitParameters h s = refl
head_window Ready h s = ready_window (is_bad_ack h s) h s
head_window (Closed cause) h s = refl

pub window_stays : (call : Call) (s : State) → s.phase ≡ Ready → (after call s).peer_window ≡ s.peer_window
window_stays (HearEstablish e known) s ready = refl
window_stays (HearParameters p) s ready = rw ready refl
window_stays (HearHead h) s ready = head_window s.phase h s
window_stays (Owed now) s ready = refl
window_stays (Stamp Plain) s ready = refl
window_stays (Stamp Recoverable) s ready = refl
window_stays (Stamp Ack) s ready = refl
window_stays NoteStored s ready = refl
window_stays (Close cause) s ready = refl
