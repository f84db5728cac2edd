-- A session that will never be ready with the peer of a capture, and one that may be.
use Rattle.std.proofs.Common.{refl, ap, sym, ◌∙◌, inl, inr}
use Rattle.std.specs.Prelude.{◌+◌, ◌==◌, ◌≡◌, ◌⊎◌, Bool, None, Option, Some, cond, false, true, ℕ}
use Rattle.mqb_base.specs.declared.heads.SessionHead.{SessionHead}
use Rattle.mqb_base.specs.declared.heard.Cause.{Cause}
use Rattle.mqb_base.specs.declared.heard.Cause.TheVariants as cause
use Rattle.mqb_base.specs.declared.ids.Guid.{Guid}
use Rattle.mqb_session.specs.Hearing.{acknowledged, after_owed, closing, counted, head_in, heard_head, is_bad_ack, is_wanted, on_establish, on_parameters, order_of, peer_after}
use Rattle.mqb_session.specs.Phases.{owed_by, phase_after_establish, phase_after_owed, phase_after_parameters}
use Rattle.mqb_session.specs.Sending.{is_ready, noted_stored, stamped}
use Rattle.mqb_session.specs.State.{State}
use Rattle.mqb_session.specs.declared.heads.HeadHeard.{HeadHeard}
use Rattle.mqb_session.specs.declared.heads.HeadHeard.TheVariants as heard
use Rattle.mqb_session.specs.declared.heads.Kind.{Kind}
use Rattle.mqb_session.specs.declared.heads.Kind.TheVariants as kind
use Rattle.mqb_session.specs.declared.phase.Phase.{Phase}
use Rattle.mqb_session.specs.declared.phase.Phase.TheVariants as phase
use Rattle.mqb_session.specs.declared.phase.Role.{Role}
use Rattle.mqb_session.specs.declared.phase.Role.TheVariants as role
use Rattle.mqb_setup.specs.declared.internal.Establish.{Establish}
use Rattle.mqb_setup.specs.declared.internal.Internal.{Internal}
use Rattle.mqb_setup.specs.declared.internal.Parameters.{Parameters}
use Rattle.mqb_capture.specs.Lawful.{cause_of}

-- Phases.

-- it is closed, or will be as soon as it goes on
abbrev pub is_lost : Phase → Bool
is_lost (phase.Closed why) = true
is_lost phase.OweRefusal = true
is_lost _ = false

-- it may find its peer yet
abbrev pub may_find : Phase → Role → Bool
may_find phase.Start role.Acceptor = true
may_find phase.WaitEstablish role.Acceptor = true
may_find _ _ = false

pub closed_lost : (ph : Phase) (why : Cause) → cause_of ph ≡ Some why → is_lost ph ≡ true
closed_lost (phase.Closed cause) why e = refl
closed_lost ph why e = absurd (let none : ⊥ = cc in none)

ready_alive : (ph : Phase) → is_ready ph ≡ true → is_lost ph ≡ false
ready_alive phase.Ready e = refl
ready_alive ph e = absurd (let none : ⊥ = cc in none)

pub not_both : (b : Bool) → b ≡ true → b ≡ false → ⊥
not_both true e f = let none : ⊥ = cc in none
not_both false e f = let none : ⊥ = cc in none

-- A session with another peer than this.
pub record IsWithOther (peer : Guid) (s : State) : Type 0 where
  pub other : Guid
  pub is : s.peer ≡ Some other
  pub apart : other ≡ peer → ⊥
  pub found : may_find s.phase s.role ≡ false

-- It will never be ready with this peer.
abbrev pub IsLost : Guid → Option State → Type 0
IsLost peer None = Unit {0}
IsLost peer (Some s) = (is_lost s.phase ≡ true) ⊎ IsWithOther peer s

-- It has this peer, or waits for one.
abbrev pub IsPeered : Guid → State → Type 0
IsPeered peer s = ((s.peer ≡ Some peer) × (may_find s.phase s.role ≡ false)) ⊎ ((s.phase ≡ phase.WaitEstablish) × (s.role ≡ role.Acceptor) × (s.peer ≡ None))

-- a session that is ready with this peer is not lost
pub ready_not_lost : (peer : Guid) (s : State) → is_ready s.phase ≡ true → s.peer ≡ Some peer → IsLost peer (Some s) → ⊥
ready_not_lost peer s ready is (inl lost) = not_both (is_lost s.phase) lost (ready_alive s.phase ready)
ready_not_lost peer s ready is (inr with) = with.apart (same (sym with.is ∙ is))
  where
    as_some : Guid → Option Guid
    as_some x = Some x

    same : as_some with.other ≡ as_some peer → with.other ≡ peer
    same e = cc

-- the same phase, end and peer
pub record IsSameSide (s t : State) : Type 0 where
  pub phase : t.phase ≡ s.phase
  pub role : t.role ≡ s.role
  pub peer : t.peer ≡ s.peer

pub peered_still : (peer : Guid) (s t : State) → IsSameSide s t → IsPeered peer s → IsPeered peer t
peered_still peer s t same (inl h) = inl (same.peer ∙ h.0, ap (λ (p : Phase). may_find p t.role) same.phase ∙ ap (λ (r : Role). may_find s.phase r) same.role ∙ h.1)
peered_still peer s t same (inr h) = inr (same.phase ∙ h.0, same.role ∙ h.1, same.peer ∙ h.2)

pub lost_still : (peer : Guid) (s t : State) → IsSameSide s t → IsLost peer (Some s) → IsLost peer (Some t)
lost_still peer s t same (inl lost) = inl (ap is_lost same.phase ∙ lost)
lost_still peer s t same (inr with) = inr (record {
  other = with.other;
  is = same.peer ∙ with.is;
  apart = with.apart;
  found = ap (λ (p : Phase). may_find p t.role) same.phase ∙ ap (λ (r : Role). may_find s.phase r) same.role ∙ with.found;
})

pub stamped_side : (k : Kind) (s : State) → IsSameSide s (stamped k s).1
stamped_side kind.Plain s = record { phase = refl; role = refl; peer = refl }
stamped_side kind.Recoverable s = record { phase = refl; role = refl; peer = refl }
stamped_side kind.Ack s = record { phase = refl; role = refl; peer = refl }

pub side_then : (s t u : State) → IsSameSide s t → IsSameSide t u → IsSameSide s u
side_then s t u f g = record { phase = g.phase ∙ f.phase; role = g.role ∙ f.role; peer = g.peer ∙ f.peer }

pub same_side : (s : State) → IsSameSide s s
same_side s = record { phase = refl; role = refl; peer = refl }

-- Set-up packets that are sent.

-- what is owed leaves the session open, but for a refusal
pub owed_open : (ph : Phase) (r : Role) (now : ℕ) (s : State) (owed : Internal) → owed_by ph now s ≡ Some owed → (ph ≡ phase.OweRefusal) ⊎ (cause_of (phase_after_owed ph r) ≡ None)
owed_open phase.Start r now s owed e = inr refl
owed_open phase.OweEstablish r now s owed e = inr refl
owed_open phase.OweRefusal r now s owed e = inl refl
owed_open phase.OweParameters role.Initiator now s owed e = inr refl
owed_open phase.OweParameters role.Acceptor now s owed e = inr refl
owed_open phase.WaitEstablish r now s owed e = absurd (let none : ⊥ = cc in none)
owed_open phase.WaitParameters r now s owed e = absurd (let none : ⊥ = cc in none)
owed_open phase.Ready r now s owed e = absurd (let none : ⊥ = cc in none)
owed_open (phase.Closed why) r now s owed e = absurd (let none : ⊥ = cc in none)

found_owed : (ph : Phase) (r : Role) → may_find ph r ≡ false → may_find (phase_after_owed ph r) r ≡ false
found_owed phase.Start role.Initiator e = refl
found_owed phase.Start role.Acceptor e = absurd (let none : ⊥ = cc in none)
found_owed phase.WaitEstablish role.Initiator e = refl
found_owed phase.WaitEstablish role.Acceptor e = absurd (let none : ⊥ = cc in none)
found_owed phase.OweEstablish r e = refl
found_owed phase.OweRefusal r e = refl
found_owed phase.OweParameters role.Initiator e = refl
found_owed phase.OweParameters role.Acceptor e = refl
found_owed phase.WaitParameters r e = refl
found_owed phase.Ready r e = refl
found_owed (phase.Closed why) r e = refl

waits_owe_nothing : (now : ℕ) (s : State) (owed : Internal) → owed_by phase.WaitEstablish now s ≡ Some owed → ⊥
waits_owe_nothing now s owed e = let none : ⊥ = cc in none

pub peered_owed : (peer : Guid) (now : ℕ) (s : State) (owed : Internal) → owed_by s.phase now s ≡ Some owed → IsPeered peer s → IsPeered peer (after_owed now s)
peered_owed peer now s owed e (inl h) = inl (h.0, found_owed s.phase s.role h.1)
peered_owed peer now s owed e (inr h) = absurd (waits_owe_nothing now s owed (ap (λ (p : Phase). owed_by p now s) (sym h.0) ∙ e))

lost_phase_owed : (ph : Phase) (r : Role) → is_lost ph ≡ true → is_lost (phase_after_owed ph r) ≡ true
lost_phase_owed phase.OweRefusal r e = refl
lost_phase_owed (phase.Closed why) r e = refl
lost_phase_owed ph r e = absurd (let none : ⊥ = cc in none)

pub lost_owed : (peer : Guid) (now : ℕ) (s : State) → IsLost peer (Some s) → IsLost peer (Some (after_owed now s))
lost_owed peer now s (inl lost) = inl (lost_phase_owed s.phase s.role lost)
lost_owed peer now s (inr with) = inr (record { other = with.other; is = with.is; apart = with.apart; found = found_owed s.phase s.role with.found })

-- Parameters.

found_parameters : (ph : Phase) (r : Role) → may_find (phase_after_parameters ph r) r ≡ false
found_parameters phase.OweParameters role.Initiator = refl
found_parameters phase.OweParameters role.Acceptor = refl
found_parameters phase.WaitParameters role.Initiator = refl
found_parameters phase.WaitParameters role.Acceptor = refl
found_parameters ph r = refl

lost_phase_parameters : (ph : Phase) (r : Role) → is_lost ph ≡ true → is_lost (phase_after_parameters ph r) ≡ true
lost_phase_parameters phase.OweRefusal r e = refl
lost_phase_parameters (phase.Closed why) r e = refl
lost_phase_parameters ph r e = absurd (let none : ⊥ = cc in none)

pub lost_parameters : (peer : Guid) (p : Parameters) (s : State) → IsLost peer (Some s) → IsLost peer (Some (on_parameters p s))
lost_parameters peer p s (inl lost) = inl (lost_phase_parameters s.phase s.role lost)
lost_parameters peer p s (inr with) = inr (record { other = with.other; is = with.is; apart = with.apart; found = found_parameters s.phase s.role })

pub peered_parameters : (peer : Guid) (p : Parameters) (s : State) → IsPeered peer s → IsPeered peer (on_parameters p s) ⊎ IsLost peer (Some (on_parameters p s))
peered_parameters peer p s (inl h) = inl (inl (h.0, found_parameters s.phase s.role))
peered_parameters peer p s (inr h) = inr (inl (ap (λ (ph : Phase). is_lost (phase_after_parameters ph s.role)) h.0))

-- An Establish.

lost_phase_establish : (ph : Phase) (r : Role) (wanted : Bool) → is_lost ph ≡ true → is_lost (phase_after_establish ph r wanted) ≡ true
lost_phase_establish phase.OweRefusal r wanted e = refl
lost_phase_establish (phase.Closed why) r wanted e = refl
lost_phase_establish ph r wanted e = absurd (let none : ⊥ = cc in none)

-- behind the phase in which an acceptor waits for it, or of an initiator, it keeps the peer
kept_peer : (ph : Phase) (r : Role) (wanted : Bool) (client : Guid) (kept : Option Guid) → may_find ph r ≡ false → peer_after ph r wanted client kept ≡ kept
kept_peer phase.WaitEstablish role.Initiator wanted client kept e = refl
kept_peer phase.WaitEstablish role.Acceptor wanted client kept e = absurd (let none : ⊥ = cc in none)
kept_peer ph r wanted client kept e = refl

pub found_establish : (ph : Phase) (r : Role) (wanted : Bool) → may_find (phase_after_establish ph r wanted) r ≡ false
found_establish phase.WaitEstablish role.Initiator true = refl
found_establish phase.WaitEstablish role.Initiator false = refl
found_establish phase.WaitEstablish role.Acceptor true = refl
found_establish phase.WaitEstablish role.Acceptor false = refl
found_establish ph r wanted = refl

pub lost_establish : (peer : Guid) (e : Establish) (known : Bool) (s : State) → IsLost peer (Some s) → IsLost peer (Some (on_establish e known s))
lost_establish peer e known s (inl lost) = inl (lost_phase_establish s.phase s.role (is_wanted s.role e known s) lost)
lost_establish peer e known s (inr with) = inr (record {
  other = with.other;
  is = kept_peer s.phase s.role (is_wanted s.role e known s) e.client s.peer with.found ∙ with.is;
  apart = with.apart;
  found = found_establish s.phase s.role (is_wanted s.role e known s);
})

-- Headers.

pub record HeadSide (peer : Guid) (s t : State) : Type 0 where
  pub lost : IsLost peer (Some s) → IsLost peer (Some t)
  pub peered : IsPeered peer s → IsPeered peer t ⊎ IsLost peer (Some t)

closed_side : (peer : Guid) (why : Cause) (s : State) → HeadSide peer s (closing why s).1
closed_side peer why s = record { lost = λ h. inl refl; peered = λ h. inr (inl refl) }

counted_side : (given : HeadHeard) (h : SessionHead) (s : State) → IsSameSide s (counted given (acknowledged h s))
counted_side heard.InOrder h s = record { phase = refl; role = refl; peer = refl }
counted_side (heard.Closed why) h s = record { phase = refl; role = refl; peer = refl }
counted_side heard.OutOfOrder h s = record { phase = refl; role = refl; peer = refl }
counted_side heard.AckOnly h s = record { phase = refl; role = refl; peer = refl }

same_head_side : (peer : Guid) (s t : State) → IsSameSide s t → HeadSide peer s t
same_head_side peer s t same = record { lost = lost_still peer s t same; peered = λ h. inl (peered_still peer s t same h) }

-- what is heard as closing leaves the session closed
pub record HeadLeaves (peer : Guid) (s : State) (given : HeadHeard × State) : Type 0 where
  pub side : HeadSide peer s given.1
  pub closed : (why : Cause) → given.0 ≡ heard.Closed why → is_lost given.1.phase ≡ true

order_open : (h : SessionHead) (s : State) (why : Cause) → order_of h s ≡ heard.Closed why → ⊥
order_open h s why e = at (h.user == 0) (h.user == s.got + 1) e
  where
    at : (none next : Bool) → cond none heard.AckOnly (cond next heard.InOrder heard.OutOfOrder) ≡ heard.Closed why → ⊥
    at true next f = let none : ⊥ = cc in none
    at false true f = let none : ⊥ = cc in none
    at false false f = let none : ⊥ = cc in none

head_side : (peer : Guid) (h : SessionHead) (s : State) (ph : Phase) → s.phase ≡ ph → HeadLeaves peer s (head_in ph h s)
head_side peer h s (phase.Closed why) e = record { side = same_head_side peer s s (same_side s); closed = λ w f. ap is_lost e }
head_side peer h s phase.Ready e = at (is_bad_ack h s)
  where
    at : (b : Bool) → HeadLeaves peer s (cond b (closing cause.BadAck s) (order_of h s, counted (order_of h s) (acknowledged h s)))
    at true = record { side = closed_side peer cause.BadAck s; closed = λ w f. refl }
    at false = record { side = same_head_side peer s (counted (order_of h s) (acknowledged h s)) (counted_side (order_of h s) h s); closed = λ w f. absurd (order_open h s w f) }
head_side peer h s ph e = record { side = closed_side peer cause.Early s; closed = λ w f. refl }

pub head_leaves : (peer : Guid) (h : SessionHead) (s : State) → HeadLeaves peer s (heard_head h s)
head_leaves peer h s = head_side peer h s s.phase refl

pub stored_side : (s : State) → IsSameSide s (noted_stored s)
stored_side s = record { phase = refl; role = refl; peer = refl }
