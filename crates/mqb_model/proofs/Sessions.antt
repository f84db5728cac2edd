-- A session of a manager stays one through whatever it hears and sends.
use Rattle.std.proofs.Common.{refl, sym, subst, ◌∙◌, ◌⊎◌, inl, inr, arith}
use Rattle.std.proofs.lemmas.Bool.Decides.{nat_tests}
use Rattle.std.specs.List.{AllByRecursion}
use Rattle.std.specs.Prelude.{◌+◌, ◌<◌, ◌==◌, ◌||◌, ◌≡◌, ◌≤◌, ◌^◌, Bool, IfSome, IsSome, List, Option, Some, cond, false, length, max, nat_lt, not, option_and_then, position, true, unwrap_or, ℕ}
use Rattle.mqb_base.specs.Same.{same_guid}
use Rattle.mqb_packet.specs.mqb_setup.declared.internal.Establish.{Establish}
use Rattle.mqb_base.specs.declared.heads.SessionHead.{SessionHead}
use Rattle.mqb_base.specs.declared.heard.Cause.{Cause}
use Rattle.mqb_base.specs.declared.heard.Cause.TheVariants as cause
use Rattle.mqb_base.specs.declared.ids.Guid.{Guid}
use Rattle.mqb_base.specs.declared.ids.Identity.{Identity}
use Rattle.mqb_plain.specs.Plain.{PlainLists}
use Rattle.mqb_session.specs.Calls.{IsSettingUp}
use Rattle.mqb_session.specs.Hearing.{acknowledged, after_owed, closing, counted, head_in, is_bad_ack, is_wanted, on_establish, on_parameters, order_of, peer_after}
use Rattle.mqb_session.specs.Phases.{phase_after_establish, phase_after_owed, phase_after_parameters}
use Rattle.mqb_session.specs.Sending.{is_ready, is_used_up, may_send, noted_stored, stamped}
use Rattle.mqb_session.specs.State.{IsKept}
use Rattle.mqb_session.specs.State as one_end
use Rattle.mqb_session.specs.declared.heads.HeadHeard.{HeadHeard}
use Rattle.mqb_session.specs.declared.heads.HeadHeard.TheVariants as head
use Rattle.mqb_session.specs.declared.heads.Kind.{Kind}
use Rattle.mqb_session.specs.declared.heads.Kind.TheVariants as kind
use Rattle.mqb_session.specs.declared.phase.Phase.{Phase}
use Rattle.mqb_session.specs.declared.phase.Phase.TheVariants as phase
use Rattle.mqb_session.specs.declared.phase.Role.{Role}
use Rattle.mqb_session.specs.declared.phase.Role.TheVariants as role
use Rattle.mqb_packet.specs.mqb_setup.declared.internal.Parameters.{Parameters}
use Rattle.mqb_model.specs.managers.Valid.{BearMarks, MarksRise}
use Rattle.mqb_model.proofs.Accord.{IsLinkedTo, peer_in}
use Rattle.mqb_model.proofs.Linking.{bear}
use Rattle.mqb_model.proofs.Marks.{bear_more, none_sent_yet}
use Rattle.mqb_model.proofs.Members.{split_and}

-- Phases: one that sets up comes from one that does.

parameters_set_up : (ph : Phase) (r : Role) → IsSettingUp (phase_after_parameters ph r) → IsSettingUp ph
parameters_set_up phase.Ready r h = h
parameters_set_up (phase.Closed why) r h = h
parameters_set_up ph r h = tt

establish_set_up : (ph : Phase) (r : Role) (wanted : Bool) → IsSettingUp (phase_after_establish ph r wanted) → IsSettingUp ph
establish_set_up phase.Ready r wanted h = h
establish_set_up (phase.Closed why) r wanted h = h
establish_set_up ph r wanted h = tt

owed_set_up : (ph : Phase) (r : Role) → IsSettingUp (phase_after_owed ph r) → IsSettingUp ph
owed_set_up phase.Ready r h = h
owed_set_up (phase.Closed why) r h = h
owed_set_up ph r h = tt

-- the peer stays, or an acceptor that waits finds it
abbrev Finds : Phase → Role → Bool → Type 0
Finds ph r wanted = (ph ≡ phase.WaitEstablish) × (r ≡ role.Acceptor) × (wanted ≡ true)

peer_stays : (ph : Phase) (r : Role) (wanted : Bool) (client : Guid) (kept : Option Guid)
    → (peer_after ph r wanted client kept ≡ kept) ⊎ (Finds ph r wanted × (peer_after ph r wanted client kept ≡ Some client))
peer_stays phase.Start r wanted client kept = inl refl
peer_stays phase.WaitEstablish role.Initiator wanted client kept = inl refl
peer_stays phase.WaitEstablish role.Acceptor false client kept = inl refl
peer_stays phase.WaitEstablish role.Acceptor true client kept = inr ((refl, refl, refl), refl)
peer_stays phase.OweEstablish r wanted client kept = inl refl
peer_stays phase.OweRefusal r wanted client kept = inl refl
peer_stays phase.OweParameters r wanted client kept = inl refl
peer_stays phase.WaitParameters r wanted client kept = inl refl
peer_stays phase.Ready r wanted client kept = inl refl
peer_stays (phase.Closed why) r wanted client kept = inl refl

-- what a header was heard as, where a user packet of it has this
abbrev pub HeardWith : Type 0 → HeadHeard → one_end.State → Type 0
HeardWith From (head.Closed why) session = Unit {0}
HeardWith From head.InOrder session = From × (session.stored < session.got)
HeardWith From head.OutOfOrder session = From
HeardWith From head.AckOnly session = From

module _ (identity : Identity) (peers : List Identity) (plain : List PlainLists) where
  abbrev pub Links : one_end.State → Type 0
  Links session = IsLinkedTo identity peers plain session

  -- a peer with a GUID is known
  abbrev pub IsKnown : Guid → Type 0
  IsKnown guid = IsSome (position (λ p. same_guid p.guid guid) peers)

  -- a session to the same peer that has sent at least as much
  again : (one two : one_end.State) → two.own ≡ one.own → two.peer ≡ one.peer → one.sent ≤ two.sent → one.recoverable_sent ≤ two.recoverable_sent → IsKept two
      → (IsSettingUp two.phase → two.sent ≡ 0) → Links one → Links two
  again one two own peer sent recoverable kept first h = record {
    kept = kept;
    own = own ∙ h.own;
    peer = subst (λ o. IfSome o IsKnown) (sym peer) h.peer;
    first = first;
    marks = bear_more one two (peer_in peers two) 0 plain sent recoverable (subst (λ o. BearMarks one (unwrap_or (option_and_then (λ guid. position (λ p. same_guid p.guid guid) peers) o) (length peers)) 0 plain) (sym peer) h.marks);
  }

  -- its phase and its Establish changed
  phased : (session : one_end.State) (ph : Phase) (e : Establish) (window : ℕ) → (IsSettingUp ph → IsSettingUp session.phase) → Links session
      → Links (record session { phase = ph; establish = e; peer_window = window })
  phased session ph e window set_up h = again session (record session { phase = ph; establish = e; peer_window = window }) refl refl (omega arith) (omega arith)
      (record { acked = h.kept.acked; sent = h.kept.sent; recoverable_acked = h.kept.recoverable_acked; recoverable_sent = h.kept.recoverable_sent; stored = h.kept.stored; got = h.kept.got })
      (λ u. h.first (set_up u)) h

  closed : (session : one_end.State) (why : Cause) → Links session → Links (record session { phase = phase.Closed why })
  closed session why h = phased session (phase.Closed why) session.establish session.peer_window (λ u. absurd u) h

  pub owed_linked : (now : ℕ) (session : one_end.State) → Links session → Links (after_owed now session)
  owed_linked now session h = phased session (after_owed now session).phase (after_owed now session).establish session.peer_window (owed_set_up session.phase session.role) h

  pub parameters_linked : (p : Parameters) (session : one_end.State) → Links session → Links (on_parameters p session)
  parameters_linked p session h = phased session (on_parameters p session).phase session.establish (on_parameters p session).peer_window (parameters_set_up session.phase session.role) h

  pub establish_linked : (e : Establish) (known : Bool) (session : one_end.State) → (known ≡ true → IsKnown e.client) → AllByRecursion MarksRise plain → Links session
      → Links (on_establish e known session)
  establish_linked e known session found rise h = by (peer_stays session.phase session.role wanted e.client session.peer)
    where
      wanted : Bool
      wanted = is_wanted session.role e known session

      set_up : Links (record session { phase = (on_establish e known session).phase; establish = (on_establish e known session).establish; peer_window = session.peer_window })
      set_up = phased session (on_establish e known session).phase (on_establish e known session).establish session.peer_window (establish_set_up session.phase session.role wanted) h

      knows : (r : Role) → r ≡ role.Acceptor → is_wanted r e known session ≡ true → known ≡ true
      knows role.Initiator same e = absurd (let none : ⊥ = cc in none)
      knows role.Acceptor same e = (split_and known _ e).0

      by : (peer_after session.phase session.role wanted e.client session.peer ≡ session.peer)
          ⊎ (Finds session.phase session.role wanted × (peer_after session.phase session.role wanted e.client session.peer ≡ Some e.client)) → Links (on_establish e known session)
      by (inl same) = again (record session { phase = (on_establish e known session).phase; establish = (on_establish e known session).establish; peer_window = session.peer_window })
          (on_establish e known session) refl same (omega arith) (omega arith)
          (record { acked = h.kept.acked; sent = h.kept.sent; recoverable_acked = h.kept.recoverable_acked; recoverable_sent = h.kept.recoverable_sent; stored = h.kept.stored; got = h.kept.got })
          set_up.first set_up
      by (inr finds) = record {
        kept = record { acked = h.kept.acked; sent = h.kept.sent; recoverable_acked = h.kept.recoverable_acked; recoverable_sent = h.kept.recoverable_sent; stored = h.kept.stored; got = h.kept.got };
        own = h.own;
        peer = subst (λ o. IfSome o IsKnown) (sym finds.1) (found (knows session.role (finds.0).1 (finds.0).2));
        first = set_up.first;
        marks = bear (on_establish e known session) (peer_in peers (on_establish e known session)) 0 plain
            (none_sent_yet session (peer_in peers session) 0 plain (h.first (subst IsSettingUp (sym (finds.0).0) tt)) h.kept.recoverable_sent rise h.marks);
      }

  -- Headers.

  within : (sent acked ack : ℕ) → acked ≤ sent → nat_lt sent ack ≡ false → max acked ack ≤ sent
  within sent acked ack le less = let most : ack ≤ sent = grind (arith, nat_tests) in omega (arith, le, most)

  neither : (a b : Bool) → (a || b) ≡ false → (a ≡ false) × (b ≡ false)
  neither true b e = absurd (let none : ⊥ = cc in none)
  neither false b e = (refl, e)

  next : (user got : ℕ) → (user == got + 1) ≡ true → user < 2 ^ 16 → got + 1 ≤ 65535
  next user got e lt = grind (arith, nat_tests)

  pub head_linked : (From : Type 0) (h : SessionHead) (session : one_end.State) (ph : Phase) → session.phase ≡ ph → h.user < 2 ^ 16 → (ph ≡ phase.Ready → From) → Links session
      → Links (head_in ph h session).1 × HeardWith From (head_in ph h session).0 (head_in ph h session).1
  head_linked From h session (phase.Closed why) e small from l = (l, tt)
  head_linked From h session phase.Ready e small from l = bad (is_bad_ack h session) refl
    where
      ready : IsSettingUp session.phase → session.sent ≡ 0
      ready u = absurd (subst IsSettingUp e u)

      ordered : nat_lt session.sent h.ack ≡ false → nat_lt session.recoverable_sent h.stored ≡ false → (none same : Bool) → (h.user == session.got + 1) ≡ same
          → let heard = cond none head.AckOnly (cond same head.InOrder head.OutOfOrder) in
          Links (counted heard (acknowledged h session)) × HeardWith From heard (counted heard (acknowledged h session))
      ordered a r true same f = (
        again session (acknowledged h session) refl refl (omega arith) (omega arith) (record {
          acked = within session.sent session.acked h.ack l.kept.acked a;
          sent = l.kept.sent;
          recoverable_acked = within session.recoverable_sent session.recoverable_acked h.stored l.kept.recoverable_acked r;
          recoverable_sent = l.kept.recoverable_sent;
          stored = l.kept.stored;
          got = l.kept.got;
        }) ready l,
        from refl,
      )
      ordered a r false false f = (
        again session (acknowledged h session) refl refl (omega arith) (omega arith) (record {
          acked = within session.sent session.acked h.ack l.kept.acked a;
          sent = l.kept.sent;
          recoverable_acked = within session.recoverable_sent session.recoverable_acked h.stored l.kept.recoverable_acked r;
          recoverable_sent = l.kept.recoverable_sent;
          stored = l.kept.stored;
          got = l.kept.got;
        }) ready l,
        from refl,
      )
      ordered a r false true f = (
        again session (counted head.InOrder (acknowledged h session)) refl refl (omega arith) (omega arith) (record {
          acked = within session.sent session.acked h.ack l.kept.acked a;
          sent = l.kept.sent;
          recoverable_acked = within session.recoverable_sent session.recoverable_acked h.stored l.kept.recoverable_acked r;
          recoverable_sent = l.kept.recoverable_sent;
          stored = let le = l.kept.stored in omega (arith, le);
          got = next h.user session.got f small;
        }) ready l,
        (from refl, let le = l.kept.stored in omega (arith, le)),
      )

      bad : (b : Bool) → is_bad_ack h session ≡ b
          → Links (cond b (closing cause.BadAck session) (order_of h session, counted (order_of h session) (acknowledged h session))).1
          × HeardWith From (cond b (closing cause.BadAck session) (order_of h session, counted (order_of h session) (acknowledged h session))).0
          (cond b (closing cause.BadAck session) (order_of h session, counted (order_of h session) (acknowledged h session))).1
      bad true f = (closed session cause.BadAck l, tt)
      bad false f = let both = neither (nat_lt session.sent h.ack) (nat_lt session.recoverable_sent h.stored) f in
          ordered both.0 both.1 (h.user == 0) (h.user == session.got + 1) refl
  head_linked From h session ph e small from l = (closed session cause.Early l, tt)

  pub closed_linked : (session : one_end.State) (why : Cause) → Links session → Links (closing why session).1
  closed_linked session why l = closed session why l

  -- What is stored and sent.

  pub stored_linked : (session : one_end.State) → session.stored < session.got → Links session → Links (noted_stored session)
  stored_linked session lt l = again session (noted_stored session) refl refl (omega arith) (omega arith) (record {
    acked = l.kept.acked;
    sent = l.kept.sent;
    recoverable_acked = l.kept.recoverable_acked;
    recoverable_sent = l.kept.recoverable_sent;
    stored = omega (arith, lt);
    got = l.kept.got;
  }) l.first l

  pub ack_linked : (session : one_end.State) → Links session → Links (stamped kind.Ack session).1
  ack_linked session l = again session (stamped kind.Ack session).1 refl refl (omega arith) (omega arith) (record {
    acked = l.kept.acked;
    sent = l.kept.sent;
    recoverable_acked = l.kept.recoverable_acked;
    recoverable_sent = l.kept.recoverable_sent;
    stored = l.kept.stored;
    got = l.kept.got;
  }) l.first l

  -- a session that may send has a number left
  left : (session : one_end.State) → may_send session ≡ true → session.sent ≤ 65535 → session.sent + 1 ≤ 65535
  left session m le = one session.sent (not_used (is_used_up session) (split_and (not (is_used_up session)) _ (split_and (is_ready session.phase) _ m).1).0) le
    where
      not_used : (b : Bool) → not b ≡ true → b ≡ false
      not_used true e = sym e
      not_used false e = refl

      one : (n : ℕ) → (n == 65535) ≡ false → n ≤ 65535 → n + 1 ≤ 65535
      one n e le = grind (arith, nat_tests)

  ready_not : (ph : Phase) → is_ready ph ≡ true → IsSettingUp ph → ⊥
  ready_not phase.Ready e u = u
  ready_not (phase.Closed why) e u = u
  ready_not ph e u = let none : ⊥ = cc in none

  is_ready_where : (session : one_end.State) → may_send session ≡ true → is_ready session.phase ≡ true
  is_ready_where session m = (split_and (is_ready session.phase) _ m).0

  pub sent_linked : (k : Kind) (session : one_end.State) → may_send session ≡ true → Links session → Links (stamped k session).1
  sent_linked kind.Ack session m l = ack_linked session l
  sent_linked kind.Plain session m l = let next = left session m l.kept.sent in let acked = l.kept.acked in let recoverable = l.kept.recoverable_sent in
      again session (stamped kind.Plain session).1 refl refl (omega arith) (omega arith) (record {
        acked = omega (arith, acked);
        sent = next;
        recoverable_acked = l.kept.recoverable_acked;
        recoverable_sent = omega (arith, recoverable);
        stored = l.kept.stored;
        got = l.kept.got;
      }) (λ u. absurd (ready_not session.phase (is_ready_where session m) u)) l
  sent_linked kind.Recoverable session m l = let next = left session m l.kept.sent in let acked = l.kept.acked in let recoverable = l.kept.recoverable_sent in let few = l.kept.recoverable_acked in
      again session (stamped kind.Recoverable session).1 refl refl (omega arith) (omega arith) (record {
        acked = omega (arith, acked);
        sent = next;
        recoverable_acked = omega (arith, few);
        recoverable_sent = omega (arith, recoverable);
        stored = l.kept.stored;
        got = l.kept.got;
      }) (λ u. absurd (ready_not session.phase (is_ready_where session m) u)) l
