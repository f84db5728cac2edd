-- While two managers connect, no record is written: neither session is ready when its manager is pumped.
use Rattle.std.proofs.Common.{refl, ap, sym, subst, ◌∙◌, arith}
use Rattle.std.specs.Prelude.{◌+◌, ◌==◌, ◌<◌, ◌≡◌, ◌≤◌, Bool, IfSome, List, None, Option, Some, false, is_some, length, option_map, slice_get, true, unwrap_or, ℕ}
use Rattle.mqb_base.specs.declared.ids.Guid.{Guid}
use Rattle.mqb_base.specs.declared.ids.Identity.{Identity}
use Rattle.mqb_model.specs.calls.Link.{link, link_refusal, linking, session_for}
use Rattle.mqb_model.specs.declared.answers.Role.{Role}
use Rattle.mqb_model.specs.declared.answers.Role.TheVariants as role
use Rattle.mqb_model.specs.declared.faults.LinkFault.{LinkFault}
use Rattle.mqb_model.specs.managers.Manager.{Manager, is_down}
use Rattle.mqb_model.specs.managers.Outcomes.{succeeded, unless}
use Rattle.mqb_model.specs.state.Resolving.{peer_known}
use Rattle.mqb_model.specs.state.State.{State}
use Rattle.mqb_network.specs.Choices.{Well}
use Rattle.mqb_network.specs.Connecting.{any_connected, any_down, asking, both_linked, exchanged, linked_to, set_up}
use Rattle.mqb_network.specs.Courses.{Course, moved}
use Rattle.mqb_network.specs.Network.{Network, is_connected, manager_at, nobody}
use Rattle.mqb_network.specs.Sending.{flow}
use Rattle.mqb_session.specs.Phases.{phase_after_establish, phase_after_owed, phase_after_parameters}
use Rattle.mqb_session.specs.Sending.{is_ready}
use Rattle.mqb_session.specs.State as one_end
use Rattle.mqb_session.specs.State.{new_initiator}
use Rattle.mqb_session.specs.declared.phase.Phase.{Phase}
use Rattle.mqb_session.specs.declared.phase.Phase.TheVariants.{Closed, OweEstablish, OweParameters, OweRefusal, Ready, Start, WaitEstablish, WaitParameters}
use Rattle.mqb_session.specs.declared.phase.Role as one_role
use Rattle.mqb_session.specs.declared.phase.Role.TheVariants.{Acceptor, Initiator}
use Rattle.mqb_history.specs.Orderly.{IsItself}
use Rattle.mqb_history.proofs.Connections.{split_or}
use Rattle.mqb_history.proofs.Linking.{asks_itself}
use Rattle.mqb_history.proofs.Lists.{apart_numbers, clash, equal_numbers, get_within, none_some, within_get}
use Rattle.mqb_history.proofs.Ordering.{IsOrderlyNetwork, with_at}
use Rattle.mqb_history.proofs.Quiet.{AllMeet, InPhase, IsClosed, IsStill, Meets, flow_still, owes, still_then}

-- Two flows of each set a session up.

-- how often a manager is still to be pumped, at least, before its session is ready
abbrev pumps_left : Phase → one_role.Role → ℕ
pumps_left Start Initiator = 2
pumps_left WaitEstablish Initiator = 1
pumps_left OweParameters Initiator = 1
pumps_left WaitEstablish Acceptor = 2
pumps_left OweEstablish Acceptor = 2
pumps_left OweRefusal Acceptor = 2
pumps_left WaitParameters Acceptor = 1
pumps_left OweParameters Acceptor = 1
pumps_left (Closed cause) r = 2
pumps_left _ _ = 0

at_most : (p : Phase) (r : one_role.Role) → pumps_left p r ≤ 2
at_most Start Initiator = omega arith
at_most Start Acceptor = omega arith
at_most WaitEstablish Initiator = omega arith
at_most WaitEstablish Acceptor = omega arith
at_most OweEstablish Initiator = omega arith
at_most OweEstablish Acceptor = omega arith
at_most OweRefusal Initiator = omega arith
at_most OweRefusal Acceptor = omega arith
at_most OweParameters Initiator = omega arith
at_most OweParameters Acceptor = omega arith
at_most WaitParameters Initiator = omega arith
at_most WaitParameters Acceptor = omega arith
at_most Ready Initiator = omega arith
at_most Ready Acceptor = omega arith
at_most (Closed cause) r = omega arith

-- hearing takes none away
left_by_establish : (p : Phase) (r : one_role.Role) (wanted : Bool) → pumps_left p r ≤ pumps_left (phase_after_establish p r wanted) r
left_by_establish Start r wanted = at_most Start r
left_by_establish WaitEstablish Initiator true = omega arith
left_by_establish WaitEstablish Initiator false = omega arith
left_by_establish WaitEstablish Acceptor true = omega arith
left_by_establish WaitEstablish Acceptor false = omega arith
left_by_establish OweEstablish r wanted = at_most OweEstablish r
left_by_establish OweRefusal r wanted = at_most OweRefusal r
left_by_establish OweParameters r wanted = at_most OweParameters r
left_by_establish WaitParameters r wanted = at_most WaitParameters r
left_by_establish Ready r wanted = at_most Ready r
left_by_establish (Closed cause) r wanted = omega arith

left_by_parameters : (p : Phase) (r : one_role.Role) → pumps_left p r ≤ pumps_left (phase_after_parameters p r) r
left_by_parameters Start r = at_most Start r
left_by_parameters WaitEstablish r = at_most WaitEstablish r
left_by_parameters OweEstablish r = at_most OweEstablish r
left_by_parameters OweRefusal r = at_most OweRefusal r
left_by_parameters OweParameters Initiator = omega arith
left_by_parameters OweParameters Acceptor = omega arith
left_by_parameters WaitParameters Initiator = omega arith
left_by_parameters WaitParameters Acceptor = omega arith
left_by_parameters Ready r = at_most Ready r
left_by_parameters (Closed cause) r = omega arith

-- and a pump one
left_by_owed : (p : Phase) (r : one_role.Role) → pumps_left p r ≤ pumps_left (phase_after_owed p r) r + 1
left_by_owed Start Initiator = omega arith
left_by_owed Start Acceptor = omega arith
left_by_owed WaitEstablish r = omega arith
left_by_owed OweEstablish Initiator = omega arith
left_by_owed OweEstablish Acceptor = omega arith
left_by_owed OweRefusal r = let most = at_most OweRefusal r in omega (arith, most)
left_by_owed OweParameters Initiator = omega arith
left_by_owed OweParameters Acceptor = omega arith
left_by_owed WaitParameters r = omega arith
left_by_owed Ready r = omega arith
left_by_owed (Closed cause) r = omega arith

unready : (p : Phase) (r : one_role.Role) → 0 < pumps_left p r → is_ready p ≡ false
unready Ready Initiator h = absurd (omega (arith, h))
unready Ready Acceptor h = absurd (omega (arith, h))
unready Start r h = refl
unready WaitEstablish r h = refl
unready OweEstablish r h = refl
unready OweRefusal r h = refl
unready OweParameters r h = refl
unready WaitParameters r h = refl
unready (Closed cause) r h = refl

-- so many are left to one end, and to the other
abbrev AreLeft : (a b : ℕ) → (left_a left_b : ℕ) → ℕ → InPhase
AreLeft a b left_a left_b j p r = (j ≡ a → left_a ≤ pumps_left p r) × (j ≡ b → left_b ≤ pumps_left p r)

left_closed : (a b left_a left_b j : ℕ) → IsClosed (AreLeft a b left_a left_b j)
left_closed a b left_a left_b j = record {
  establish = λ p r wanted h. let more = left_by_establish p r wanted in
      (λ e. let n = h.0 e in omega (arith, more, n), λ e. let n = h.1 e in omega (arith, more, n));
  parameters = λ p r h. let more = left_by_parameters p r in
      (λ e. let n = h.0 e in omega (arith, more, n), λ e. let n = h.1 e in omega (arith, more, n));
}

-- one of them flows
first_flows : (a b left_a left_b now : ℕ) (c : Course) → (a ≡ b → ⊥) → AllMeet (AreLeft a b (left_a + 1) left_b) c.network
    → IsStill (AreLeft a b left_a left_b) c (flow a now Well c).after
first_flows a b left_a left_b now c apart h = flow_still (Unit {0}) (AreLeft a b (left_a + 1) left_b) (AreLeft a b left_a left_b) a now c
    (record {
      unready = λ p r h. unready p r (let n = h.0 refl in omega (arith, n));
      sends = λ p r h e. tt;
      stays = fewer a;
      owed = λ p r h. (λ e. let n = h.0 refl in let one = left_by_owed p r in omega (arith, n, one), λ e. absurd (apart e));
    }) fewer (λ u j. left_closed a b left_a left_b j) h
  where
    fewer : (j : ℕ) (p : Phase) (r : one_role.Role) → AreLeft a b (left_a + 1) left_b j p r → AreLeft a b left_a left_b j p r
    fewer j p r h = (λ e. let n = h.0 e in omega (arith, n), h.1)

second_flows : (a b left_a left_b now : ℕ) (c : Course) → (a ≡ b → ⊥) → AllMeet (AreLeft a b left_a (left_b + 1)) c.network
    → IsStill (AreLeft a b left_a left_b) c (flow b now Well c).after
second_flows a b left_a left_b now c apart h = flow_still (Unit {0}) (AreLeft a b left_a (left_b + 1)) (AreLeft a b left_a left_b) b now c
    (record {
      unready = λ p r h. unready p r (let n = h.1 refl in omega (arith, n));
      sends = λ p r h e. tt;
      stays = fewer b;
      owed = λ p r h. (λ e. absurd (apart (sym e)), λ e. let n = h.1 refl in let one = left_by_owed p r in omega (arith, n, one));
    }) fewer (λ u j. left_closed a b left_a left_b j) h
  where
    fewer : (j : ℕ) (p : Phase) (r : one_role.Role) → AreLeft a b left_a (left_b + 1) j p r → AreLeft a b left_a left_b j p r
    fewer j p r h = (h.0, λ e. let n = h.1 e in omega (arith, n))

exchange_still : (a b left_a left_b now : ℕ) (c : Course) → (a ≡ b → ⊥) → AllMeet (AreLeft a b (left_a + 1) (left_b + 1)) c.network
    → IsStill (AreLeft a b left_a left_b) c (exchanged a b now c)
exchange_still a b left_a left_b now c apart h = let one = first_flows a b left_a (left_b + 1) now c apart h in
    still_then (AreLeft a b left_a left_b) c (flow a now Well c).after (exchanged a b now c) one.written
    (second_flows a b left_a left_b now (flow a now Well c).after apart one.sessions)

set_up_still : (a b now : ℕ) (c : Course) → (a ≡ b → ⊥) → AllMeet (AreLeft a b 2 2) c.network → (set_up a b now c).written ≡ c.written
set_up_still a b now c apart h = let one = exchange_still a b 1 1 now c apart h in
    (exchange_still a b 0 0 now (exchanged a b now c) apart one.sessions).written ∙ one.written

-- A manager that waits to be asked by itself goes on waiting.

abbrev Waits : ℕ → ℕ → InPhase
Waits a j p r = j ≡ a → p ≡ WaitEstablish

waiting_flows : (a now : ℕ) (c : Course) → AllMeet (Waits a) c.network → IsStill (Waits a) c (flow a now Well c).after
waiting_flows a now c h = flow_still ⊥ (Waits a) (Waits a) a now c
    (record {
      unready = λ p r h. ap is_ready (h refl);
      sends = λ p r h e. clash (sym e ∙ ap owes (h refl));
      stays = λ p r h. h;
      owed = λ p r h e. ap (λ q. phase_after_owed q r) (h refl);
    }) (λ j p r h. h) (λ none. absurd none) h

waiting_still : (a now : ℕ) (c : Course) → AllMeet (Waits a) c.network → (set_up a a now c).written ≡ c.written
waiting_still a now c h = let one = waiting_flows a now c h in
    let two = waiting_flows a now (flow a now Well c).after one.sessions in
    let three = waiting_flows a now (exchanged a a now c) two.sessions in
    let four = waiting_flows a now (flow a now Well (exchanged a a now c)).after three.sessions in
    four.written ∙ (three.written ∙ (two.written ∙ one.written))

-- Two managers that are linked.

linked_meets : (Q : InPhase) (m : Manager) (end : Role) (window : ℕ) → is_some m.rest.session ≡ false → IfSome (session_for m.state end window) (λ s. Q s.phase s.role)
    → Meets Q (succeeded m (link m end window))
linked_meets Q m end window free h = at (link_refusal m end window)
  where
    none : (o : Option one_end.State) → is_some o ≡ false → IfSome o (λ s. Q s.phase s.role)
    none None e = tt
    none (Some s) e = absurd (clash e)

    at : (o : Option LinkFault) → Meets Q (succeeded m (unless m o (linking m end window)))
    at None = h
    at (Some why) = none m.rest.session free

asking_starts : (s : State) (guid : Guid) (window : ℕ) (Q : InPhase) → Q Start Initiator → IfSome (session_for s (asking s guid) window) (λ s. Q s.phase s.role)
asking_starts s guid window Q h = at (slice_get s.peers (unwrap_or (peer_known s guid) (length s.peers)))
  where
    at : (o : Option Identity) → IfSome (option_map (λ peer. new_initiator s.identity.guid peer.guid window) o) (λ s. Q s.phase s.role)
    at None = tt
    at (Some peer) = h

-- the sessions of a network in which these two have none
no_session : (S : ℕ → InPhase) (n : Network) (a b : ℕ) → is_some (manager_at n a).rest.session ≡ false → is_some (manager_at n b).rest.session ≡ false
    → ((j : ℕ) (p : Phase) (r : one_role.Role) → (j ≡ a → ⊥) → (j ≡ b → ⊥) → S j p r) → AllMeet S n
no_session S n a b free_a free_b others j = at (manager_at n j).rest.session refl
  where
    not_linked : (i : ℕ) → is_some (manager_at n i).rest.session ≡ false → (s : one_end.State) → (manager_at n j).rest.session ≡ Some s → j ≡ i → ⊥
    not_linked i free s e same = clash (sym (ap is_some e) ∙ subst (λ k. is_some (manager_at n k).rest.session ≡ false) (sym same) free)

    at : (o : Option one_end.State) → (manager_at n j).rest.session ≡ o → IfSome o (λ s. S j s.phase s.role)
    at None e = tt
    at (Some s) e = others j s.phase s.role (not_linked a free_a s e) (not_linked b free_b s e)

linked_apart : (n : Network) (a b window_a window_b : ℕ) → (a ≡ b → ⊥) → is_some (manager_at n a).rest.session ≡ false → is_some (manager_at n b).rest.session ≡ false
    → AllMeet (AreLeft a b 2 2) (both_linked a b window_a window_b n)
linked_apart n a b window_a window_b apart free_a free_b j = with_at (Meets (S j)) first b j (succeeded (manager_at first b) (link (manager_at first b) role.Acceptor window_b)) (asked j)
    (λ e. linked_meets (S j) (manager_at first b) role.Acceptor window_b still_free (λ e. omega arith, λ e. omega arith))
  where
    S : ℕ → InPhase
    S = AreLeft a b 2 2

    first : Network
    first = linked_to a b window_a n

    end : Role
    end = asking (manager_at n a).state (manager_at n b).state.identity.guid

    as_linked : Manager
    as_linked = succeeded (manager_at n a) (link (manager_at n a) end window_a)

    asked : (j : ℕ) → Meets (S j) (manager_at first j)
    asked j = with_at (Meets (S j)) n a j as_linked
        (no_session S n a b free_a free_b (λ j p r not_a not_b. (λ e. absurd (not_a e), λ e. absurd (not_b e))) j)
        (λ e. linked_meets (S j) (manager_at n a) end window_a free_a
        (asking_starts (manager_at n a).state (manager_at n b).state.identity.guid window_a (S j) (λ e. omega arith, λ same. absurd (apart (e ∙ same)))))

    still_free : is_some (manager_at first b).rest.session ≡ false
    still_free = with_at (λ m. is_some m.rest.session ≡ false) n a b as_linked free_b (λ e. absurd (apart e))

linked_to_itself : (n : Network) (a window_a window_b : ℕ) → is_some (manager_at n a).rest.session ≡ false
    → is_some (session_for (manager_at n a).state (asking (manager_at n a).state (manager_at n a).state.identity.guid) window_a) ≡ false
    → AllMeet (Waits a) (both_linked a a window_a window_b n)
linked_to_itself n a window_a window_b free alone j = with_at (Meets (Waits a j)) first a j (succeeded (manager_at first a) (link (manager_at first a) role.Acceptor window_b)) (asked j)
    (λ e. linked_meets (Waits a j) (manager_at first a) role.Acceptor window_b still_free (λ e. refl))
  where
    first : Network
    first = linked_to a a window_a n

    end : Role
    end = asking (manager_at n a).state (manager_at n a).state.identity.guid

    as_linked : Manager
    as_linked = succeeded (manager_at n a) (link (manager_at n a) end window_a)

    never : (o : Option one_end.State) → is_some o ≡ false → (Q : InPhase) → IfSome o (λ s. Q s.phase s.role)
    never None e Q = tt
    never (Some s) e Q = absurd (clash e)

    not_there : (o : Option one_end.State) → IfSome o (λ s. ⊥) → is_some o ≡ false
    not_there None h = refl
    not_there (Some s) h = absurd h

    asked : (j : ℕ) → Meets (Waits a j) (manager_at first j)
    asked j = with_at (Meets (Waits a j)) n a j as_linked
        (no_session (Waits a) n a a free free (λ j p r not_a not_b e. absurd (not_a e)) j)
        (λ e. linked_meets (Waits a j) (manager_at n a) end window_a free (never (session_for (manager_at n a).state end window_a) alone (Waits a j)))

    still_free : is_some (manager_at first a).rest.session ≡ false
    still_free = with_at (λ m. is_some m.rest.session ≡ false) n a a as_linked free
        (λ e. not_there as_linked.rest.session (linked_meets (λ p r. ⊥) (manager_at n a) end window_a free (never (session_for (manager_at n a).state end window_a) alone (λ p r. ⊥))))

-- a manager that is up has no peer that is itself
asks_nobody : (known : List Identity) (n : Network) (a window : ℕ) → IsOrderlyNetwork known n → is_down (manager_at n a) ≡ false
    → is_some (session_for (manager_at n a).state (asking (manager_at n a).state (manager_at n a).state.identity.guid) window) ≡ false
asks_nobody known n a window o up = by (slice_get n.managers a) refl
  where
    named : (own : Option Identity) → slice_get known a ≡ own → IfSome own (λ own. IsItself known own (manager_at n a).state) → a < length known
        → is_some (session_for (manager_at n a).state (asking (manager_at n a).state (manager_at n a).state.identity.guid) window) ≡ false
    named None e h lt = let found = within_get known a lt in absurd (none_some (sym e ∙ found.1))
    named (Some own) e h lt = asks_itself known own (manager_at n a).state window h

    by : (x : Option Manager) → slice_get n.managers a ≡ x → is_some (session_for (manager_at n a).state (asking (manager_at n a).state (manager_at n a).state.identity.guid) window) ≡ false
    by None e = absurd (clash (subst (λ x. is_down (unwrap_or x nobody) ≡ false) e up))
    by (Some x) e = named (slice_get known a) refl (o.themselves a) (subst (λ k. a < k) o.count (get_within n.managers a x e))

-- no record is written
pub setting_up_writes_nothing : (known : List Identity) (c : Course) (a b now window_a window_b : ℕ) → IsOrderlyNetwork known c.network
    → any_down c.network a b ≡ false → any_connected c.network a b ≡ false
    → (set_up a b now (moved (both_linked a b window_a window_b) c)).written ≡ c.written
setting_up_writes_nothing known c a b now window_a window_b o up free = by (a == b) refl
  where
    begins : Course
    begins = moved (both_linked a b window_a window_b) c

    free_of : (i : ℕ) → is_connected c.network i ≡ false → is_some (manager_at c.network i).rest.session ≡ false
    free_of i e = (o.linked i).session ∙ e

    free_a : is_some (manager_at c.network a).rest.session ≡ false
    free_a = free_of a (split_or (is_connected c.network a) (is_connected c.network b) free).0

    free_b : is_some (manager_at c.network b).rest.session ≡ false
    free_b = free_of b (split_or (is_connected c.network a) (is_connected c.network b) free).1

    by : (t : Bool) → (a == b) ≡ t → (set_up a b now begins).written ≡ c.written
    by false e = set_up_still a b now begins (apart_numbers a b e) (linked_apart c.network a b window_a window_b (apart_numbers a b e) free_a free_b)
    by true e = subst (λ k. (set_up a k now (moved (both_linked a k window_a window_b) c)).written ≡ c.written) (equal_numbers a b e)
        (waiting_still a now (moved (both_linked a a window_a window_b) c) (linked_to_itself c.network a window_a window_b free_a
        (asks_nobody known c.network a window_a o (split_or (is_down (manager_at c.network a)) (is_down (manager_at c.network b)) up).0)))
