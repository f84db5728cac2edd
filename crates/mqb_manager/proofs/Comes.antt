-- What a pump comes to, case by case.
use Rattle.std.proofs.Common.{refl, sym, ap, ◌∙◌, ◌+◌, ◌<◌, ◌≤◌, arith}
use Rattle.std.proofs.lemmas.Bool.Decides.{nat_tests}
use Rattle.std.proofs.lemmas.Option.{slice_get_past}
use Rattle.std.specs.Option.{option_map_or}
use Rattle.std.specs.Prelude.{[], ◌&&◌, ◌==◌, ◌∷◌, ◌≡◌, Bool, Err, List, None, Ok, Option, Result, Some, false, if◌then◌else◌, length, nat_lt, not, slice_get, true, ℕ}
use Rattle.mqb_base.specs.declared.ids.Identity.{Identity}
use Rattle.mqb_base.specs.declared.heads.SessionHead.{SessionHead}
use Rattle.mqb_packet.specs.declared.packet.Packet.{Packet}
use Rattle.mqb_packet.specs.declared.packet.Packet.TheVariants as packet
use Rattle.mqb_plain.specs.Plain.{PlainLists}
use Rattle.mqb_session.specs.Hearing.{after_owed}
use Rattle.mqb_session.specs.Phases.{owed_by}
use Rattle.mqb_session.specs.Sending.{is_ready, is_spent, may_send, stamped}
use Rattle.mqb_session.specs.State as one_end
use Rattle.mqb_session.specs.declared.heads.Kind.TheVariants as kind
use Rattle.mqb_setup.specs.declared.internal.Internal.{Internal}
use Rattle.mqb_model.specs.calls.pump.Candidates.{Candidate, candidates}
use Rattle.mqb_model.specs.calls.pump.Choosing.{candidate_size, chosen, is_within, may_follow, session_after}
use Rattle.mqb_model.specs.calls.pump.Pump.{PumpOutcome, pump, pump_at, pump_linked, pump_owed, pump_ready, pump_to, pump_with, sending_ack, sending_all, sending_chosen, sending_one, set_up_packet}
use Rattle.mqb_model.specs.declared.faults.PumpFault.{PumpFault}
use Rattle.mqb_model.specs.declared.faults.PumpFault.TheVariants as fault
use Rattle.mqb_model.specs.declared.limits.TheConstants.{MAX_PACKETS}
use Rattle.mqb_model.specs.managers.Manager.{Manager, is_down, linked_peer}
use Rattle.mqb_model.specs.managers.Outcomes.{answering, unless}
use Rattle.mqb_manager.specs.States.{IsUp, ManagerState, manager_of}
use Rattle.mqb_manager.proofs.Conditions.{down_is}

module _ (m : Manager) (now : ℕ) where
  abbrev or_unlinked : Option one_end.State → PumpOutcome
  or_unlinked session = option_map_or (pump_linked m now) session (answering m (Err fault.NotLinked))

  pub comes_down : is_down m ≡ true → pump m now ≡ answering m (Err fault.Down)
  comes_down down = ap (λ (b : Bool). unless m (if b then Some fault.Down else None) (or_unlinked m.rest.session)) down

  up : is_down m ≡ false → pump m now ≡ or_unlinked m.rest.session
  up is = ap (λ (b : Bool). unless m (if b then Some fault.Down else None) (or_unlinked m.rest.session)) is

  pub comes_unlinked : is_down m ≡ false → m.rest.session ≡ None → pump m now ≡ answering m (Err fault.NotLinked)
  comes_unlinked is none = up is ∙ ap or_unlinked none

  linked : (session : one_end.State) → is_down m ≡ false → m.rest.session ≡ Some session → pump m now ≡ pump_linked m now session
  linked session is some = up is ∙ ap or_unlinked some

  pub comes_owed : (session : one_end.State) (part : Internal) → is_down m ≡ false → m.rest.session ≡ Some session → owed_by session.phase now session ≡ Some part
      → pump m now ≡ sending_one m (set_up_packet part) (after_owed now session)
  comes_owed session part is some owed = linked session is some ∙ ap (pump_owed m now session) owed

  owes_none : (session : one_end.State) → is_down m ≡ false → m.rest.session ≡ Some session → owed_by session.phase now session ≡ None
      → pump m now ≡ pump_ready m now session
  owes_none session is some owed = linked session is some ∙ ap (pump_owed m now session) owed

  pub comes_unready : (session : one_end.State) → is_down m ≡ false → m.rest.session ≡ Some session → owed_by session.phase now session ≡ None
      → is_ready session.phase ≡ false → pump m now ≡ answering m (Ok 0)
  comes_unready session is some owed not_ready = owes_none session is some owed
      ∙ ap (λ (b : Bool). if b then pump_at m now session (linked_peer m.state session) else answering m (Ok 0)) not_ready

  pub comes_ready : (session : one_end.State) → is_down m ≡ false → m.rest.session ≡ Some session → owed_by session.phase now session ≡ None
      → is_ready session.phase ≡ true → pump m now ≡ pump_at m now session (linked_peer m.state session)
  comes_ready session is some owed ready = owes_none session is some owed
      ∙ ap (λ (b : Bool). if b then pump_at m now session (linked_peer m.state session) else answering m (Ok 0)) ready

  -- To the peer at an index.

  pub comes_nowhere : (session : one_end.State) (k : ℕ) → length m.state.peers ≤ k → pump_at m now session k ≡ answering m (Ok 0)
  comes_nowhere session k past = ap (λ (o : Option Identity). option_map_or (λ peer. option_map_or (pump_to m now session k peer)
      (slice_get m.state.plain k) (answering m (Ok 0))) o (answering m (Ok 0))) (slice_get_past m.state.peers k past)

  module _ (session : one_end.State) (k : ℕ) (peer : Identity) (p : PlainLists) where
    abbrev going : List Candidate
    going = candidates m.state m.rest now k peer p

    pub comes_to : slice_get m.state.peers k ≡ Some peer → slice_get m.state.plain k ≡ Some p → pump_at m now session k ≡ pump_with m now session k peer.guid going
    comes_to here there = ap (λ (o : Option Identity). option_map_or (λ peer. option_map_or (pump_to m now session k peer)
        (slice_get m.state.plain k) (answering m (Ok 0))) o (answering m (Ok 0))) here
        ∙ ap (λ (o : Option PlainLists). option_map_or (pump_to m now session k peer) o (answering m (Ok 0))) there

    with_test : (b : Bool) → (is_spent session && not (length going == 0)) ≡ b
        → pump_with m now session k peer.guid going ≡ (if b then answering m (Err fault.Spent) else sending_chosen m now session k peer.guid (chosen session 0 0 going))
    with_test b is = ap (λ (b : Bool). if b then answering m (Err fault.Spent) else sending_chosen m now session k peer.guid (chosen session 0 0 going)) is

    pub comes_spent : (is_spent session && not (length going == 0)) ≡ true → pump_with m now session k peer.guid going ≡ answering m (Err fault.Spent)
    comes_spent is = with_test true is

    pub comes_idle : (is_spent session && not (length going == 0)) ≡ false → length (chosen session 0 0 going) ≡ 0
        → pump_with m now session k peer.guid going ≡ sending_ack m session
    comes_idle is none = with_test false is ∙ at (chosen session 0 0 going) none
      where
        at : (cs : List Candidate) → length cs ≡ 0 → sending_chosen m now session k peer.guid cs ≡ sending_ack m session
        at [] none = refl
        at (c ∷ cs) none = absurd (let no : ⊥ = omega (arith, none) in no)

    pub comes_sent : (is_spent session && not (length going == 0)) ≡ false → 0 < length (chosen session 0 0 going)
        → pump_with m now session k peer.guid going ≡ sending_all m now session k peer.guid (chosen session 0 0 going)
    comes_sent is some = with_test false is ∙ at (chosen session 0 0 going) some
      where
        at : (cs : List Candidate) → 0 < length cs → sending_chosen m now session k peer.guid cs ≡ sending_all m now session k peer.guid cs
        at [] some = absurd (let no : ⊥ = omega (arith, some) in no)
        at (c ∷ cs) some = refl

-- A session acknowledgement goes, or nothing.

pub ack_goes : (m : Manager) (session : one_end.State) → session.owes ≡ true
    → sending_ack m session ≡ sending_one m (packet.Ack (stamped kind.Ack session).0) (stamped kind.Ack session).1
ack_goes m session is = ap (λ (b : Bool). if b then sending_one m (packet.Ack (stamped kind.Ack session).0) (stamped kind.Ack session).1
    else answering m (Ok 0)) is

pub no_ack_goes : (m : Manager) (session : one_end.State) → session.owes ≡ false → sending_ack m session ≡ answering m (Ok 0)
no_ack_goes m session is = ap (λ (b : Bool). if b then sending_one m (packet.Ack (stamped kind.Ack session).0) (stamped kind.Ack session).1
    else answering m (Ok 0)) is

-- At most so many packets go.

may_be_few : (a c : Bool) (count : ℕ) → (a && nat_lt count MAX_PACKETS && c) ≡ true → count < MAX_PACKETS
may_be_few a c count is = grind (arith, nat_tests)

few_from : (session : one_end.State) (count bytes : ℕ) (cs : List Candidate) → count ≤ MAX_PACKETS → count + length (chosen session count bytes cs) ≤ MAX_PACKETS
few_from session count bytes [] le = omega (arith, le)
few_from session count bytes (c ∷ cs) le = at (may_follow session count bytes c) refl
    (λ less. few_from (session_after session c) (count + 1) (bytes + candidate_size c) cs (omega (arith, less)))
  where
    at : (b : Bool) → may_follow session count bytes c ≡ b
        → (count < MAX_PACKETS → (count + 1) + length (chosen (session_after session c) (count + 1) (bytes + candidate_size c) cs) ≤ MAX_PACKETS)
        → count + length (if b then c ∷ chosen (session_after session c) (count + 1) (bytes + candidate_size c) cs else []) ≤ MAX_PACKETS
    at false is rest = omega (arith, le)
    at true is rest =
        let more = rest (may_be_few (may_send session) (is_within count bytes c) count is) in
        omega (arith, more)

pub chosen_few : (session : one_end.State) (cs : List Candidate) → length (chosen session 0 0 cs) ≤ MAX_PACKETS
chosen_few session cs = let few = few_from session 0 0 cs (omega arith) in omega (arith, few)

-- As the code finds it.

pub owed_is : (m : ManagerState) (now : ℕ) (session : one_end.State) (part : Internal) (p : Packet) (behind : one_end.State) → IsUp m → m.session ≡ Some session
    → owed_by session.phase now session ≡ Some part → p ≡ set_up_packet part → behind ≡ after_owed now session
    → pump (manager_of m) now ≡ sending_one (manager_of m) p behind
owed_is m now session part p behind up linked owed is left = comes_owed (manager_of m) now session part (down_is m ∙ up) linked owed
    ∙ ap (λ (p : Packet). sending_one (manager_of m) p (after_owed now session)) (sym is)
    ∙ ap (sending_one (manager_of m) p) (sym left)

pub ack_is : (m : Manager) (session : one_end.State) (head : SessionHead) (p : Packet) (behind : one_end.State) → session.owes ≡ true
    → head ≡ (stamped kind.Ack session).0 → p ≡ packet.Ack head → behind ≡ (stamped kind.Ack session).1
    → sending_ack m session ≡ sending_one m p behind
ack_is m session head p behind owes is spelled left = ack_goes m session owes
    ∙ ap (λ (h : SessionHead). sending_one m (packet.Ack h) (stamped kind.Ack session).1) (sym is)
    ∙ ap (λ (p : Packet). sending_one m p (stamped kind.Ack session).1) (sym spelled)
    ∙ ap (sending_one m p) (sym left)

abbrev answer_of : PumpOutcome → Result ℕ PumpFault
answer_of o = o.answer

pub ack_answers : (m : Manager) (session : one_end.State) → (sending_ack m session).answer ≡ Err fault.DiskFault → ⊥
ack_answers m session = at session.owes
  where
    at : (b : Bool) → answer_of (if b then sending_one m (packet.Ack (stamped kind.Ack session).0) (stamped kind.Ack session).1 else answering m (Ok 0)) ≡ Err fault.DiskFault → ⊥
    at true same = let none : ⊥ = cc in none
    at false same = let none : ⊥ = cc in none

pub is_below : (k n : ℕ) → nat_lt k n ≡ true → k < n
is_below k n is = grind (arith, nat_tests)

pub is_past : (k n : ℕ) → nat_lt k n ≡ false → n ≤ k
is_past k n is = grind (arith, nat_tests)

pub none_there : (n k : ℕ) → (n == 0) ≡ true → n ≡ k → k ≡ 0
none_there n k is same = grind (arith, nat_tests)

pub some_there : (n k : ℕ) → (n == 0) ≡ false → n ≡ k → 0 < k
some_there n k is same = grind (arith, nat_tests)
