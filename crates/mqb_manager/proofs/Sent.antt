-- Each way in which a pump ends.
use Rattle.std.proofs.Common.{◌∷◌, zero, suc, arith, refl, sym, ap, subst, ◌∙◌}
use Rattle.std.proofs.lemmas.List.{append-nil}
use Rattle.std.proofs.lemmas.List.Elements.{All-cons, All-nil}
use Rattle.std.specs.Prelude.{[], ◌&&◌, ◌++◌, ◌<◌, ◌==◌, ◌≡◌, All, Err, IfSome, IsSomeAnd, List, None, Ok, OnErr, OnOk, Option, Result, Some, false, flat_map, length, not, slice_get, true, ℕ}
use Rattle.mqb_base.specs.declared.ids.Identity.{Identity}
use Rattle.mqb_outside.specs.Disk.{Counted, Lawful, View}
use Rattle.mqb_packet.specs.Plain.{plain_spelling}
use Rattle.mqb_packet.specs.Values.{IsPacket}
use Rattle.mqb_packet.specs.declared.packet.Packet.{Packet}
use Rattle.mqb_plain.specs.Plain.{PlainLists}
use Rattle.mqb_session.specs.Sending.{is_spent}
use Rattle.mqb_session.specs.State as one_end
use Rattle.mqb_choosing.specs.Going.{known}
use Rattle.mqb_model.specs.calls.pump.Candidates.{Candidate, candidates}
use Rattle.mqb_model.specs.calls.pump.Choosing.{chosen}
use Rattle.mqb_model.specs.calls.pump.Pump.{PumpOutcome, pump, pump_at, sending_ack, sending_all}
use Rattle.mqb_model.specs.declared.faults.PumpFault.{PumpFault}
use Rattle.mqb_model.specs.declared.faults.PumpFault.TheVariants as fault
use Rattle.mqb_model.specs.managers.Manager.{Manager, Rest}
use Rattle.mqb_model.specs.managers.Outcomes.{answering}
use Rattle.mqb_model.specs.managers.Valid.{IsValidManager}
use Rattle.mqb_model.specs.records.Record.{Record}
use Rattle.mqb_model.specs.state.State.{State}
use Rattle.mqb_manager.specs.Pumps.{ComesToSend, IsPumped, going_to, waiting_for}
use Rattle.mqb_manager.specs.Quiet.{IsQuiet}
use Rattle.mqb_manager.specs.States.{ManagerState, manager_of}
use Rattle.mqb_manager.proofs.Calls.{unmade_call}
use Rattle.mqb_manager.proofs.Comes.{comes_idle, comes_sent, comes_spent, comes_to}
use Rattle.mqb_manager.proofs.Quiet.{quiet_answer, quiet_call}
use Rattle.mqb_manager.proofs.Spelled.{candidates_are}

apart : fault.Memory ≡ fault.DiskFault → ⊥
apart same = let none : ⊥ = cc in none

no_record : {V E : Type 0} (P : Record → Type 0) (r : Result V E) (o : Option Record) → o ≡ None → OnOk r (IfSome o P)
no_record P (Ok v) o none = subst (λ (o : Option Record). IfSome o P) (sym none) tt
no_record P (Err e) o none = tt

-- one packet fits
pub one_fits : (r : Result ℕ PumpFault) (p : Packet) → IsPacket p → OnOk r (All IsPacket (p ∷ []))
one_fits (Ok count) p fits = All-cons IsPacket p [] fits (All-nil IsPacket)
one_fits (Err why) p fits = tt

module _ (d : View) (kept : Type 0) (m : ManagerState) (law : Lawful d) (same : kept) where
  -- without a call of the disk
  pub quiet_pumped : (n : ManagerState) (o p : PumpOutcome) (before after : List ℕ) (r : Result ℕ PumpFault) → o ≡ p → (p.answer ≡ Err fault.DiskFault → ⊥)
      → IsQuiet fault.Memory m n p r → OnOk r (after ≡ before ++ flat_map plain_spelling p.packets) → OnOk r (All IsPacket p.packets) → OnErr r (after ≡ before)
      → IsPumped d d kept m n o before after r
  quiet_pumped n o p before after r is fine quiet sent fits refused = subst (λ (q : PumpOutcome). IsPumped d d kept m n q before after r) (sym is) (record {
    call = quiet_call fault.Memory fault.DiskFault d m n p r law apart fine quiet;
    sent = sent;
    fits = fits;
    refused = refused;
    untouched = λ none. same;
    memory = λ wanting. same;
    calls = no_record (λ _. Counted 4 d.calls d.calls) r p.entry quiet.entry;
  })

  none_sent : (before : List ℕ) (r : Result ℕ PumpFault) → OnOk r (before ≡ before ++ [])
  none_sent before (Ok count) = sym (append-nil before)
  none_sent before (Err why) = tt

  none_fit : (r : Result ℕ PumpFault) → OnOk r (All IsPacket [])
  none_fit (Ok count) = All-nil IsPacket
  none_fit (Err why) = tt

  none_refused : (before : List ℕ) (r : Result ℕ PumpFault) → OnErr r (before ≡ before)
  none_refused before (Ok count) = tt
  none_refused before (Err why) = refl

  -- an answer alone
  pub answer_pumped : (o : PumpOutcome) (answer : Result ℕ PumpFault) (before : List ℕ) → IsValidManager (manager_of m) → o ≡ answering (manager_of m) answer
      → (answer ≡ Err fault.DiskFault → ⊥) → IsPumped d d kept m m o before before answer
  answer_pumped o answer before valid is fine = quiet_pumped m o (answering (manager_of m) answer) before before answer is fine
      (quiet_answer fault.Memory m answer valid) (none_sent before answer) (none_fit answer) (none_refused before answer)

  -- memory is wanting
  pub memory_pumped : (o : PumpOutcome) (before after : List ℕ) → after ≡ before → IsPumped d d kept m m o before after (Err fault.Memory)
  memory_pumped o before after stays = record {
    call = unmade_call fault.Memory fault.DiskFault d m o law apart;
    sent = tt;
    fits = tt;
    refused = stays;
    untouched = λ none. same;
    memory = λ wanting. same;
    calls = tt;
  }

-- What it comes to, as the code finds it.

pub known_is : (m : ManagerState) (session : one_end.State) → m.session ≡ Some session → (manager_of m).rest ≡ known session m.cursors m.owes
known_is m session is = ap (λ (s : Option one_end.State). record { session = s; cursors = m.cursors; owes = m.owes }) is

-- the peer at an index is there, and so are its lists
pub record IsPeer (s : State) (k : ℕ) : Type 0 where
  pub peer : Identity
  pub lists : PlainLists
  pub here : slice_get s.peers k ≡ Some peer
  pub there : slice_get s.plain k ≡ Some lists

got_one : {X : Type 0} (xs : List X) (k : ℕ) → k < length xs → (x : X) × (slice_get xs k ≡ Some x)
got_one [] k less = absurd (let none : ⊥ = omega (arith, less) in none)
got_one (x ∷ xs) zero less = (x, refl)
got_one (x ∷ xs) (suc k) less = got_one xs k (omega (arith, less))

pub peer_there : (m : Manager) (k : ℕ) → IsValidManager m → k < length m.state.peers → IsPeer m.state k
peer_there m k valid less =
    let one = got_one m.state.peers k less in
    let two = got_one m.state.plain k (omega (arith, less, valid.state.plain_lists)) in
    record { peer = one.0; lists = two.0; here = one.1; there = two.1 }

module _ (m : ManagerState) (session : one_end.State) (now k : ℕ) (linked : m.session ≡ Some session) (x : IsPeer m.store.state k) where
  waiting_is : waiting_for m session now k ≡ candidates m.store.state (manager_of m).rest now k x.peer x.lists
  waiting_is = candidates_are m.store.state (known session m.cursors m.owes) now k x.peer x.lists x.here x.there
      ∙ ap (λ (rest : Rest). candidates m.store.state rest now k x.peer x.lists) (sym (known_is m session linked))

  pub spent_is : pump (manager_of m) now ≡ pump_at (manager_of m) now session k → (is_spent session && not (length (waiting_for m session now k) == 0)) ≡ true
      → pump (manager_of m) now ≡ answering (manager_of m) (Err fault.Spent)
  spent_is comes is = comes ∙ comes_to (manager_of m) now session k x.peer x.lists x.here x.there
      ∙ comes_spent (manager_of m) now session k x.peer x.lists (subst (λ (cs : List Candidate). (is_spent session && not (length cs == 0)) ≡ true) waiting_is is)

  pub idle_is : pump (manager_of m) now ≡ pump_at (manager_of m) now session k → (is_spent session && not (length (waiting_for m session now k) == 0)) ≡ false
      → length (going_to m session now k) ≡ 0 → pump (manager_of m) now ≡ sending_ack (manager_of m) session
  idle_is comes is none = comes ∙ comes_to (manager_of m) now session k x.peer x.lists x.here x.there
      ∙ comes_idle (manager_of m) now session k x.peer x.lists (subst (λ (cs : List Candidate). (is_spent session && not (length cs == 0)) ≡ false) waiting_is is)
      (subst (λ (cs : List Candidate). length (chosen session 0 0 cs) ≡ 0) waiting_is none)

  pub sent_is : pump (manager_of m) now ≡ pump_at (manager_of m) now session k → (is_spent session && not (length (waiting_for m session now k) == 0)) ≡ false
      → 0 < length (going_to m session now k) → ComesToSend m session now k
  sent_is comes is some = subst (λ (o : Option Identity). IsSomeAnd o (λ to. pump (manager_of m) now ≡ sending_all (manager_of m) now session k to.guid (going_to m session now k))) (sym x.here)
      (comes ∙ comes_to (manager_of m) now session k x.peer x.lists x.here x.there
      ∙ comes_sent (manager_of m) now session k x.peer x.lists (subst (λ (cs : List Candidate). (is_spent session && not (length cs == 0)) ≡ false) waiting_is is)
      (subst (λ (cs : List Candidate). 0 < length (chosen session 0 0 cs)) waiting_is some)
      ∙ ap (λ (cs : List Candidate). sending_all (manager_of m) now session k x.peer.guid (chosen session 0 0 cs)) (sym waiting_is))
