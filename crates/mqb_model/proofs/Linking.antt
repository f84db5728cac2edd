-- A manager stays valid where a connection begins.
use Rattle.std.proofs.Common.{refl, ap, sym, subst, ◌∙◌, length, arith}
use Rattle.std.proofs.lemmas.List.Elements.{recursion_from_All}
use Rattle.std.proofs.lemmas.Bool.Decides.{nat_tests}
use Rattle.std.specs.List.{AllByRecursion, prefix_len}
use Rattle.std.specs.Prelude.{◌+◌, ◌<◌, ◌==◌, ◌&&◌, ◌∷◌, ◌≡◌, ◌≤◌, [], All, Bool, IfSome, IsNone, IsSome, List, None, Option, Some, cond, false, is_none, is_some, nat_lt, not, option_map, position, slice_get, suc, true, zero, ℕ}
use Rattle.mqb_base.specs.Same.{same_bytes, same_guid}
use Rattle.mqb_base.specs.declared.ids.Identity.{Identity}
use Rattle.mqb_plain.specs.Plain.{PlainLists}
use Rattle.mqb_session.specs.State.{new_acceptor, new_initiator}
use Rattle.mqb_session.specs.State as one_end
use Rattle.mqb_model.specs.calls.Link.{linking, session_for}
use Rattle.mqb_model.specs.declared.answers.Role.{Role}
use Rattle.mqb_model.specs.declared.answers.Role.TheVariants as role
use Rattle.mqb_model.specs.declared.faults.LinkFault.TheVariants as fault
use Rattle.mqb_model.specs.laws.Keeping.{LinkedIsValid}
use Rattle.mqb_model.specs.managers.Manager.{Condition, Down, Manager, Up, is_down, linked_peer}
use Rattle.mqb_model.specs.managers.Outcomes.{answering, succeeded, unless}
use Rattle.mqb_model.specs.managers.Valid.{BearMarks, IsLinkedWell, IsSessionOf, IsUnsent, IsValidManager, MayBear}
use Rattle.mqb_model.specs.state.State.{State}
use Rattle.mqb_model.proofs.Members.{some_is}
use Rattle.mqb_model.proofs.Standing.{refused_is_same, stays}

-- The first member that passes stands within the list where some member does.
found_within : {X : Type 0} (p : X → Bool) (xs : List X) (k : ℕ) (x : X) → slice_get xs k ≡ Some x → p x ≡ true → prefix_len (λ x. not (p x)) xs < length xs
found_within p [] k x e t = absurd (let none : ⊥ = cc in none)
found_within p (z ∷ zs) zero x e t = at (p z) (ap p (some_is z x e) ∙ t)
  where
    at : (b : Bool) → b ≡ true → cond (not b) (1 + prefix_len (λ x. not (p x)) zs) 0 < suc (length zs)
    at true h = omega arith
    at false h = absurd (let none : ⊥ = cc in none)
found_within p (z ∷ zs) (suc k) x e t = at (p z) (found_within p zs k x e t)
  where
    at : (b : Bool) → prefix_len (λ x. not (p x)) zs < length zs → cond (not b) (1 + prefix_len (λ x. not (p x)) zs) 0 < suc (length zs)
    at true h = omega arith
    at false h = omega arith

pub position_there : {X : Type 0} (p : X → Bool) (xs : List X) (k : ℕ) (x : X) → slice_get xs k ≡ Some x → p x ≡ true → IsSome (position p xs)
position_there p xs k x e t = at (nat_lt (prefix_len (λ x. not (p x)) xs) (length xs)) (within (prefix_len (λ x. not (p x)) xs) (length xs) (found_within p xs k x e t))
  where
    within : (a b : ℕ) → a < b → nat_lt a b ≡ true
    within a b h = grind (arith, nat_tests)

    at : (b : Bool) → b ≡ true → is_some (cond b (Some (prefix_len (λ x. not (p x)) xs)) None) ≡ true
    at true h = refl
    at false h = h

pub itself : (n : ℕ) → (n == n) ≡ true
itself n = grind (arith, nat_tests)

pub same_itself : (bytes : List ℕ) → same_bytes bytes bytes ≡ true
same_itself [] = refl
same_itself (b ∷ bytes) = ap (λ x. x && same_bytes bytes bytes) (itself b) ∙ same_itself bytes

-- What was not sent bears no mark of any session.

none_if : {X : Type 0} (Q : X → Type 0) (o : Option X) → IsNone o → IfSome o Q
none_if Q None h = tt
none_if Q (Some x) h = absurd (let none : ⊥ = cc in none)

pub may_bear : (session : one_end.State) (p : PlainLists) (b : Bool) → IsUnsent p → MayBear b session p
may_bear session p false h = h
may_bear session p true h = record {
  recoverable = λ k d lt. none_if (λ mark. mark ≤ session.recoverable_sent) _ (h.recoverable k d lt);
  express = λ k d lt. none_if (λ mark. mark ≤ session.sent) _ (h.express k d lt);
}

pub bear : (session : one_end.State) (peer k : ℕ) (ps : List PlainLists) → AllByRecursion IsUnsent ps → BearMarks session peer k ps
bear session peer k [] h = tt
bear session peer k (p ∷ ps) h = (may_bear session p (k == peer) h.0, bear session peer (k + 1) ps h.1)

-- a session that begins is one of the manager
session_begins : (s : State) (end : Role) (window : ℕ) (session : one_end.State) → session_for s end window ≡ Some session → All IsUnsent s.plain → IsSessionOf s session
session_begins s (role.Initiator k) window session e unsent = at (slice_get s.peers k) refl e
  where
    at : (o : Option Identity) → slice_get s.peers k ≡ o → option_map (λ peer. new_initiator s.identity.guid peer.guid window) o ≡ Some session → IsSessionOf s session
    at None there e = absurd (let none : ⊥ = cc in none)
    at (Some peer) there e = subst (IsSessionOf s) (some_is (new_initiator s.identity.guid peer.guid window) session e) (record {
      kept = record { acked = omega arith; sent = omega arith; recoverable_acked = omega arith; recoverable_sent = omega arith; stored = omega arith; got = omega arith };
      own = refl;
      first = λ set_up. refl;
      peer = position_there (λ p. same_guid p.guid peer.guid) s.peers k peer there (same_itself peer.guid.0);
      marks = bear (new_initiator s.identity.guid peer.guid window) (linked_peer s (new_initiator s.identity.guid peer.guid window)) 0 s.plain (recursion_from_All IsUnsent s.plain unsent);
    })
session_begins s role.Acceptor window session e unsent = subst (IsSessionOf s) (some_is (new_acceptor s.identity.guid window) session e) (record {
  kept = record { acked = omega arith; sent = omega arith; recoverable_acked = omega arith; recoverable_sent = omega arith; stored = omega arith; got = omega arith };
  own = refl;
  first = λ set_up. refl;
  peer = tt;
  marks = bear (new_acceptor s.identity.guid window) (linked_peer s (new_acceptor s.identity.guid window)) 0 s.plain (recursion_from_All IsUnsent s.plain unsent);
})

-- a manager that is up and not linked has the session
linked_well : (s : State) (c : Condition) (o : Option one_end.State) (end : Role) (window : ℕ) → (elim c [ Up ↦ false | Down doubt ↦ true ]) ≡ false
    → is_some o ≡ false → is_none (session_for s end window) ≡ false → IsLinkedWell s c o → IsLinkedWell s c (session_for s end window)
linked_well s (Down doubt) o end window up apart there well = absurd (let none : ⊥ = cc in none)
linked_well s Up (Some session) end window up apart there well = absurd (let none : ⊥ = cc in none)
linked_well s Up None end window up apart there well = at (session_for s end window) refl there
  where
    at : (o : Option one_end.State) → session_for s end window ≡ o → is_none o ≡ false → IsLinkedWell s Up o
    at None e n = absurd (let none : ⊥ = cc in none)
    at (Some session) e n = session_begins s end window session e well

linking_valid : (m : Manager) (end : Role) (window : ℕ) → is_down m ≡ false → is_some m.rest.session ≡ false → is_none (session_for m.state end window) ≡ false
    → IsValidManager m → IsValidManager (succeeded m (linking m end window))
linking_valid m end window up apart there v = record {
  state = v.state;
  express = v.express;
  marks = v.marks;
  session = linked_well m.state m.condition m.rest.session end window up apart there v.session;
  cursors = ap length (stays 0 (length m.state.outs) m.rest.cursors v.cursors) ∙ v.cursors;
  owes = ap length (stays false (length m.state.ins) m.rest.owes v.owes) ∙ v.owes;
  doubt = v.doubt;
}

pub linked_is_valid : LinkedIsValid
linked_is_valid m end window v = at (is_down m) refl (is_some m.rest.session) refl (is_none (session_for m.state end window)) refl
  where
    same : IsValidManager (succeeded m (answering m true))
    same = subst IsValidManager (sym (refused_is_same m true v)) v

    at : (down : Bool) → is_down m ≡ down → (linked : Bool) → is_some m.rest.session ≡ linked → (lost : Bool) → is_none (session_for m.state end window) ≡ lost
        → IsValidManager (succeeded m (unless m (cond down (Some fault.Down) (cond linked (Some fault.Linked) (cond lost (Some fault.NoPeer) None))) (linking m end window)))
    at true d linked l lost n = same
    at false d true l lost n = same
    at false d false l true n = same
    at false d false l false n = linking_valid m end window d l n v
