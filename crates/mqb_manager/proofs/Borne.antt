-- The marks of the plain messages for the peer of a session are numbers that it sent.
use Rattle.std.proofs.Common.{subst, zero, suc, arith}
use Rattle.std.proofs.lemmas.Bool.Decides.{nat_tests}
use Rattle.std.proofs.lemmas.Option.{none-some, same_Some}
use Rattle.std.specs.Prelude.{[], ◌+◌, ◌==◌, ◌∷◌, ◌≡◌, Bool, List, Option, Some, slice_get, true, ℕ}
use Rattle.mqb_plain.specs.Plain.{PlainLists}
use Rattle.mqb_session.specs.State as one_end
use Rattle.mqb_model.specs.managers.Manager.{Condition, Manager, Up, linked_peer}
use Rattle.mqb_model.specs.managers.Valid.{BearMarks, IsLinkedWell, IsSentIn, IsSessionOf, IsValidManager, MayBear}

same_number : (a b : ℕ) → a ≡ b → (a == b) ≡ true
same_number a b is = grind (arith, nat_tests)

borne_at : (session : one_end.State) (peer k j : ℕ) (ps : List PlainLists) (p : PlainLists) → BearMarks session peer k ps → k + j ≡ peer → slice_get ps j ≡ Some p
    → IsSentIn session p
borne_at session peer k j [] p bear is here = absurd (none-some p here)
borne_at session peer k zero (q ∷ ps) p bear is here =
    let at : (k == peer) ≡ true = same_number k peer (omega (arith, is)) in
    subst (IsSentIn session) (same_Some q p here) (subst (λ (b : Bool). MayBear b session q) at bear.0)
borne_at session peer k (suc j) (q ∷ ps) p bear is here = borne_at session peer (k + 1) j ps p bear.1 (omega (arith, is)) here

pub borne : (m : Manager) (session : one_end.State) (p : PlainLists) → IsValidManager m → m.condition ≡ Up → m.rest.session ≡ Some session
    → slice_get m.state.plain (linked_peer m.state session) ≡ Some p → IsSentIn session p
borne m session p valid up some here = borne_at session k 0 k m.state.plain p well.marks (omega arith) here
  where
    k : ℕ
    k = linked_peer m.state session

    well : IsSessionOf m.state session
    well = subst (λ (o : Option one_end.State). IsLinkedWell m.state Up o) some (subst (λ (c : Condition). IsLinkedWell m.state c m.rest.session) up valid.session)
