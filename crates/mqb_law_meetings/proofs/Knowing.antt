-- Managers of a run that are alone are partners: they know each other, and have no connection.
use Rattle.std.proofs.Common.{◌≡◌, ℕ, zero, suc, ◌<◌, ◌||◌, Bool, true, false, cond, nat_lt, not, List, [], ◌∷◌, Option, Some, refl, sym, ap, subst, ◌∙◌, arith}
use Rattle.std.proofs.lemmas.Bool.Decides.{nat_tests}
use Rattle.std.specs.List.{list_any}
use Rattle.std.specs.Prelude.{IfSome, filter, is_some, length, slice_get, slice_index_or}
use Rattle.mqb_base.specs.Same.{same_guid, same_ignoring_case}
use Rattle.mqb_base.specs.declared.ids.Guid.{Guid}
use Rattle.mqb_base.specs.declared.ids.Identity.{Identity}
use Rattle.mqb_model.specs.managers.Manager.{Manager}
use Rattle.mqb_model.specs.records.Peer.{is_met}
use Rattle.mqb_network.specs.Courses.{Course}
use Rattle.mqb_network.specs.Laws.{AreApart}
use Rattle.mqb_network.specs.Network.{is_connected, manager_at, others}
use Rattle.mqb_history.specs.Orderly.{IsItself, IsOrderly}
use Rattle.mqb_law_meetings.specs.Drained.{IsAlone}
use Rattle.mqb_law_meetings.proofs.Lists.{Found, found_of, get_within, same_guid_is, same_guid_refl, within_get}
use Rattle.mqb_law_meetings.proofs.Meeting.{ArePartners}

-- Managers that are apart have different GUIDs.

different_guids : (a b : Guid) → same_guid a b ≡ false → same_guid b a ≡ false
different_guids a b h = at (same_guid b a) refl
  where
    at : (t : Bool) → same_guid b a ≡ t → t ≡ false
    at true e = absurd (let same : same_guid a b ≡ true = subst (λ x. same_guid a x ≡ true) (sym (same_guid_is b a e)) (same_guid_refl a) in let no : ⊥ = cc in no)
    at false e = refl

index_is : {X : Type 0} (xs : List X) (i : ℕ) (x d : X) → slice_get xs i ≡ Some x → slice_index_or xs i d ≡ x
index_is [] i x d e = absurd (let none : ⊥ = cc in none)
index_is (y ∷ ys) zero x d e = cc
index_is (y ∷ ys) (suc i) x d e = index_is ys i x d e

first_of_two : (p q : Bool) → (p || q) ≡ false → p ≡ false
first_of_two true q e = absurd (let no : ⊥ = cc in no)
first_of_two false q e = refl

unmet : (a a' b b' : Identity) → a ≡ a' → b ≡ b' → is_met a b ≡ false → same_guid a'.guid b'.guid ≡ false
unmet a a' b b' e f h = subst (λ z. same_guid z.guid b'.guid ≡ false) e (subst (λ z. same_guid a.guid z.guid ≡ false) f
    (first_of_two (same_guid a.guid b.guid) (same_ignoring_case a.host b.host) h))

pub apart_guids : (known : List Identity) (i j : ℕ) (a b : Identity) → AreApart known → slice_get known i ≡ Some a → slice_get known j ≡ Some b
    → (i ≡ j → ⊥) → same_guid b.guid a.guid ≡ false
apart_guids known i j a b apart x y differ = at (nat_lt i j) refl
  where
    less : nat_lt i j ≡ true → i < j
    less h = grind (arith, nat_tests)

    more : nat_lt i j ≡ false → (i ≡ j → ⊥) → j < i
    more h g = grind (arith, nat_tests)

    at : (t : Bool) → nat_lt i j ≡ t → same_guid b.guid a.guid ≡ false
    at true e = different_guids a.guid b.guid (unmet (slice_index_or known i a) a (slice_index_or known j a) b
        (index_is known i a a x) (index_is known j b a y) (apart i j a (less e) (get_within known j b y)))
    at false e = unmet (slice_index_or known j a) b (slice_index_or known i a) a
        (index_is known j b a y) (index_is known i a a x) (apart j i a (more e differ) (get_within known i a x))

-- another manager is a peer
other_is_peer : (own : Guid) (known : List Identity) (j : ℕ) (other : Identity) → slice_get known j ≡ Some other → same_guid other.guid own ≡ false
    → list_any (λ p. same_guid p.guid other.guid) (filter (λ peer. not (same_guid peer.guid own)) known) ≡ true
other_is_peer own [] j other e apart = absurd (let none : ⊥ = cc in none)
other_is_peer own (p ∷ ps) zero other e apart = at (same_guid p.guid own) (subst (λ (x : Identity). same_guid x.guid own ≡ false) (sym same) apart)
  where
    same : p ≡ other
    same = cc

    at : (b : Bool) → b ≡ false
        → list_any (λ p. same_guid p.guid other.guid) (cond (not b) (p ∷ filter (λ peer. not (same_guid peer.guid own)) ps) (filter (λ peer. not (same_guid peer.guid own)) ps)) ≡ true
    at true f = absurd (let no : ⊥ = cc in no)
    at false f = ap (λ b. b || list_any (λ p. same_guid p.guid other.guid) (filter (λ peer. not (same_guid peer.guid own)) ps))
        (subst (λ (x : Identity). same_guid x.guid other.guid ≡ true) (sym same) (same_guid_refl other.guid))
other_is_peer own (p ∷ ps) (suc j) other e apart = at (same_guid p.guid own) (other_is_peer own ps j other e apart)
  where
    or_true : (b : Bool) → (b || true) ≡ true
    or_true true = refl
    or_true false = refl

    at : (b : Bool) → list_any (λ p. same_guid p.guid other.guid) (filter (λ peer. not (same_guid peer.guid own)) ps) ≡ true
        → list_any (λ p. same_guid p.guid other.guid) (cond (not b) (p ∷ filter (λ peer. not (same_guid peer.guid own)) ps) (filter (λ peer. not (same_guid peer.guid own)) ps)) ≡ true
    at true rest = rest
    at false rest = ap (λ b. same_guid p.guid other.guid || b) rest ∙ or_true (same_guid p.guid other.guid)

-- In an orderly course.

pub if_there : {X : Type 0} (P : X → Type 0) (o : Option X) (x : X) → o ≡ Some x → IfSome o P → P x
if_there P o x e h = subst (λ y. IfSome y P) e h

module _ (known : List Identity) (apart : AreApart known) (c : Course) (o : IsOrderly known c) (i j : ℕ) (in_i : i < length known) (in_j : j < length known) (differ : i ≡ j → ⊥) where
  own : (x : Identity) × (slice_get known i ≡ Some x)
  own = within_get known i in_i

  other : (x : Identity) × (slice_get known j ≡ Some x)
  other = within_get known j in_j

  itself : IsItself known own.0 (manager_at c.network i).state
  itself = if_there (λ x. IsItself known x (manager_at c.network i).state) (slice_get known i) own.0 own.1 (o.themselves i)

  it : IsItself known other.0 (manager_at c.network j).state
  it = if_there (λ x. IsItself known x (manager_at c.network j).state) (slice_get known j) other.0 other.1 (o.themselves j)

  knows : Found (λ (p : Identity). same_guid p.guid (manager_at c.network j).state.identity.guid) (manager_at c.network i).state.peers
  knows = found_of (λ (p : Identity). same_guid p.guid (manager_at c.network j).state.identity.guid) (manager_at c.network i).state.peers
      (ap (λ (ps : List Identity). list_any (λ p. same_guid p.guid (manager_at c.network j).state.identity.guid) ps) itself.peers
      ∙ ap (λ (x : Identity). list_any (λ p. same_guid p.guid x.guid) (others known own.0)) it.identity
      ∙ other_is_peer own.0.guid known j other.0 other.1 (apart_guids known i j own.0 other.0 apart own.1 other.1 differ))

free_at : (known : List Identity) (c : Course) → IsOrderly known c → (i : ℕ) → IsAlone c.network i → is_connected c.network i ≡ false
free_at known c o i alone = sym (o.linked i).session ∙ ap (λ (m : Manager). is_some m.rest.session) alone

pub partners : (known : List Identity) → AreApart known → (c : Course) → IsOrderly known c → (a b : ℕ) → a < length known → b < length known → (a ≡ b → ⊥)
    → IsAlone c.network a → IsAlone c.network b → ArePartners c.network a b (manager_at c.network a).state (manager_at c.network b).state
partners known apart c o a b in_a in_b differ alone_a alone_b =
    let one = knows known apart c o a b in_a in_b differ in
    let two = knows known apart c o b a in_b in_a (λ e. differ (sym e)) in
    record {
      apart = differ;
      at_a = alone_a;
      at_b = alone_b;
      in_a = subst (λ n. a < n) (sym o.count) in_a;
      in_b = subst (λ n. b < n) (sym o.count) in_b;
      free_a = free_at known c o a alone_a;
      free_b = free_at known c o b alone_b;
      place_a = one.place;
      place_b = two.place;
      peer = one.member;
      knows = one.found;
      there = one.there;
      is = same_guid_is one.member.guid (manager_at c.network b).state.identity.guid one.passes;
      known = two.found;
      peer_b = two.member;
      there_b = two.there;
    }
