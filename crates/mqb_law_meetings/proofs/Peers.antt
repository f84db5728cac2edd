-- In an orderly course a manager knows another one by its own identity.
use Rattle.std.proofs.Common.{◌≡◌, ℕ, zero, suc, ◌<◌, ◌==◌, Bool, true, false, cond, not, List, [], ◌∷◌, Option, Some, None, refl, sym, ap, subst, ◌∙◌}
use Rattle.std.proofs.lemmas.Bool.{true≢false}
use Rattle.std.specs.Prelude.{filter, length, option_map, position, slice_get}
use Rattle.mqb_base.specs.Same.{same_guid}
use Rattle.mqb_base.specs.declared.ids.Identity.{Identity}
use Rattle.mqb_history.specs.Orderly.{IsItself, IsOrderly}
use Rattle.mqb_model.specs.state.Resolving.{peer_known}
use Rattle.mqb_network.specs.Courses.{Course}
use Rattle.mqb_network.specs.Laws.{AreApart}
use Rattle.mqb_network.specs.Network.{manager_at}
use Rattle.mqb_law_meetings.proofs.Firsts.{position_cons}
use Rattle.mqb_law_meetings.proofs.Knowing.{apart_guids, if_there}
use Rattle.mqb_law_meetings.proofs.Lists.{equal_numbers, apart_numbers, within_get}

-- what stands at the first index that passes does
passes_at : {X : Type 0} (p : X → Bool) (xs : List X) (k : ℕ) (x : X) → position p xs ≡ Some k → slice_get xs k ≡ Some x → p x ≡ true
passes_at p [] k x found there = absurd (let none : ⊥ = cc in none)
passes_at p (y ∷ ys) k x found there = at (p y) refl (sym (position_cons p y ys) ∙ found) (passes_at p ys)
  where
    at : (b : Bool) → p y ≡ b → cond b (Some 0) (option_map (λ n. suc n) (position p ys)) ≡ Some k
        → ((n : ℕ) (z : _) → position p ys ≡ Some n → slice_get ys n ≡ Some z → p z ≡ true) → p x ≡ true
    at true is e rest = let first : 0 ≡ k = cc in let same : Some y ≡ Some x = subst (λ n. slice_get (y ∷ ys) n ≡ Some x) (sym first) there in
        let one : y ≡ x = cc in subst (λ z. p z ≡ true) one is
    at false is e rest = behind (position p ys) refl e
      where
        behind : (o : Option ℕ) → position p ys ≡ o → option_map (λ n. suc n) o ≡ Some k → p x ≡ true
        behind None f e = absurd (let none : ⊥ = cc in none)
        behind (Some n) f e = let next : suc n ≡ k = cc in rest n x f (subst (λ m. slice_get (y ∷ ys) m ≡ Some x) (sym next) there)

-- a member that a filter keeps is a member
kept_at : {X : Type 0} (f : X → Bool) (xs : List X) (k : ℕ) (x : X) → slice_get (filter f xs) k ≡ Some x → (i : ℕ) × (slice_get xs i ≡ Some x)
kept_at f [] k x e = absurd (let none : ⊥ = cc in none)
kept_at f (y ∷ ys) k x e = at (f y) k e (λ n. kept_at f ys n x)
  where
    at : (b : Bool) (n : ℕ) → slice_get (cond b (y ∷ filter f ys) (filter f ys)) n ≡ Some x → ((n : ℕ) → slice_get (filter f ys) n ≡ Some x → (i : ℕ) × (slice_get ys i ≡ Some x))
        → (i : ℕ) × (slice_get (y ∷ ys) i ≡ Some x)
    at true zero e rest = (0, e)
    at true (suc n) e rest = let r = rest n e in (suc r.0, r.1)
    at false n e rest = let r = rest n e in (suc r.0, r.1)

-- of managers that are apart a GUID is one's
one_of : (known : List Identity) → AreApart known → (i j : ℕ) (x y : Identity) → slice_get known i ≡ Some x → slice_get known j ≡ Some y → same_guid y.guid x.guid ≡ true → x ≡ y
one_of known apart i j x y at_i at_j same = by (i == j) refl
  where
    by : (b : Bool) → (i == j) ≡ b → x ≡ y
    by true e = let is : i ≡ j = equal_numbers i j e in let both : Some x ≡ Some y = sym at_i ∙ ap (slice_get known) is ∙ at_j in let one : x ≡ y = cc in one
    by false e = absurd (true≢false (sym same ∙ apart_guids known i j x y apart at_i at_j (apart_numbers i j e)))

pub peer_is : (known : List Identity) → AreApart known → (c : Course) → IsOrderly known c → (i j : ℕ) → i < length known → j < length known → (k : ℕ) (peer : Identity)
    → peer_known (manager_at c.network i).state (manager_at c.network j).state.identity.guid ≡ Some k → slice_get (manager_at c.network i).state.peers k ≡ Some peer
    → peer ≡ (manager_at c.network j).state.identity
peer_is known apart c o i j in_i in_j k peer knows there =
    let own = within_get known i in_i in
    let other = within_get known j in_j in
    let itself : IsItself known own.0 (manager_at c.network i).state = if_there (λ x. IsItself known x (manager_at c.network i).state) (slice_get known i) own.0 own.1 (o.themselves i) in
    let it : IsItself known other.0 (manager_at c.network j).state = if_there (λ x. IsItself known x (manager_at c.network j).state) (slice_get known j) other.0 other.1 (o.themselves j) in
    let passes : same_guid peer.guid (manager_at c.network j).state.identity.guid ≡ true =
    passes_at (λ (p : Identity). same_guid p.guid (manager_at c.network j).state.identity.guid) (manager_at c.network i).state.peers k peer knows there in
    let inside = kept_at (λ (p : Identity). not (same_guid p.guid own.0.guid)) known k peer (subst (λ (ps : List Identity). slice_get ps k ≡ Some peer) itself.peers there) in
    let same : same_guid peer.guid other.0.guid ≡ true = subst (λ (x : Identity). same_guid peer.guid x.guid ≡ true) it.identity passes in
    sym (one_of known apart j inside.0 other.0 peer other.1 inside.1 same) ∙ sym it.identity
