-- Managers that began together know one another, and none is its own peer.
use Rattle.std.proofs.Common.{refl, ap, sym, subst, ◌∙◌, arith}
use Rattle.std.proofs.lemmas.Bool.Decides.{nat_tests}
use Rattle.std.specs.List.{list_any, prefix_len}
use Rattle.std.specs.Prelude.{[], ◌+◌, ◌<◌, ◌||◌, ◌∷◌, ◌≡◌, Bool, List, None, Some, cond, false, filter, is_some, length, nat_lt, not, position, slice_get, slice_index_or, suc, true, unwrap_or, zero, ℕ}
use Rattle.mqb_base.specs.Same.{same_guid, same_ignoring_case}
use Rattle.mqb_model.specs.records.Peer.{is_met}
use Rattle.mqb_base.specs.declared.ids.Guid.{Guid}
use Rattle.mqb_base.specs.declared.ids.Identity.{Identity}
use Rattle.mqb_network.specs.Laws.{AreApart}
use Rattle.mqb_history.proofs.Names.{same_guid_is, same_guid_refl}
use Rattle.mqb_history.proofs.Lists.{clash, get_within, true_not_false}

pub different_guids : (a b : Guid) → same_guid a b ≡ false → same_guid b a ≡ false
different_guids a b h = at (same_guid b a) refl
  where
    at : (t : Bool) → same_guid b a ≡ t → t ≡ false
    at true e = absurd (true_not_false (same_guid a b) (subst (λ x. same_guid a x ≡ true) (sym (same_guid_is b a e)) (same_guid_refl a)) h)
    at false e = refl

-- a place is found where a member passes
pub counted : (a n : ℕ) → nat_lt (1 + a) (suc n) ≡ nat_lt a n
counted a n = grind (arith, nat_tests)

pub none_below : (n : ℕ) → nat_lt 0 (suc n) ≡ true
none_below n = grind (arith, nat_tests)

pub any_position : {X : Type 0} (p : X → Bool) (xs : List X) → nat_lt (prefix_len (λ x. not (p x)) xs) (length xs) ≡ list_any p xs
any_position p [] = refl
any_position p (x ∷ xs) = at (p x) (any_position p xs)
  where
    at : (b : Bool) → nat_lt (prefix_len (λ x. not (p x)) xs) (length xs) ≡ list_any p xs
        → nat_lt (cond (not b) (1 + prefix_len (λ x. not (p x)) xs) 0) (suc (length xs)) ≡ (b || list_any p xs)
    at true rest = none_below (length xs)
    at false rest = counted (prefix_len (λ x. not (p x)) xs) (length xs) ∙ rest

one_less : (k n : ℕ) → nat_lt (suc k) (suc n) ≡ true → nat_lt k n ≡ true
one_less k n h = grind (arith, nat_tests)

pub get_at : {X : Type 0} (xs : List X) (k : ℕ) → nat_lt k (length xs) ≡ true → is_some (slice_get xs k) ≡ true
get_at [] k h = absurd (let none : ⊥ = grind (arith, nat_tests, h) in none)
get_at (x ∷ xs) zero h = refl
get_at (x ∷ xs) (suc k) h = get_at xs k (one_less k (length xs) h)

get_end : {X : Type 0} (xs : List X) → is_some (slice_get xs (length xs)) ≡ false
get_end [] = refl
get_end (x ∷ xs) = get_end xs

-- the member at the place that is found, or there is none at the end
pub found_place : {X : Type 0} (p : X → Bool) (xs : List X) → is_some (slice_get xs (unwrap_or (position p xs) (length xs))) ≡ list_any p xs
found_place p xs = at (nat_lt (prefix_len (λ x. not (p x)) xs) (length xs)) refl ∙ any_position p xs
  where
    at : (b : Bool) → nat_lt (prefix_len (λ x. not (p x)) xs) (length xs) ≡ b
        → is_some (slice_get xs (unwrap_or (cond b (Some (prefix_len (λ x. not (p x)) xs)) None) (length xs))) ≡ nat_lt (prefix_len (λ x. not (p x)) xs) (length xs)
    at true e = get_at xs (prefix_len (λ x. not (p x)) xs) e ∙ sym e
    at false e = get_end xs ∙ sym e

-- none is its own peer
pub not_own_peer : (own : Guid) (known : List Identity) → list_any (λ p. same_guid p.guid own) (filter (λ peer. not (same_guid peer.guid own)) known) ≡ false
not_own_peer own [] = refl
not_own_peer own (p ∷ ps) = at (same_guid p.guid own) refl (not_own_peer own ps)
  where
    at : (b : Bool) → same_guid p.guid own ≡ b → list_any (λ p. same_guid p.guid own) (filter (λ peer. not (same_guid peer.guid own)) ps) ≡ false
        → list_any (λ p. same_guid p.guid own) (cond (not b) (p ∷ filter (λ peer. not (same_guid peer.guid own)) ps) (filter (λ peer. not (same_guid peer.guid own)) ps)) ≡ false
    at true e rest = rest
    at false e rest = ap (λ b. b || list_any (λ p. same_guid p.guid own) (filter (λ peer. not (same_guid peer.guid own)) ps)) e ∙ rest

-- another manager is a peer
pub other_is_peer : (own : Guid) (known : List Identity) (j : ℕ) (other : Identity) → slice_get known j ≡ Some other → same_guid other.guid own ≡ false
    → list_any (λ p. same_guid p.guid other.guid) (filter (λ peer. not (same_guid peer.guid own)) known) ≡ true
other_is_peer own [] j other e apart = absurd (let none : ⊥ = cc in none)
other_is_peer own (p ∷ ps) zero other e apart = at (same_guid p.guid own) (subst (λ (x : Identity). same_guid x.guid own ≡ false) (sym same) apart)
  where
    same : p ≡ other
    same = cc

    at : (b : Bool) → b ≡ false
        → list_any (λ p. same_guid p.guid other.guid) (cond (not b) (p ∷ filter (λ peer. not (same_guid peer.guid own)) ps) (filter (λ peer. not (same_guid peer.guid own)) ps)) ≡ true
    at true f = absurd (clash f)
    at false f = ap (λ b. b || list_any (λ p. same_guid p.guid other.guid) (filter (λ peer. not (same_guid peer.guid own)) ps))
        (subst (λ (x : Identity). same_guid x.guid other.guid ≡ true) (sym same) (same_guid_refl other.guid))
other_is_peer own (p ∷ ps) (suc j) other e apart = at (same_guid p.guid own) (other_is_peer own ps j other e apart)
  where
    behind : Bool
    behind = list_any (λ p. same_guid p.guid other.guid) (filter (λ peer. not (same_guid peer.guid own)) ps)

    or_true : (b : Bool) → (b || true) ≡ true
    or_true true = refl
    or_true false = refl

    at : (b : Bool) → behind ≡ true
        → list_any (λ p. same_guid p.guid other.guid) (cond (not b) (p ∷ filter (λ peer. not (same_guid peer.guid own)) ps) (filter (λ peer. not (same_guid peer.guid own)) ps)) ≡ true
    at true rest = rest
    at false rest = ap (λ b. same_guid p.guid other.guid || b) rest ∙ or_true (same_guid p.guid other.guid)

-- Managers that are apart.

index_is : {X : Type 0} (xs : List X) (i : ℕ) (x d : X) → slice_get xs i ≡ Some x → slice_index_or xs i d ≡ x
index_is [] i x d e = absurd (let none : ⊥ = cc in none)
index_is (y ∷ ys) zero x d e = cc
index_is (y ∷ ys) (suc i) x d e = index_is ys i x d e

met_are_other : (a a' b b' : Identity) → a ≡ a' → b ≡ b' → is_met a b ≡ false → is_met a' b' ≡ false
met_are_other a a' b b' e f h = subst (λ z. is_met z b' ≡ false) e (subst (λ z. is_met a z ≡ false) f h)

first_of_two : (p q : Bool) → (p || q) ≡ false → p ≡ false
first_of_two true q e = absurd (clash e)
first_of_two false q e = refl

-- two that are not met have different GUIDs
unmet : (a b : Identity) → is_met a b ≡ false → same_guid a.guid b.guid ≡ false
unmet a b h = first_of_two (same_guid a.guid b.guid) (same_ignoring_case a.host b.host) h

pub apart_guids : (known : List Identity) (i j : ℕ) (a b : Identity) → AreApart known → slice_get known i ≡ Some a → slice_get known j ≡ Some b
    → (i ≡ j → ⊥) → same_guid b.guid a.guid ≡ false
apart_guids known i j a b apart x y differ = at (nat_lt i j) refl
  where
    less : (i j : ℕ) → nat_lt i j ≡ true → i < j
    less i j h = grind (arith, nat_tests)

    more : (i j : ℕ) → nat_lt i j ≡ false → (i ≡ j → ⊥) → j < i
    more i j h g = grind (arith, nat_tests)

    at : (t : Bool) → nat_lt i j ≡ t → same_guid b.guid a.guid ≡ false
    at true e = different_guids a.guid b.guid (unmet a b (met_are_other (slice_index_or known i a) a (slice_index_or known j a) b
        (index_is known i a a x) (index_is known j b a y) (apart i j a (less i j e) (get_within known j b y))))
    at false e = unmet b a (met_are_other (slice_index_or known j a) b (slice_index_or known i a) a
        (index_is known j b a y) (index_is known i a a x) (apart j i a (more i j e differ) (get_within known i a x)))
