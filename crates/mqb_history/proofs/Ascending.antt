-- Of the plain messages for a peer the sent ones come first, and their numbers rise, whatever joins and leaves.
use Rattle.std.proofs.Common.{refl, sym, subst, arith}
use Rattle.std.proofs.lemmas.List.Elements.{All-from_recursion}
use Rattle.std.specs.List.{AllByRecursion}
use Rattle.std.specs.Option.{option_map_or}
use Rattle.std.specs.Prelude.{[], ◌++◌, ◌<◌, ◌≤◌, ◌∷◌, ◌≡◌, All, Bool, IfSome, IsNone, List, MatchOption, None, Option, Some, cond, false, filter, is_none, position, remove, suc, true, zero, ℕ}
use Rattle.mqb_base.specs.declared.message.Message.{Message}
use Rattle.mqb_plain.specs.Lists.{RisesFrom, marked_next, unmarked, unsent}
use Rattle.mqb_plain.specs.declared.outgoing.Outgoing.{Outgoing}
use Rattle.mqb_model.specs.Lists.{without_first}
use Rattle.mqb_history.proofs.Lists.{all_append, all_filter}

abbrev IsUnsent : Outgoing → Type 0
IsUnsent o = IsNone o.mark

-- the numbers rise from above low, and nothing behind an unsent message was sent
abbrev pub Rises : ℕ → List Outgoing → Type 0
Rises low [] = Unit {0}
Rises low (o ∷ os) = MatchOption o.mark (AllByRecursion IsUnsent os) (λ mark. (low < mark) × Rises mark os)

pub in_order : (low : ℕ) (os : List Outgoing) → Rises low os → RisesFrom low os
in_order low [] h = tt
in_order low (o ∷ os) h = at (λ n. in_order n os) o.mark h
  where
    at : ((n : ℕ) → Rises n os → RisesFrom n os) → (x : Option ℕ) → MatchOption x (AllByRecursion IsUnsent os) (λ mark. (low < mark) × Rises mark os)
        → MatchOption x (All (λ p. IsNone p.mark) os) (λ mark. (low < mark) × RisesFrom mark os)
    at rest None g = All-from_recursion (λ p. IsNone p.mark) os g
    at rest (Some n) g = (g.0, rest n g.1)

rise_lower : (a low : ℕ) (os : List Outgoing) → a ≤ low → Rises low os → Rises a os
rise_lower a low [] le h = tt
rise_lower a low (o ∷ os) le h = at o.mark h
  where
    at : (x : Option ℕ) → MatchOption x (AllByRecursion IsUnsent os) (λ mark. (low < mark) × Rises mark os) → MatchOption x (AllByRecursion IsUnsent os) (λ mark. (a < mark) × Rises mark os)
    at None g = g
    at (Some n) g = (omega (arith, le, g.0), g.1)

unsent_rise : (low : ℕ) (os : List Outgoing) → AllByRecursion IsUnsent os → Rises low os
unsent_rise low [] h = tt
unsent_rise low (o ∷ os) h = at o.mark h.0
  where
    at : (x : Option ℕ) → IsNone x → MatchOption x (AllByRecursion IsUnsent os) (λ mark. (low < mark) × Rises mark os)
    at None e = h.1
    at (Some n) e = absurd (let none : ⊥ = cc in none)

pub unmarked_rise : (os : List Outgoing) → Rises 0 (unmarked os)
unmarked_rise os = unsent_rise 0 (unmarked os) (all os)
  where
    all : (xs : List Outgoing) → AllByRecursion IsUnsent (unmarked xs)
    all [] = tt
    all (x ∷ xs) = (refl, all xs)

pub joined_rise : (low : ℕ) (os : List Outgoing) (m : Message) → Rises low os → Rises low (os ++ unsent m ∷ [])
joined_rise low [] m h = tt
joined_rise low (o ∷ os) m h = at (λ n. joined_rise n os m) o.mark h
  where
    at : ((n : ℕ) → Rises n os → Rises n (os ++ unsent m ∷ [])) → (x : Option ℕ) → MatchOption x (AllByRecursion IsUnsent os) (λ mark. (low < mark) × Rises mark os)
        → MatchOption x (AllByRecursion IsUnsent (os ++ unsent m ∷ [])) (λ mark. (low < mark) × Rises mark (os ++ unsent m ∷ []))
    at rest None g = all_append IsUnsent os (unsent m ∷ []) g (refl, tt)
    at rest (Some n) g = (g.0, rest n g.1)

-- what is behind the first one
behind_rise : (low : ℕ) (o : Outgoing) (os : List Outgoing) → Rises low (o ∷ os) → Rises low os
behind_rise low o os h = at o.mark h
  where
    at : (x : Option ℕ) → MatchOption x (AllByRecursion IsUnsent os) (λ mark. (low < mark) × Rises mark os) → Rises low os
    at None g = unsent_rise low os g
    at (Some n) g = rise_lower low n os (omega (arith, g.0)) g.1

pub removed_rise : (low : ℕ) (os : List Outgoing) (k : ℕ) → Rises low os → Rises low (remove os k)
removed_rise low [] zero h = tt
removed_rise low [] (suc k) h = tt
removed_rise low (o ∷ os) zero h = behind_rise low o os h
removed_rise low (o ∷ os) (suc k) h = at (λ n. removed_rise n os k) o.mark h
  where
    none : (xs : List Outgoing) (j : ℕ) → AllByRecursion IsUnsent xs → AllByRecursion IsUnsent (remove xs j)
    none [] zero g = tt
    none [] (suc j) g = tt
    none (x ∷ xs) zero g = g.1
    none (x ∷ xs) (suc j) g = (g.0, none xs j g.1)

    at : ((n : ℕ) → Rises n os → Rises n (remove os k)) → (x : Option ℕ) → MatchOption x (AllByRecursion IsUnsent os) (λ mark. (low < mark) × Rises mark os)
        → MatchOption x (AllByRecursion IsUnsent (remove os k)) (λ mark. (low < mark) × Rises mark (remove os k))
    at rest None g = none os k g
    at rest (Some n) g = (g.0, rest n g.1)

pub without_rise : (test : Outgoing → Bool) (os : List Outgoing) → Rises 0 os → Rises 0 (without_first test os)
without_rise test os h = at (position test os)
  where
    at : (o : Option ℕ) → Rises 0 (option_map_or (remove os) o os)
    at None = h
    at (Some k) = removed_rise 0 os k h

pub filtered_rise : (low : ℕ) (test : Outgoing → Bool) (os : List Outgoing) → Rises low os → Rises low (filter test os)
filtered_rise low test [] h = tt
filtered_rise low test (o ∷ os) h = by (λ n. filtered_rise n test os) (test o)
  where
    at : ((n : ℕ) → Rises n os → Rises n (filter test os)) → (x : Option ℕ) → MatchOption x (AllByRecursion IsUnsent os) (λ mark. (low < mark) × Rises mark os)
        → MatchOption x (AllByRecursion IsUnsent (filter test os)) (λ mark. (low < mark) × Rises mark (filter test os))
    at rest None g = all_filter IsUnsent test os g
    at rest (Some n) g = (g.0, rest n g.1)

    by : ((n : ℕ) → Rises n os → Rises n (filter test os)) → (b : Bool) → Rises low (cond b (o ∷ filter test os) (filter test os))
    by rest true = at rest o.mark h
    by rest false = rest low (behind_rise low o os h)

-- one more was sent, with a number above those of all
pub marked_rise : (low n : ℕ) (os : List Outgoing) → low < n → AllByRecursion (λ o. IfSome o.mark (λ k. k < n)) os → Rises low os → Rises low (marked_next n os)
marked_rise low n [] lt below h = tt
marked_rise low n (o ∷ os) lt below h = at (λ k less. marked_rise k n os less below.1) o.mark refl h below.0
  where
    at : ((k : ℕ) → k < n → Rises k os → Rises k (marked_next n os)) → (x : Option ℕ) → o.mark ≡ x → MatchOption x (AllByRecursion IsUnsent os) (λ mark. (low < mark) × Rises mark os) → IfSome x (λ k. k < n)
        → Rises low (cond (is_none x) (record o { mark = Some n } ∷ os) (o ∷ marked_next n os))
    at rest None e g less = (lt, unsent_rise n os g)
    at rest (Some k) e g less = subst (λ x. MatchOption x (AllByRecursion IsUnsent (marked_next n os)) (λ mark. (low < mark) × Rises mark (marked_next n os))) (sym e)
        (g.0, rest k less g.1)
