-- What was taken of a text.
use Rattle.std.proofs.Common.{◌≡◌, ◌+◌, ◌≤◌, List, ◌++◌, None, Option, Some, append-nil, arith, length, length-append, refl, sym, ap, subst, ◌∙◌, ℕ}
use Rattle.std.proofs.lemmas.Option.{none-some, same_Some}
use Rattle.mqb_outside.specs.Told.{Gave}
use Rattle.mqb_replay.specs.Replays.{IsAtEnd}

-- Of a text this was taken, and the rest is left.
pub record IsTaken (text taken : List ℕ) (rest : Option (List ℕ)) : Type 0 where
  pub left : List ℕ
  pub told : rest ≡ Some left
  pub whole : text ≡ taken ++ left

pub taken_of : (held rest : Option (List ℕ)) (text taken : List ℕ) → held ≡ Some text → Gave held rest taken → IsTaken text taken rest
taken_of held None text taken told gave = absurd (none-some text (sym gave ∙ told))
taken_of held (Some left) text taken told gave = record { left = left; told = refl; whole = same_Some text (taken ++ left) (sym told ∙ gave) }

-- it is no longer
pub taken_short : (text taken : List ℕ) (rest : Option (List ℕ)) → IsTaken text taken rest → length taken ≤ length text
taken_short text taken rest t = let whole : length text ≡ length taken + length t.left = ap length t.whole ∙ length-append taken t.left in omega (arith, whole)

-- it is all of it, where the input was read to its end
pub taken_all : (text taken : List ℕ) (rest : Option (List ℕ)) → IsTaken text taken rest → IsAtEnd rest → taken ≡ text
taken_all text taken rest t ended = sym (t.whole ∙ ap (λ (l : List ℕ). taken ++ l) (subst IsAtEnd t.told ended) ∙ append-nil taken)
