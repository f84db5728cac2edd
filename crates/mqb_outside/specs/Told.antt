use Rattle.std.specs.Prelude.{◌≡◌, ℕ, ◌<◌, ◌≤◌, List, [], ◌++◌, length, take, Option, Result, IfOk}
use Rattle.std.specs.Prelude.{IfSome, OnErr}
use Rattle.std.specs.Option.{option_map}

-- a source that held before gave these bytes first, and holds after; where it does not tell what it
-- holds, that says nothing
abbrev pub Gave : Option (List ℕ) → Option (List ℕ) → List ℕ → Type 0
Gave before after bytes = before ≡ option_map (λ rest. bytes ++ rest) after

-- a sink that had taken before took these bytes too, and has taken after
abbrev pub Took : Option (List ℕ) → Option (List ℕ) → List ℕ → Type 0
Took before after bytes = after ≡ option_map (λ text. text ++ bytes) before

-- what a read answers: it filled the front of a buffer that was old and is new, and
-- 0 is the end of input
pub record Reads {E : Type 0} (before after : Option (List ℕ)) (old new : List ℕ)
    (r : Result ℕ E) : Type 0 where
  pub within : IfOk r (λ n. n ≤ length old)
  pub gave : IfOk r (λ n. Gave before after (take n new))
  pub ended : IfOk r (λ n. n ≡ 0 → 0 < length old → IfSome before (λ rest. rest ≡ []))
  pub unchanged : OnErr r (after ≡ before)

-- what a write answers: it took a front of the bytes, at least one where there is one
pub record Writes {E : Type 0} (before after : Option (List ℕ)) (bytes : List ℕ)
    (r : Result ℕ E) : Type 0 where
  pub within : IfOk r (λ n. n ≤ length bytes)
  pub some : IfOk r (λ n. 0 < length bytes → 0 < n)
  pub took : IfOk r (λ n. Took before after (take n bytes))
  pub unchanged : OnErr r (after ≡ before)
