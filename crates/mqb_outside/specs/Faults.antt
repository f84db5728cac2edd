use Rattle.std.specs.Prelude.{◌≡◌, ℕ, ◌+◌, ◌≤◌, min, max, Result, MatchResult}

-- where a count of faults ends
abbrev pub END : ℕ
END = 18446744073709551615

-- a count of faults rose, or stands at its end; it never falls
abbrev pub Rose : ℕ → ℕ → Type 0
Rose before after = max before (min (before + 1) END) ≤ after

-- a call that failed has its cause: the count rose. In a call that did not fail it stays
abbrev pub HasCause : {T E : Type 0} → ℕ → ℕ → Result T E → Type 0
HasCause before after r = MatchResult r (λ _. after ≡ before) (λ _. Rose before after)
