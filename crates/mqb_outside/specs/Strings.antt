use Rattle.std.specs.Prelude.{ℕ, ◌^◌, ◌<◌, List, length, sum_by}

-- the sum of the strings' lengths
abbrev pub bytes_in : List (List ℕ) → ℕ
bytes_in strings = sum_by length strings

-- their number is a u32, and the sum of their lengths a u64
pub record IsCounted (strings : List (List ℕ)) : Type 0 where
  pub count : length strings < 2 ^ 32
  pub bytes : bytes_in strings < 2 ^ 64
