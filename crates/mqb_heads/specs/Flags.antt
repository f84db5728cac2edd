-- The bits of a word.
use Rattle.std.specs.Prelude.{ℕ, ◌*◌, ◌/◌, ◌%◌, ◌^◌, ◌==◌, Bool, if◌then◌else◌}

-- so many bits of a word, from this one on
abbrev pub bits : ℕ → ℕ → ℕ → ℕ
bits from count word = word / 2 ^ from % 2 ^ count

-- a bit is set
abbrev pub bit : ℕ → ℕ → Bool
bit index word = word / 2 ^ index % 2 == 1

-- what a bit adds to a word
abbrev pub flag : ℕ → Bool → ℕ
flag index set = if set then 2 ^ index else 0

-- what a number in the bits from this one on adds to a word
abbrev pub placed : ℕ → ℕ → ℕ
placed from number = number * 2 ^ from
