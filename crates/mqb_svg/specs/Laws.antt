-- What is true of every picture.
use Rattle.std.specs.Prelude.{ℕ, Bool, ◌==◌, ◌&&◌, not, nat_le}

-- a printable byte with which no tag and no attribute begins or ends
abbrev pub is_plain : ℕ → Bool
is_plain b = (nat_le 32 b && nat_le b 126) && not (b == 60) && not (b == 62) && not (b == 34)
    && not (b == 39)
