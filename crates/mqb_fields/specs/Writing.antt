use Rattle.std.specs.Prelude.{◌≡◌, ◌≤◌, ℕ, ◌+◌, List, ◌++◌, length, take, drop}
use Rattle.byteorder.specs.Endian.{little_bytes}

-- the lowest width bytes of a number, the lowest first
abbrev pub bytes_of : ℕ → ℕ → List ℕ
bytes_of width number = little_bytes width number

-- the list with the bytes at this place in place of those that were there
abbrev pub put_at : List ℕ → ℕ → List ℕ → List ℕ
put_at list at bytes = take at list ++ bytes ++ drop (at + length bytes) list

-- Bytes were put at a place of a buffer, which has the room, and end there.
pub record Wrote (old : List ℕ) (at : ℕ) (bytes new : List ℕ) (stop : ℕ) : Type 0 where
  pub room : at + length bytes ≤ length old
  pub put : new ≡ put_at old at bytes
  pub end : stop ≡ at + length bytes
