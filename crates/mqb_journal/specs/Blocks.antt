-- The block of a record: its length, its bytes, and a closed gate. The record is spelled in it,
-- behind the four bytes for its length.
use Rattle.std.specs.Prelude.{◌≡◌, ℕ, ◌-◌, List, [], ◌∷◌, ◌++◌, length, take, drop}
use Rattle.mqb_fields.specs.Writing.{bytes_of}
use Rattle.mqb_journal.specs.Store.{IsSmall}

-- what was spelled in a block that is not closed yet
abbrev pub spelled_in : List ℕ → List ℕ
spelled_in block = drop 4 block

-- what is written behind the gate
abbrev pub block_of : List ℕ → List ℕ
block_of entry = bytes_of 4 (length entry) ++ entry ++ 0 ∷ []

-- the record of a closed block
abbrev pub record_of_block : List ℕ → List ℕ
record_of_block block = take (length block - 5) (drop 4 block)

-- The block is closed, and its record is within the limit.
pub record IsBlock (block : List ℕ) : Type 0 where
  pub closed : block ≡ block_of (record_of_block block)
  pub small : IsSmall (record_of_block block)
