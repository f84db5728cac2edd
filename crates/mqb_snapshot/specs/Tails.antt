-- What is added to a list of bytes.
use Rattle.std.specs.Prelude.{ℕ, List}

-- the bytes that stood before, and those that were added
pub record Added : Type 0 where
  pub front : List ℕ
  pub text : List ℕ
