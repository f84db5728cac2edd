use Rattle.std.specs.Prelude.{ℕ, List, Option}

-- a connection that was taken back, as far as it told: the address that was asked for, its two
-- counts of faults, what it held when it was given, what it still held and what it had taken
pub record Ended : Type 0 where
  pub address : Option (List ℕ)
  pub read_faults : ℕ
  pub write_faults : ℕ
  pub given : Option (List ℕ)
  pub held : Option (List ℕ)
  pub taken : Option (List ℕ)
