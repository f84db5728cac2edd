use Rattle.std.specs.Prelude.{ℕ, List, ◌++◌}

-- contents, the room that they have, and what stands behind them in it, as what was cut off
pub record Extent : Type 0 where
  pub contents : List ℕ
  pub room : ℕ
  pub behind : List ℕ

-- the bytes that stand in the room
abbrev pub standing : Extent → List ℕ
standing e = e.contents ++ e.behind
