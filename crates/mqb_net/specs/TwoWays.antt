use Rattle.std.specs.Prelude.{ℕ, List, drop}
use Rattle.mqb_net.specs.declared.ahead.Ahead.{Ahead}

-- what came while a write waited and was not read
abbrev pub left_in : Ahead → List ℕ
left_in ahead = drop ahead.at ahead.bytes.items
