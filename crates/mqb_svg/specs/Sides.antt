use Rattle.std.specs.Prelude.{Bool, true, false}
use Rattle.mqb_svg.specs.declared.sides.Side.{Side}
use Rattle.mqb_svg.specs.declared.sides.Side.TheVariants.{Alpha, Beta}

-- the manager that one is connected with
abbrev pub other : Side → Side
other Alpha = Beta
other Beta = Alpha

abbrev pub same_side : Side → Side → Bool
same_side Alpha Alpha = true
same_side Beta Beta = true
same_side _ _ = false
