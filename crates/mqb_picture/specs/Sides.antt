use Rattle.std.specs.Prelude.{ℕ, List, codes, Option, Some, None, if◌then◌else◌}
use Rattle.mqb_base.specs.Same.{same_bytes}
use Rattle.mqb_svg.specs.declared.sides.Side.{Side}
use Rattle.mqb_svg.specs.declared.sides.Side.TheVariants.{Alpha, Beta}

-- the manager that a word is
unfoldable pub side_of : List ℕ → Option Side
side_of word = if same_bytes word (codes "alpha") then Some Alpha
    else if same_bytes word (codes "beta") then Some Beta else None
