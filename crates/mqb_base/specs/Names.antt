use Rattle.std.specs.Prelude.{ℕ, Bool, ◌==◌, ◌||◌, ◌&&◌, not, nat_lt, nat_le, List, length}
use Rattle.std.specs.Prelude.{position, Option, Some, None, option_map, if◌then◌else◌}
use Rattle.mqb_base.specs.declared.names.TheConstants.{MAX_NAME}
use Rattle.mqb_base.specs.declared.names.NameError.{NameError}
use Rattle.mqb_base.specs.declared.names.NameError.TheVariants.{Length, Byte}

-- a byte of a name: from ! to ~ but for \ ; = and ,
abbrev pub is_name_byte : ℕ → Bool
is_name_byte b =
    (nat_le 0x21 b && nat_le b 0x7E) && not (b == 0x5C || b == 0x3B || b == 0x3D || b == 0x2C)

-- why bytes are no name: their count is not 1 to 64, or the first byte that may not stand in one
abbrev pub name_fault : List ℕ → Option NameError
name_fault bytes = if length bytes == 0 || nat_lt MAX_NAME (length bytes) then Some Length
    else option_map (λ at. Byte at) (position (λ b. not (is_name_byte b)) bytes)
