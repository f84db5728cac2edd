use Rattle.std.specs.Prelude.{ℕ, Bool, not, ◌==◌}
use Rattle.std.specs.Int.RustNames.{bit_and}
use Rattle.mqb_base.specs.declared.bits.TheConstants.{DEAD_LETTER, JOURNAL}
use Rattle.mqb_base.specs.declared.message.Message.{Message}

-- two numbers have a bit in common
abbrev pub has_bit : ℕ → ℕ → Bool
has_bit bits bit = not (bit_and bits bit == 0)

-- what becomes of the message at last is kept, or told to its source
abbrev pub keeps_dead : Message → Bool
keeps_dead m = has_bit m.journal DEAD_LETTER

-- a copy goes to the computer's journal when it is sent
abbrev pub keeps_copy : Message → Bool
keeps_copy m = has_bit m.journal JOURNAL
