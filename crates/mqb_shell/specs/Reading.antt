-- What is read of a line.
use Rattle.std.specs.Prelude.{◌≡◌, Err, Result}
use Rattle.mqb_commands.specs.declared.status.Status.{Status}
use Rattle.mqb_commands.specs.declared.status.Status.TheVariants as status
use Rattle.mqb_words.specs.declared.commands.Command.{Command}

-- it is what the line asks, or memory ran out
abbrev pub Asks : Result Command Status → Result Command Status → Type 0
Asks asked (Err status.Memory) = Unit {0}
Asks asked read = read ≡ asked
