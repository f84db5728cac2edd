-- What a line asks of a manager that is open.
use Rattle.std.specs.Prelude.{[], ◌==◌, ◌∷◌, Bool, List, None, Option, Some, false, if◌then◌else◌}
use Rattle.std.specs.Prelude.{option_and_then, true, ℕ}
use Rattle.std.specs.List.{slice_split}
use Rattle.mqb_words.specs.Words.{command_of}
use Rattle.mqb_words.specs.declared.commands.Command.{Command}
use Rattle.mqb_words.specs.declared.commands.Command.TheVariants as command

-- a manager that is open does it
abbrev pub is_open_command : Command → Bool
is_open_command (command.Call call) = true
is_open_command command.Checkpoint = true
is_open_command command.List = true
is_open_command (command.Peek place count) = true
is_open_command (command.Serve count) = true
is_open_command (command.Attend seconds) = true
is_open_command (command.Push host address) = true
is_open_command (command.Fetch host address seconds) = true
is_open_command _ = false

-- the words of a command line, with no byte for the store
abbrev pub with_store : List (List ℕ) → List (List ℕ)
with_store [] = []
with_store (word ∷ words) = word ∷ [] ∷ words

-- a line's words, which are cut at each space
abbrev pub words_in : List ℕ → List (List ℕ)
words_in line = slice_split (λ b. b == 0x20) line

-- a command of a manager that is open
abbrev pub if_open : Command → Option Command
if_open asked = if is_open_command asked then Some asked else None

-- The words of a line are those of a command line but for the store.
abbrev pub command_in : List ℕ → Option Command
command_in line = option_and_then if_open (command_of (with_store (words_in line)))
