-- Commands of a store, which is their second word.
use Rattle.std.specs.Prelude.{Bool, true, false, List, Option, None, if◌then◌else◌}
use Rattle.std.specs.List.{slice_get}
use Rattle.mqb_words.specs.declared.commands.Command.{Command}
use Rattle.mqb_words.specs.declared.commands.Command.TheVariants as command

abbrev pub has_store : Command → Bool
has_store command.Replay = false
has_store (command.Make orders) = false
has_store (command.Trial orders) = false
has_store command.Show = false
has_store (command.Init identity) = true
has_store (command.Call call) = true
has_store command.Checkpoint = true
has_store command.List = true
has_store (command.Peek place count) = true
has_store command.Probe = true
has_store command.Shell = true
has_store (command.Serve count) = true
has_store (command.Attend seconds) = true
has_store (command.Push host address) = true
has_store (command.Fetch host address seconds) = true
has_store command.Help = false
has_store command.Version = false

-- the store among the words of a command line
abbrev pub store_of : {W : Type 0} → Command → List W → Option W
store_of asked words = if has_store asked then slice_get words 1 else None
