-- What each command uses, beside the output; `has_store` of `mqb_words` says which have a store.
use Rattle.std.specs.Prelude.{Bool, false, true}
use Rattle.mqb_words.specs.declared.commands.Command.{Command}
use Rattle.mqb_words.specs.declared.commands.Command.TheVariants as command

-- it reads the input
abbrev pub has_input : Command → Bool
has_input command.Replay = true
has_input command.Show = true
has_input command.Probe = true
has_input command.Shell = true
has_input _ = false

-- it plays a script, over two disks and a medium
abbrev pub has_script : Command → Bool
has_script command.Replay = true
has_script (command.Trial orders) = true
has_script _ = false

-- it serves connections of a net
abbrev pub has_net : Command → Bool
has_net (command.Serve count) = true
has_net (command.Attend seconds) = true
has_net (command.Push host address) = true
has_net (command.Fetch host address seconds) = true
has_net command.Shell = true
has_net _ = false
