-- What the fields of a command keep that their types do not say.
use Rattle.std.specs.Prelude.{◌≤◌, length}
use Rattle.std.specs.List.{AllByRecursion}
use Rattle.mqb_forms.specs.Values.{MOST_ROLL}
use Rattle.mqb_forms.specs.Formed.{IsPlain, IsFormedOp}
use Rattle.mqb_words.specs.declared.commands.Call.{Call}
use Rattle.mqb_words.specs.declared.commands.Call.TheVariants.{Send, Commit, SetRoll}
use Rattle.mqb_words.specs.declared.commands.Command.{Command}
use Rattle.mqb_words.specs.declared.commands.Command.TheVariants as command
use Rattle.mqb_words.specs.Values.{MOST_ORDERS, MOST_CONNECTIONS, MOST_MESSAGES, MOST_SECONDS}

abbrev pub IsFormedCall : Call → Type 0
IsFormedCall (Send recoverable parts) = IsPlain parts
IsFormedCall (Commit ops) = (1 ≤ length ops) × AllByRecursion IsFormedOp ops
IsFormedCall (SetRoll count) = (1 ≤ count) × (count ≤ MOST_ROLL)
IsFormedCall _ = Unit {0}

abbrev pub IsFormed : Command → Type 0
IsFormed (command.Make orders) = (1 ≤ orders) × (orders ≤ MOST_ORDERS)
IsFormed (command.Trial orders) = (1 ≤ orders) × (orders ≤ MOST_ORDERS)
IsFormed (command.Call call) = IsFormedCall call
IsFormed (command.Peek place count) = (1 ≤ count) × (count ≤ MOST_MESSAGES)
IsFormed (command.Serve count) = (1 ≤ count) × (count ≤ MOST_CONNECTIONS)
IsFormed (command.Attend seconds) = (1 ≤ seconds) × (seconds ≤ MOST_SECONDS)
IsFormed (command.Fetch host address seconds) = (1 ≤ seconds) × (seconds ≤ MOST_SECONDS)
IsFormed _ = Unit {0}
