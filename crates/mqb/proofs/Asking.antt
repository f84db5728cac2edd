-- How often the clock is asked where nothing was done.
use Rattle.std.proofs.Common.{◌≡◌, ◌+◌, ℕ, List, Option, Some, None, length, inl, inr, refl, arith}
use Rattle.std.specs.Prelude.{IfSome}
use Rattle.mqb_connections.specs.Asked.{AsksForEach, AsksOnce, RoseBy}
use Rattle.mqb_connections.specs.Served.{MOST_ATTENDED}
use Rattle.mqb_outside.specs.Disk.{Counted}
use Rattle.mqb_outside.specs.Net.{Ended}
use Rattle.mqb_words.specs.declared.commands.Command.{Command}
use Rattle.mqb_words.specs.declared.commands.Command.TheVariants as command
use Rattle.mqb.specs.Runs.{Asks}

none_finished : (ended : Option (List Ended)) → IfSome ended (λ before. IfSome ended (λ after. length after ≡ length before + 0))
none_finished None = tt
none_finished (Some before) = omega arith

for_none : (count : ℕ) (ended : Option (List Ended)) (asked : ℕ) → AsksForEach count ended ended asked asked
for_none count ended asked = record { served = 0; most = omega arith; counted = omega arith; finished = none_finished ended }

pub asks_none : (words : Option Command) (ended : Option (List Ended)) (asked : ℕ) → Asks words ended ended asked asked
asks_none (Some (command.Serve count)) ended asked = for_none count ended asked
asks_none (Some (command.Attend seconds)) ended asked = for_none MOST_ATTENDED ended asked
asks_none (Some (command.Push host address)) ended asked = for_none 1 ended asked
asks_none (Some (command.Fetch host address seconds)) ended asked = for_none 1 ended asked
asks_none (Some command.Probe) ended asked = inl refl
asks_none (Some command.Shell) ended asked = tt
asks_none (Some (command.Call call)) ended asked = inl refl
asks_none (Some (command.Peek place count)) ended asked = inl refl
asks_none _ ended asked = refl
