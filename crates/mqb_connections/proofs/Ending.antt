-- How the commands end that serve connections.
use Rattle.std.proofs.Common.{ℕ, List, Option}
use Rattle.std.specs.Prelude.{Err, IfErr, Ok, Result}
use Rattle.mqb_serving.specs.Serving.{Answer}
use Rattle.mqb_commands.specs.declared.status.Status.{Status}
use Rattle.mqb_commands.specs.declared.status.Status.TheVariants as status
use Rattle.mqb_connections.specs.Causes.{IsLinkEnd, IsNetEnd}
use Rattle.mqb_connections.specs.Told.{TellsEnd, TellsNetFault}

pub told_end : (number : ℕ) (end : Answer) (before after : Option (List ℕ)) (r : Result (Unit {0}) Status) → TellsEnd number end before after r → IfErr r IsLinkEnd
told_end number end before after (Ok done) told = tt
told_end number end before after (Err status.DiskFault) told = tt
told_end number end before after (Err status.Memory) told = tt
told_end number end before after (Err status.WriteFault) told = tt
told_end number end before after (Err _) told = absurd told

pub told_net : (before after : Option (List ℕ)) (r : Status) → TellsNetFault before after r → IsLinkEnd r
told_net before after status.NetFault told = tt
told_net before after status.Memory told = tt
told_net before after status.WriteFault told = tt
told_net before after _ told = absurd told

-- Such an end of a manager that is open is one of a store that was opened.
pub link_is_net : (r : Status) → IsLinkEnd r → IsNetEnd r
link_is_net status.Usage ends = absurd ends
link_is_net (status.Script line kind) ends = absurd ends
link_is_net status.TooLong ends = absurd ends
link_is_net status.TooManyLines ends = absurd ends
link_is_net status.ReadFault ends = absurd ends
link_is_net status.NetFull ends = absurd ends
link_is_net r ends = tt
