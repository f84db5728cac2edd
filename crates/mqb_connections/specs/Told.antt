-- What is written of one connection, and whether the program goes on behind it.
use Rattle.std.specs.Prelude.{[], ◌≡◌, Err, List, Ok, Option, Result, ℕ}
use Rattle.mqb_outside.specs.Told.{Took}
use Rattle.mqb_serving.specs.Serving.{Answer}
use Rattle.mqb_serving.specs.declared.faults.ConnFault.TheVariants as fault
use Rattle.mqb_commands.specs.Outputs.{TookFront}
use Rattle.mqb_commands.specs.Texts.{fault_text}
use Rattle.mqb_commands.specs.declared.status.Status.{Status}
use Rattle.mqb_commands.specs.declared.status.Status.TheVariants as status
use Rattle.mqb_connections.specs.Visits.{end_line}

-- it ended well or by its peer, or a half of it failed
abbrev pub GoesOn : Answer → Type 0
GoesOn (Err fault.DiskFault) = ⊥
GoesOn (Err fault.Memory) = ⊥
GoesOn _ = Unit {0}

-- The line of a connection was written, or the program ends.
abbrev pub TellsEnd : ℕ → Answer → (before after : Option (List ℕ)) → Result (Unit {0}) Status
    → Type 0
TellsEnd number end before after (Ok done) = GoesOn end × Took before after (end_line number end)
TellsEnd number end before after (Err status.DiskFault) =
    (end ≡ Err fault.DiskFault) × (after ≡ before)
TellsEnd number end before after (Err status.Memory) = after ≡ before
TellsEnd number end before after (Err status.WriteFault) =
    TookFront before after (end_line number end)
TellsEnd number end before after (Err _) = ⊥

-- The net gave no connection: the fault line was written, or a front of it, or memory ran out.
abbrev pub TellsNetFault : (before after : Option (List ℕ)) → Status → Type 0
TellsNetFault before after status.NetFault = Took before after (fault_text status.NetFault)
TellsNetFault before after status.Memory = Took before after []
TellsNetFault before after status.WriteFault = TookFront before after (fault_text status.NetFault)
TellsNetFault before after _ = ⊥
