-- What calls that write entries ask and leave.
use Rattle.std.specs.Prelude.{◌≡◌, ℕ, ◌-◌, List, ◌++◌, Result, Ok, Err, vec_len, vec_capacity}
use Rattle.std.specs.Global.{Vec}
use Rattle.mqb_base.specs.declared.answers.Memory.{Memory}
use Rattle.mqb_entries.specs.declared.entry.Entry.{Entry}
use Rattle.mqb_entries.specs.SpelledEntries.{spelled, IsEntry}

-- how many bytes can be added without new memory
unfoldable pub room_of : Vec ℕ → ℕ
room_of out = vec_capacity out - vec_len out

-- an entry was added at the end, or nothing
abbrev pub Puts : Entry → List ℕ → List ℕ → Result (Unit {0}) Memory → Type 0
Puts entry old new (Ok _) = (new ≡ old ++ spelled entry) × IsEntry entry
Puts entry old new (Err _) = new ≡ old
