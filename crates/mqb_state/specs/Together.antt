-- A record, where there is one, and what is done beside it.
use Rattle.std.specs.Option.{option_map_or}
use Rattle.std.specs.Prelude.{[], ◌+◌, ◌≡◌, IfSome, IsSomeAnd, None, Option, Some, true, ℕ}
use Rattle.mqb_entries.specs.declared.entry.Entry.{Entry}
use Rattle.mqb_timeouts.specs.Work.{express_count}
use Rattle.mqb_timeouts.specs.declared.work.ExpressWork.{ExpressWork}
use Rattle.mqb_model.specs.managers.Beside.{Beside, beside_done}
use Rattle.mqb_model.specs.managers.Outcomes.{recorded}
use Rattle.mqb_model.specs.records.Applying.{fits, lines_of}
use Rattle.mqb_model.specs.records.Counting.{named_count}
use Rattle.mqb_model.specs.records.Reading.{record_in}
use Rattle.mqb_model.specs.records.Record.{Record}
use Rattle.mqb_model.specs.rules.Effects.{Effect}
use Rattle.mqb_model.specs.state.State.{State}
use Rattle.mqb_model.specs.state.Valid.{IsValidState}

-- what both come to: what is done beside a record has no line
abbrev pub effect_with : State → Option Record → Beside → Effect
effect_with s r b =
    record { state = beside_done b (recorded s r); lines = option_map_or (lines_of s) r [] }

-- how many messages a record names, where there is one
abbrev pub record_count : State → Option Record → ℕ
record_count s r = option_map_or (named_count s) r 0

-- how many messages both name
abbrev pub count_with : State → Option Record → ExpressWork → ℕ
count_with s r work = record_count s r + express_count (recorded s r) work

-- There is no entry, or it is a record that fits; and this holds of it.
abbrev pub IsTried : State → Option Entry → (Option Record → Type 0) → Type 0
IsTried s None P = P None
IsTried s (Some e) P = IsSomeAnd (record_in e) (λ r. (fits s r ≡ true) × P (Some r))

-- What is done beside whatever record it is leaves a valid state.
abbrev pub LeavesValid : State → Option Entry → Beside → Type 0
LeavesValid s None b = IsValidState (beside_done b s)
LeavesValid s (Some e) b =
    IfSome (record_in e) (λ r. fits s r ≡ true → IsValidState (beside_done b (recorded s (Some r))))
