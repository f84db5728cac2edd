-- How the ops of a transaction are tried one after another.
use Rattle.std.specs.List.{list_any}
use Rattle.std.specs.Prelude.{[], ◌+◌, ◌==◌, ◌||◌, ◌∷◌, ◌≡◌, Bool, Err, List, None, Ok, Option}
use Rattle.std.specs.Prelude.{Result, Some, false, if◌then◌else◌, length, map, nat_lt, ℕ}
use Rattle.mqb_base.specs.declared.draft.Op.{Op}
use Rattle.mqb_base.specs.declared.draft.Op.TheVariants as asked
use Rattle.mqb_fields.specs.Reading.{◌>>=◌}
use Rattle.mqb_packet.specs.declared.packet.Headers.TheVariants.{TxAndSession}
use Rattle.mqb_model.specs.calls.Commit.{Trial, trial_of, try_ops, whole_refusal}
use Rattle.mqb_model.specs.declared.faults.CommitFault.{CommitFault}
use Rattle.mqb_model.specs.declared.faults.CommitFault.TheVariants as fault
use Rattle.mqb_model.specs.declared.faults.OpFault.{OpFault}
use Rattle.mqb_model.specs.declared.limits.TheConstants.{MAX_NUMBER, MAX_OPS, MAX_RECORD}
use Rattle.mqb_model.specs.records.Counting.{commit_size}
use Rattle.mqb_model.specs.records.Packets.{is_too_large}
use Rattle.mqb_model.specs.state.State.{State}
use Rattle.mqb_trying.specs.declared.notes.PlannedOp.{PlannedOp}
use Rattle.mqb_trying.specs.declared.notes.PlannedOp.TheVariants.{Send, Take}
use Rattle.mqb_trying.specs.Notes.{Noted, record_op}
use Rattle.mqb_trying.specs.Sends.{try_send}
use Rattle.mqb_trying.specs.Takes.{try_take}

-- What a transaction comes to.

-- there are too few ops, or too many
abbrev pub count_refusal : ℕ → Option CommitFault
count_refusal count = if count == 0 then Some fault.NoOps
    else if nat_lt MAX_OPS count then Some fault.TooManyOps
    else None

-- it is refused, where there is a reason
abbrev pub unless : {T : Type 0} → Option CommitFault → Result T CommitFault → Result T CommitFault
unless (Some why) outcome = Err why
unless None outcome = outcome

-- the trial of a transaction, or the first reason against it, the manager left aside: what `commit`
-- comes to in one that is up
abbrev pub tried : State → ℕ → List Op → Result Trial CommitFault
tried s now ops = unless (count_refusal (length ops))
    (try_ops now 0 (trial_of s) ops >>= λ t. unless (whole_refusal t) (Ok t))

-- it is refused for this reason, or for want of memory
abbrev pub IsRefusedBy : {T : Type 0} → Result T CommitFault → CommitFault → Type 0
IsRefusedBy outcome fault.Memory = Unit {0}
IsRefusedBy outcome why = outcome ≡ Err why

-- Op by op, as it is noted.

-- a fault stands at the index of its op
abbrev pub at_op : {T : Type 0} → ℕ → Result T OpFault → Result T CommitFault
at_op index (Ok n) = Ok n
at_op index (Err why) = Err (fault.AtOp index why)

-- one op more is tried
abbrev pub try_op : State → ℕ → Noted → Op → Result Noted OpFault
try_op s now n (asked.Take name) = try_take s now n name
try_op s now n (asked.Send p) = try_send s now n p

-- ops from an index on, up to the first that fails
abbrev pub try_all : State → ℕ → ℕ → Noted → List Op → Result Noted CommitFault
try_all s now index n [] = Ok n
try_all s now index n (op ∷ ops) =
    at_op index (try_op s now n op) >>= λ next. try_all s now (index + 1) next ops

-- the packet of an op is too large in a transaction
abbrev pub is_large : PlannedOp → Bool
is_large (Send m to) = is_too_large TxAndSession m
is_large (Take queue id) = false

-- one is, or the whole record is
abbrev pub large_ops : List PlannedOp → Bool
large_ops ops = list_any is_large ops || nat_lt MAX_RECORD (commit_size (map record_op ops))

-- why ops that were tried make no transaction
abbrev pub whole_fault : Noted → Option CommitFault
whole_fault n = if nat_lt (MAX_NUMBER + 1) n.next_number then Some fault.NumbersSpent
    else if large_ops n.ops then Some fault.TooLarge
    else None
