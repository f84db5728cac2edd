-- All ops are noted as they are tried, and the whole is refused alike.
use Rattle.std.proofs.Common.{refl, ap, ap₂, sym, subst, ◌∙◌}
use Rattle.std.specs.List.{list_any}
use Rattle.std.specs.Prelude.{[], ◌+◌, ◌||◌, ◌∷◌, ◌≡◌, Bool, Err, List, None, Ok, Option, Result, Some, cond, map, nat_lt, ℕ}
use Rattle.mqb_base.specs.declared.draft.Op.{Op}
use Rattle.mqb_base.specs.declared.draft.Op.TheVariants as asked
use Rattle.mqb_fields.specs.Reading.{◌>>=◌}
use Rattle.mqb_packet.specs.declared.packet.Headers.TheVariants.{TxAndSession}
use Rattle.mqb_model.specs.calls.Commit.{Trial, has_too_large, trial_of, try_ops, whole_refusal}
use Rattle.mqb_model.specs.calls.Commit as commit
use Rattle.mqb_model.specs.declared.faults.CommitFault.{CommitFault}
use Rattle.mqb_model.specs.declared.faults.CommitFault.TheVariants as fault
use Rattle.mqb_model.specs.declared.faults.OpFault.{OpFault}
use Rattle.mqb_model.specs.declared.limits.TheConstants.{MAX_NUMBER, MAX_RECORD}
use Rattle.mqb_model.specs.records.Commit.{sends_of}
use Rattle.mqb_model.specs.records.Counting.{commit_size}
use Rattle.mqb_model.specs.records.Packets.{is_too_large}
use Rattle.mqb_model.specs.state.State.{State}
use Rattle.mqb_trying.specs.declared.notes.PlannedOp.{PlannedOp}
use Rattle.mqb_trying.specs.declared.notes.PlannedOp.TheVariants.{Send, Take}
use Rattle.mqb_trying.specs.Notes.{Noted, record_op}
use Rattle.mqb_trying.specs.Trying.{IsRefusedBy, at_op, is_large, try_all, try_op, unless, whole_fault}
use Rattle.mqb_trying.proofs.Following.{Agrees, Follows}
use Rattle.mqb_trying.proofs.SendsAgree.{sends_agree}
use Rattle.mqb_trying.proofs.TakesAgree.{takes_agree}

op_agrees : (s : State) (now : ℕ) (n : Noted) (t : Trial) (op : Op) → Follows s now n t → Agrees s now (try_op s now n op) (commit.try_op t now op)
op_agrees s now n t (asked.Take name) h = takes_agree s now n t name h
op_agrees s now n t (asked.Send p) h = sends_agree s now n t p h

pub all_agree : (s : State) (now index : ℕ) (n : Noted) (t : Trial) (ops : List Op) → Follows s now n t → Agrees s now (try_all s now index n ops) (try_ops now index t ops)
all_agree s now index n t [] h = h
all_agree s now index n t (op ∷ ops) h = at (try_op s now n op) (commit.try_op t now op) (op_agrees s now n t op h) (λ n t h. all_agree s now (index + 1) n t ops h)
  where
    at : (a : Result Noted OpFault) (b : Result Trial OpFault) → Agrees s now a b
        → ((n : Noted) (t : Trial) → Follows s now n t → Agrees s now (try_all s now (index + 1) n ops) (try_ops now (index + 1) t ops))
        → Agrees s now (at_op index a >>= λ next. try_all s now (index + 1) next ops) (commit.at_op index b >>= λ next. try_ops now (index + 1) next ops)
    at (Ok n) (Ok t) f more = more n t f
    at (Err a) (Err b) e more = ap (λ why. fault.AtOp index why) e
    at (Ok n) (Err b) f more = absurd f
    at (Err a) (Ok t) f more = absurd f

-- where the notes are made, so is the trial
pub followed : (s : State) (now : ℕ) (n : Noted) (a : Result Noted CommitFault) (b : Result Trial CommitFault) → a ≡ Ok n → Agrees s now a b → (t : Trial) × (b ≡ Ok t) × Follows s now n t
followed s now n (Ok x) (Ok t) e h = (t, refl, subst (λ x. Follows s now x t) (let same : x ≡ n = cc in same) h)
followed s now n (Ok x) (Err b) e h = absurd h
followed s now n (Err a) b e h = absurd (let none : ⊥ = cc in none)

-- where they are refused, it is
refused_too : (s : State) (now : ℕ) (why : CommitFault) (a : Result Noted CommitFault) (b : Result Trial CommitFault) → a ≡ Err why → Agrees s now a b → b ≡ Err why
refused_too s now why (Err x) (Err y) e h = ap (λ w. Err w) (sym h ∙ (let same : x ≡ why = cc in same))
refused_too s now why (Err x) (Ok t) e h = absurd h
refused_too s now why (Ok n) b e h = absurd (let none : ⊥ = cc in none)

-- the refusal of what was tried is that of the whole
pub refused_by : (s : State) (now : ℕ) (why : CommitFault) (count : Option CommitFault) (a : Result Noted CommitFault) (b : Result Trial CommitFault) → count ≡ None → Agrees s now a b → IsRefusedBy a why
    → IsRefusedBy (unless count (b >>= λ t. unless (whole_refusal t) (Ok t))) why
refused_by s now why count a b few h r = by why r
  where
    same : (why : CommitFault) → a ≡ Err why → unless count (b >>= λ t. unless (whole_refusal t) (Ok t)) ≡ Err why
    same why e = ap (λ c. unless c (b >>= λ t. unless (whole_refusal t) (Ok t))) few ∙ ap (λ b. b >>= λ t. unless (whole_refusal t) (Ok t)) (refused_too s now why a b e h)

    by : (why : CommitFault) → IsRefusedBy a why → IsRefusedBy (unless count (b >>= λ t. unless (whole_refusal t) (Ok t))) why
    by fault.Memory r = tt
    by fault.Down r = same fault.Down r
    by fault.NoOps r = same fault.NoOps r
    by fault.TooManyOps r = same fault.TooManyOps r
    by (fault.AtOp index x) r = same (fault.AtOp index x) r
    by fault.NumbersSpent r = same fault.NumbersSpent r
    by fault.TooLarge r = same fault.TooLarge r
    by fault.DiskFault r = same fault.DiskFault r

-- The whole.

large_is : (ops : List PlannedOp) → list_any (is_too_large TxAndSession) (sends_of (map record_op ops)) ≡ list_any is_large ops
large_is [] = refl
large_is (Send m to ∷ ops) = ap (λ b. is_too_large TxAndSession m || b) (large_is ops)
large_is (Take queue id ∷ ops) = large_is ops

pub whole_agrees : (s : State) (now : ℕ) (n : Noted) (t : Trial) → Follows s now n t → whole_refusal t ≡ whole_fault n
whole_agrees s now n t h = ap₂ (λ (number : ℕ) (large : Bool). cond (nat_lt (MAX_NUMBER + 1) number) (Some fault.NumbersSpent) (cond large (Some fault.TooLarge) None)) h.number
    (ap has_too_large h.ops ∙ ap (λ b. b || nat_lt MAX_RECORD (commit_size (map record_op n.ops))) (large_is n.ops))
