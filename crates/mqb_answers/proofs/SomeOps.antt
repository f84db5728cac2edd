-- A transaction with ops is not refused for having none.
use Rattle.std.proofs.Common.{ap, ◌∙◌, sym, arith, inl, inr}
use Rattle.std.specs.Prelude.{[], ◌+◌, ◌==◌, ◌∷◌, ◌≡◌, ◌≤◌, Bool, Err, List, None, Ok, Result, Some, false, if◌then◌else◌, length, nat_lt, true, ℕ}
use Rattle.mqb_base.specs.declared.draft.Op.{Op}
use Rattle.mqb_fields.specs.Reading.{◌>>=◌}
use Rattle.mqb_replies.specs.mqb_manager.Calls.{Ends}
use Rattle.mqb_replies.specs.mqb_manager.States.{ManagerState, manager_of}
use Rattle.mqb_model.specs.calls.Commit.{Trial, at_op, commit, commit_tried, has_too_large, trial_of, try_op, try_ops}
use Rattle.mqb_model.specs.declared.answers.Done.{Done}
use Rattle.mqb_model.specs.declared.faults.CommitFault.{CommitFault}
use Rattle.mqb_model.specs.declared.faults.CommitFault.TheVariants as fault
use Rattle.mqb_model.specs.declared.faults.OpFault.{OpFault}
use Rattle.mqb_model.specs.declared.limits.TheConstants.{MAX_NUMBER, MAX_OPS}
use Rattle.mqb_model.specs.managers.Manager.{Manager, is_down}
use Rattle.mqb_model.specs.managers.Outcomes.{Outcome, recording, unless}
use Rattle.mqb_model.specs.records.Record as entry

tried_some : (now index : ℕ) (t : Trial) (ops : List Op) → try_ops now index t ops ≡ Err fault.NoOps → ⊥
tried_some now index t [] e = let none : ⊥ = cc in none
tried_some now index t (op ∷ ops) e = at (try_op t now op) e (λ next. tried_some now (index + 1) next ops)
  where
    at : (r : Result Trial OpFault) → (at_op index r >>= λ next. try_ops now (index + 1) next ops) ≡ Err fault.NoOps
        → ((next : Trial) → try_ops now (index + 1) next ops ≡ Err fault.NoOps → ⊥) → ⊥
    at (Ok next) e more = more next e
    at (Err why) e more = let none : ⊥ = cc in none

whole_some : (m : Manager) (now : ℕ) (t : Trial) (a b : Bool)
    → (unless m (if a then Some fault.NumbersSpent else if b then Some fault.TooLarge else None) (recording m (entry.Commit now t.ops) (Ok t.done))).answer ≡ Err fault.NoOps → ⊥
whole_some m now t true b e = let none : ⊥ = cc in none
whole_some m now t false true e = let none : ⊥ = cc in none
whole_some m now t false false e = let none : ⊥ = cc in none

made_some : (m : Manager) (now : ℕ) (r : Result Trial CommitFault) → (r ≡ Err fault.NoOps → ⊥) → (commit_tried m now r).answer ≡ Err fault.NoOps → ⊥
made_some m now (Err why) some e = some (let inside : why ≡ fault.NoOps = cc in ap (λ (why : CommitFault). Err why) inside)
made_some m now (Ok t) some e = whole_some m now t (nat_lt (MAX_NUMBER + 1) t.sending.next_number) (has_too_large t.ops) e

refused_some : (m : Manager) (o : Outcome (Result (List Done) CommitFault)) (down many : Bool) → (o.answer ≡ Err fault.NoOps → ⊥)
    → (unless m (if down then Some fault.Down else if false then Some fault.NoOps else if many then Some fault.TooManyOps else None) o).answer ≡ Err fault.NoOps → ⊥
refused_some m o true many some e = let none : ⊥ = cc in none
refused_some m o false true some e = let none : ⊥ = cc in none
refused_some m o false false some e = some e

commit_some : (m : Manager) (ops : List Op) (now : ℕ) → 1 ≤ length ops → (commit m ops now).answer ≡ Err fault.NoOps → ⊥
commit_some m ops now few e =
    let some : (length ops == 0) ≡ false = grind arith in
    let tried = commit_tried m now (try_ops now 0 (trial_of m.state) ops) in
    refused_some m tried (is_down m) (nat_lt MAX_OPS (length ops)) (made_some m now (try_ops now 0 (trial_of m.state) ops) (tried_some now 0 (trial_of m.state) ops))
    (sym (ap (λ (b : Bool). (unless m (if is_down m then Some fault.Down else if b then Some fault.NoOps else if nat_lt MAX_OPS (length ops) then Some fault.TooManyOps else None) tried).answer) some) ∙ e)

pub ends_some : (m n : ManagerState) (ops : List Op) (now : ℕ) (a : Result (List Done) CommitFault) → 1 ≤ length ops
    → Ends fault.Memory fault.DiskFault m n (commit (manager_of m) ops now) a → a ≡ Err fault.NoOps → ⊥
ends_some m n ops now a few (inl went) e = commit_some (manager_of m) ops now few (sym went.0 ∙ e)
ends_some m n ops now a few (inr (inl wants)) e = let none : ⊥ = cc in none
ends_some m n ops now a few (inr (inr breaks)) e = let none : ⊥ = cc in none
