-- Why a step is refused, beside want of memory and a disk that failed.
use Rattle.std.specs.Prelude.{◌≡◌, IsSome, IsSomeAnd, List, None, false, suc, zero, ℕ}
use Rattle.mqb_model.specs.declared.faults.CommitFault.{CommitFault}
use Rattle.mqb_model.specs.declared.faults.CommitFault.TheVariants as fault
use Rattle.mqb_model.specs.declared.faults.OpFault.{OpFault}
use Rattle.mqb_model.specs.declared.faults.OpFault.TheVariants as op_fault
use Rattle.mqb_model.specs.state.State.{State}
use Rattle.mqb_worker.specs.Work.{queue_by, waiting_in}

-- its take: no queue has the name, or one that is not transactional; it never finds the queue empty
abbrev pub RefusesTake : State → (name : List ℕ) → OpFault → Type 0
RefusesTake s name op_fault.NoQueue = queue_by s name ≡ None
RefusesTake s name op_fault.NotTransactional =
    IsSomeAnd (queue_by s name) (λ q. q.plan.transactional ≡ false)
RefusesTake s name _ = ⊥

-- its reply: there is one, and it goes nowhere
abbrev pub RefusesReply : State → (name : List ℕ) → (now : ℕ) → OpFault → Type 0
RefusesReply s name now op_fault.QueueEmpty = ⊥
RefusesReply s name now _ = IsSomeAnd (waiting_in s name now) (λ m. IsSome m.response)

-- by the index of the op
abbrev pub RefusesOp : State → (name : List ℕ) → (now index : ℕ) → OpFault → Type 0
RefusesOp s name now zero why = RefusesTake s name why
RefusesOp s name now (suc zero) why = RefusesReply s name now why
RefusesOp s name now (suc (suc index)) why = ⊥

-- There is an op, and there are not too many.
abbrev pub RefusesStep : State → (name : List ℕ) → (now : ℕ) → CommitFault → Type 0
RefusesStep s name now fault.NoOps = ⊥
RefusesStep s name now fault.TooManyOps = ⊥
RefusesStep s name now (fault.AtOp index why) = RefusesOp s name now index why
RefusesStep s name now _ = Unit {0}
