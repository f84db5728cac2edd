-- Why a worker's transaction is refused.
use Rattle.std.proofs.Common.{ap, refl, subst, sym}
use Rattle.std.specs.Prelude.{[], ◌+◌, ◌∷◌, ◌≡◌, Bool, Err, IfErr, IsSome, IsSomeAnd, List, None, Ok, Option, Result, Some, false, if◌then◌else◌, nat_lt, option_map, true, ℕ}
use Rattle.mqb_base.specs.declared.draft.Op.TheVariants as op
use Rattle.mqb_base.specs.declared.draft.Parts.{Parts}
use Rattle.mqb_base.specs.declared.message.Message.{Message}
use Rattle.mqb_base.specs.declared.queue_names.QueueName.{QueueName}
use Rattle.mqb_fields.specs.Reading.{◌>>=◌}
use Rattle.mqb_model.specs.calls.Commit.{Trial, at_op, commit, commit_tried, has_too_large, ops_refusal, send_of, trial_of, try_ops, with_take}
use Rattle.mqb_model.specs.calls.Messages.{message_for}
use Rattle.mqb_model.specs.declared.answers.Done.{Done}
use Rattle.mqb_model.specs.declared.faults.CommitFault.{CommitFault}
use Rattle.mqb_model.specs.declared.faults.CommitFault.TheVariants as fault
use Rattle.mqb_model.specs.declared.faults.OpFault.{OpFault}
use Rattle.mqb_model.specs.declared.faults.OpFault.TheVariants as op_fault
use Rattle.mqb_model.specs.declared.limits.TheConstants.{MAX_NUMBER}
use Rattle.mqb_model.specs.managers.Manager.{Manager, is_down}
use Rattle.mqb_model.specs.managers.Outcomes.{Outcome, answering, recording, unless}
use Rattle.mqb_model.specs.records.Record as entry
use Rattle.mqb_model.specs.state.State.{State}
use Rattle.mqb_worker.specs.Refusals.{RefusesReply, RefusesStep}
use Rattle.mqb_worker.specs.Steps.{step_answer, stepped, told_step}
use Rattle.mqb_worker.specs.Work.{is_idle, reply_for, reply_to, sends, waiting_in, work}
use Rattle.mqb_worker.specs.declared.telling.Step.TheVariants as step
use Rattle.mqb_worker.proofs.Tries.{First, Idle, NoQueue, NotEmpty, Plain, TriesTake, tries_send, tries_take}

-- It has an op, and few.

few : (m : Manager) (name : List ℕ) (o : Option Parts) → is_down m ≡ false → ops_refusal m (op.Take name ∷ sends o) ≡ None
few m name None up = ap (λ (b : Bool). if b then Some fault.Down else None) up
few m name (Some p) up = ap (λ (b : Bool). if b then Some fault.Down else None) up

-- so its ops are tried
pub commit_is : (m : Manager) (name : List ℕ) (o : Option Parts) (now : ℕ) → is_down m ≡ false
    → commit m (op.Take name ∷ sends o) now ≡ commit_tried m now (try_ops now 0 (trial_of m.state) (op.Take name ∷ sends o))
commit_is m name o now up =
    ap (λ (why : Option CommitFault). unless m why (commit_tried m now (try_ops now 0 (trial_of m.state) (op.Take name ∷ sends o)))) (few m name o up)

-- Its ops.

module _ (s : State) (name : List ℕ) (h : List ℕ → List ℕ) (now : ℕ) where
  abbrev Refuses : CommitFault → Type 0
  Refuses why = RefusesStep s name now why

  abbrev Asks : Type 0
  Asks = IsSomeAnd (waiting_in s name now) (λ m. IsSome m.response)

  reply_refused : Asks → (why : OpFault) → NotEmpty why → RefusesReply s name now why
  reply_refused asks op_fault.QueueEmpty not = absurd (not refl)
  reply_refused asks op_fault.NoQueue not = asks
  reply_refused asks op_fault.NotTransactional not = asks
  reply_refused asks op_fault.UnknownPeer not = asks
  reply_refused asks op_fault.QueueFull not = asks
  reply_refused asks op_fault.SequenceSpent not = asks

  reply_tried : (t : Trial) (o : Option Parts) → (IsSome o → Asks) → IfErr (try_ops now 1 t (sends o)) Refuses
  reply_tried t None asks = tt
  reply_tried t (Some p) asks = at (send_of t now (message_for t.sending now p)) (tries_send t now (message_for t.sending now p)).1
    where
      at : (r : Result Trial OpFault) → IfErr r NotEmpty → IfErr (at_op 1 r >>= λ next. try_ops now 2 next []) Refuses
      at (Ok next) not = tt
      at (Err why) not = reply_refused (asks refl) why not

  response_is : (o : Option QueueName) (m : Message) → IsSome (option_map (reply_to h m) o) → IsSome o
  response_is None m there = there
  response_is (Some to) m there = refl

  asks_for : (w : Option Message) → IsSome (reply_for h w) → IsSomeAnd w (λ m. IsSome m.response)
  asks_for None there = let none : ⊥ = cc in absurd none
  asks_for (Some m) there = response_is m.response m there

  abbrev reply : Option Parts
  reply = reply_for h (waiting_in s name now)

  take_tried : {r : Result Trial OpFault} → TriesTake s name now r → is_idle s name now ≡ false → IfErr (at_op 0 r >>= λ next. try_ops now 1 next (sends reply)) Refuses
  take_tried (NoQueue none) busy = none
  take_tried (Plain plain) busy = plain
  take_tried (Idle idle) busy = let none : ⊥ = cc in absurd none
  take_tried (First number k m named waits) busy = reply_tried (with_take (trial_of s) number k m) reply (asks_for (waiting_in s name now))

  pub tried_refused : is_idle s name now ≡ false → IfErr (try_ops now 0 (trial_of s) (work s name h now)) Refuses
  tried_refused busy = take_tried (tries_take s name now) busy

-- The whole.

whole : (P : CommitFault → Type 0) (m : Manager) (now : ℕ) (t : Trial) → P fault.NumbersSpent → P fault.TooLarge → (a b : Bool)
    → IfErr (unless m (if a then Some fault.NumbersSpent else if b then Some fault.TooLarge else None) (recording m (entry.Commit now t.ops) (Ok t.done))).answer P
whole P m now t spent large true b = spent
whole P m now t spent large false true = large
whole P m now t spent large false false = tt

tried : (P : CommitFault → Type 0) (m : Manager) (now : ℕ) (r : Result Trial CommitFault) → P fault.NumbersSpent → P fault.TooLarge → IfErr r P
    → IfErr (commit_tried m now r).answer P
tried P m now (Err why) spent large h = h
tried P m now (Ok t) spent large h = whole P m now t spent large (nat_lt (MAX_NUMBER + 1) t.sending.next_number) (has_too_large t.ops)

told : (P : CommitFault → Type 0) (a : Result (List Done) CommitFault) → IfErr a P → IfErr (step_answer a) P
told P (Ok ops) h = tt
told P (Err why) h = h

-- Each step.
pub step_refused : (m : Manager) (name : List ℕ) (h : List ℕ → List ℕ) (now : ℕ) → IfErr (stepped m name h now).answer (RefusesStep m.state name now)
step_refused m name h now = by (is_down m) (is_idle m.state name now) refl refl
  where
    by : (a b : Bool) → is_down m ≡ a → is_idle m.state name now ≡ b
        → IfErr (if a then answering m (Err fault.Down) else if b then answering m (Ok step.Idle) else told_step (commit m (work m.state name h now) now)).answer (RefusesStep m.state name now)
    by true b down idle = tt
    by false true up idle = tt
    by false false up busy = told (RefusesStep m.state name now) (commit m (work m.state name h now) now).answer
        (subst (λ (o : Outcome (Result (List Done) CommitFault)). IfErr o.answer (RefusesStep m.state name now)) (sym (commit_is m name (reply_for h (waiting_in m.state name now)) now up))
        (tried (RefusesStep m.state name now) m now (try_ops now 0 (trial_of m.state) (work m.state name h now)) tt tt (tried_refused m.state name h now busy)))
