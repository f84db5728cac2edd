-- The record of a step is a worker's.
use Rattle.std.proofs.Common.{ap, refl, subst, sym, ◌∙◌}
use Rattle.std.specs.Option.{option_map_or}
use Rattle.std.specs.Prelude.{[], ◌+◌, ◌∷◌, ◌≡◌, Bool, Err, IfOk, IfSome, IsSomeAnd, List, None, Ok, Option, Result, Some, false, if◌then◌else◌, nat_lt, option_map, true, ℕ}
use Rattle.mqb_base.specs.declared.ids.MessageId.{MessageId}
use Rattle.mqb_base.specs.declared.message.Message.{Message}
use Rattle.mqb_base.specs.declared.queue_names.QueueName.{QueueName}
use Rattle.mqb_fields.specs.Reading.{◌>>=◌}
use Rattle.mqb_model.specs.calls.Commit.{Trial, at_op, commit, commit_tried, has_too_large, send_of, trial_of, try_ops, with_take}
use Rattle.mqb_model.specs.calls.Messages.{message_for}
use Rattle.mqb_model.specs.declared.answers.Done.{Done}
use Rattle.mqb_model.specs.declared.faults.CommitFault.{CommitFault}
use Rattle.mqb_model.specs.declared.faults.CommitFault.TheVariants as fault
use Rattle.mqb_model.specs.declared.faults.OpFault.{OpFault}
use Rattle.mqb_model.specs.declared.limits.TheConstants.{MAX_NUMBER}
use Rattle.mqb_model.specs.managers.Manager.{Manager, is_down}
use Rattle.mqb_model.specs.managers.Outcomes.{Outcome, answering, recording, unless}
use Rattle.mqb_model.specs.records.Packets.{packet_to}
use Rattle.mqb_model.specs.records.Record.{Record, RecordOp}
use Rattle.mqb_model.specs.records.Record as entry
use Rattle.mqb_model.specs.rules.Numbers.{own_id}
use Rattle.mqb_model.specs.state.Resolving.{queue_named, resolved}
use Rattle.mqb_model.specs.state.State.{State}
use Rattle.mqb_worker.specs.Laws.{IsWork}
use Rattle.mqb_worker.specs.Steps.{TellsWork, step_answer, step_of, stepped, told_step}
use Rattle.mqb_worker.specs.Work.{is_idle, reply_for, reply_to, sends, waiting_in, work}
use Rattle.mqb_worker.specs.declared.telling.Step.{Step}
use Rattle.mqb_worker.specs.declared.telling.Step.TheVariants as step
use Rattle.mqb_worker.proofs.Refused.{commit_is}
use Rattle.mqb_worker.proofs.Tries.{First, Idle, IsSentTo, NoQueue, Plain, TriesTake, tries_send, tries_take}

module _ (s : State) (name : List ℕ) (h : List ℕ → List ℕ) (now : ℕ) where
  -- the ops of a record are a worker's
  abbrev pub AreWork : List RecordOp → Type 0
  AreWork ops = IsWork name h s (entry.Commit now ops)

  -- the op by which a reply to a name is sent
  abbrev ops_to : Message → Option QueueName → List RecordOp
  ops_to m o = option_map_or (λ to. entry.Send (packet_to s (resolved s to) (message_for s now (reply_to h m to))) ∷ []) o []

  -- what was tried is a worker's, and tells of the message and its reply
  record IsWorked (number : ℕ) (m : Message) (o : Option QueueName) (t : Trial) : Type 0 where
    ops : t.ops ≡ entry.Take number m.id ∷ ops_to m o
    said : step_of t.done ≡ step.Done m.id (option_map (λ to. own_id s s.next_number) o)

  replied : (number k : ℕ) (m : Message) (o : Option QueueName)
      → IfOk (try_ops now 1 (with_take (trial_of s) number k m) (sends (option_map (reply_to h m) o))) (IsWorked number m o)
  replied number k m None = record { ops = refl; said = refl }
  replied number k m (Some to) =
      let t = with_take (trial_of s) number k m in
      let reply = message_for s now (reply_to h m to) in
      at (send_of t now reply) (tries_send t now reply).0
    where
      at : (r : Result Trial OpFault) → IfOk r (IsSentTo (with_take (trial_of s) number k m) now (message_for s now (reply_to h m to)) (resolved s to))
          → IfOk (at_op 1 r >>= λ next. try_ops now 2 next []) (IsWorked number m (Some to))
      at (Ok next) is = record {
        ops = is.ops;
        said = ap step_of is.told ∙ ap (λ (reply : Option MessageId). step.Done m.id reply) is.id;
      }
      at (Err why) is = tt

  -- so its record and its answer are
  pub record IsRight (t : Trial) : Type 0 where
    pub work : AreWork t.ops
    pub tells : TellsWork s name now (step_of t.done)

  tells_so : (m : Message) (reply : Option MessageId) (said : Step) → waiting_in s name now ≡ Some m → reply ≡ option_map (λ to. own_id s s.next_number) m.response
      → said ≡ step.Done m.id reply → TellsWork s name now said
  tells_so m reply said waits is so =
      subst (TellsWork s name now) (sym so)
      (subst (λ (w : Option Message). IsSomeAnd w (λ n. (m.id ≡ n.id) × (reply ≡ option_map (λ to. own_id s s.next_number) n.response))) (sym waits) (refl, is))

  are_right : (number : ℕ) (m : Message) → queue_named s name ≡ Some number → waiting_in s name now ≡ Some m → (r : Result Trial CommitFault)
      → IfOk r (IsWorked number m m.response) → IfOk r IsRight
  are_right number m named waits (Err why) is = tt
  are_right number m named waits (Ok t) is = record {
    work = record {
      now = now;
      number = number;
      message = m;
      queue = named;
      first = waits;
      work = ap (λ (ops : List RecordOp). entry.Commit now ops) is.ops;
    };
    tells = tells_so m (option_map (λ to. own_id s s.next_number) m.response) (step_of t.done) waits refl is.said;
  }

  taken : {r : Result Trial OpFault} → TriesTake s name now r → IfOk (at_op 0 r >>= λ next. try_ops now 1 next (sends (reply_for h (waiting_in s name now)))) IsRight
  taken (NoQueue none) = tt
  taken (Plain plain) = tt
  taken (Idle idle) = tt
  taken (First number k m named waits) =
      let t = with_take (trial_of s) number k m in
      are_right number m named waits (try_ops now 1 t (sends (reply_for h (waiting_in s name now))))
      (subst (λ (w : Option Message). IfOk (try_ops now 1 t (sends (reply_for h w))) (IsWorked number m m.response)) (sym waits)
      (replied number k m m.response))

  pub tried_works : IfOk (try_ops now 0 (trial_of s) (work s name h now)) IsRight
  tried_works = taken (tries_take s name now)

-- The record.

whole_works : (P : Record → Type 0) (m : Manager) (now : ℕ) (t : Trial) → P (entry.Commit now t.ops) → (a b : Bool)
    → IfSome (unless m (if a then Some fault.NumbersSpent else if b then Some fault.TooLarge else None) (recording m (entry.Commit now t.ops) (Ok t.done))).entry P
whole_works P m now t is true b = tt
whole_works P m now t is false true = tt
whole_works P m now t is false false = is

commit_works : (P : Record → Type 0) (m : Manager) (now : ℕ) (r : Result Trial CommitFault) → IfOk r (λ t. P (entry.Commit now t.ops)) → IfSome (commit_tried m now r).entry P
commit_works P m now (Err why) is = tt
commit_works P m now (Ok t) is = whole_works P m now t is (nat_lt (MAX_NUMBER + 1) t.sending.next_number) (has_too_large t.ops)

right_works : (s : State) (name : List ℕ) (h : List ℕ → List ℕ) (now : ℕ) (r : Result Trial CommitFault) → IfOk r (IsRight s name h now) → IfOk r (λ t. AreWork s name h now t.ops)
right_works s name h now (Ok t) is = is.work
right_works s name h now (Err why) is = tt

pub step_works : (name : List ℕ) (h : List ℕ → List ℕ) (m : Manager) (now : ℕ) → IfSome (stepped m name h now).entry (IsWork name h m.state)
step_works name h m now = by (is_down m) (is_idle m.state name now) refl
  where
    by : (a b : Bool) → is_down m ≡ a
        → IfSome (if a then answering m (Err fault.Down) else if b then answering m (Ok step.Idle) else told_step (commit m (work m.state name h now) now)).entry (IsWork name h m.state)
    by true b down = tt
    by false true up = tt
    by false false up =
        subst (λ (o : Outcome (Result (List Done) CommitFault)). IfSome o.entry (IsWork name h m.state)) (sym (commit_is m name (reply_for h (waiting_in m.state name now)) now up))
        (commit_works (IsWork name h m.state) m now (try_ops now 0 (trial_of m.state) (work m.state name h now))
        (right_works m.state name h now (try_ops now 0 (trial_of m.state) (work m.state name h now)) (tried_works m.state name h now)))

-- Its answer.

whole_tells : (P : List Done → Type 0) (m : Manager) (now : ℕ) (t : Trial) → P t.done → (a b : Bool)
    → IfOk (unless m (if a then Some fault.NumbersSpent else if b then Some fault.TooLarge else None) (recording m (entry.Commit now t.ops) (Ok t.done))).answer P
whole_tells P m now t is true b = tt
whole_tells P m now t is false true = tt
whole_tells P m now t is false false = is

commit_tells : (P : Step → Type 0) (m : Manager) (now : ℕ) (r : Result Trial CommitFault) → IfOk r (λ t. P (step_of t.done)) → IfOk (commit_tried m now r).answer (λ ops. P (step_of ops))
commit_tells P m now (Err why) is = tt
commit_tells P m now (Ok t) is = whole_tells (λ ops. P (step_of ops)) m now t is (nat_lt (MAX_NUMBER + 1) t.sending.next_number) (has_too_large t.ops)

right_tells : (s : State) (name : List ℕ) (h : List ℕ → List ℕ) (now : ℕ) (r : Result Trial CommitFault) → IfOk r (IsRight s name h now)
    → IfOk r (λ t. TellsWork s name now (step_of t.done))
right_tells s name h now (Ok t) is = is.tells
right_tells s name h now (Err why) is = tt

answer_tells : (P : Step → Type 0) (a : Result (List Done) CommitFault) → IfOk a (λ ops. P (step_of ops)) → IfOk (step_answer a) P
answer_tells P (Ok ops) is = is
answer_tells P (Err why) is = tt

pub step_tells : (m : Manager) (name : List ℕ) (h : List ℕ → List ℕ) (now : ℕ) → IfOk (stepped m name h now).answer (TellsWork m.state name now)
step_tells m name h now = by (is_down m) (is_idle m.state name now) refl refl
  where
    by : (a b : Bool) → is_down m ≡ a → is_idle m.state name now ≡ b
        → IfOk (if a then answering m (Err fault.Down) else if b then answering m (Ok step.Idle) else told_step (commit m (work m.state name h now) now)).answer (TellsWork m.state name now)
    by true b down idle = tt
    by false true up idle = idle
    by false false up busy = answer_tells (TellsWork m.state name now) (commit m (work m.state name h now) now).answer
        (subst (λ (o : Outcome (Result (List Done) CommitFault)). IfOk o.answer (λ ops. TellsWork m.state name now (step_of ops)))
        (sym (commit_is m name (reply_for h (waiting_in m.state name now)) now up))
        (commit_tells (TellsWork m.state name now) m now (try_ops now 0 (trial_of m.state) (work m.state name h now))
        (right_tells m.state name h now (try_ops now 0 (trial_of m.state) (work m.state name h now)) (tried_works m.state name h now))))
