-- A checkpoint of a manager that is open, and of a store.
use Rattle.std.proofs.Common.{◌≡◌, ℕ, List, Result, Ok, Err, ap, inl, inr, refl, sym, subst, ◌∙◌}
use Rattle.std.specs.Prelude.{[], ◌⊎◌, IsOk, None, OnOk, false}
use Rattle.mqb_journal.specs.States.{is_too_far}
use Rattle.mqb_journal.specs.declared.faults.CheckpointFault.{CheckpointFault}
use Rattle.mqb_journal.specs.declared.faults.CheckpointFault.TheVariants as base
use Rattle.mqb_answers.specs.mqb_manager.Calls.{Succeeds}
use Rattle.mqb_answers.specs.mqb_manager.Checkpoints.{EndsCheckpoint, FailsWithout, IsCheckpoint, IsRewritten, checkpoint_of}
use Rattle.mqb_answers.specs.mqb_manager.States.{IsSame, IsUp, ManagerState, manager_of}
use Rattle.mqb_outside.specs.Disk.{View}
use Rattle.mqb_answers.specs.mqb_replies.Asked.{CheckpointsAreReplied}
use Rattle.mqb_answers.specs.mqb_replies.Replies.{checkpoint_reply}
use Rattle.mqb_answers.specs.mqb_replies.declared.faults.AnswerFault.{AnswerFault}
use Rattle.mqb_answers.specs.mqb_replies.declared.faults.AnswerFault.TheVariants as fault
use Rattle.mqb_transcript.specs.Texts.{printed}
use Rattle.mqb_transcript.specs.declared.replies.Reply.{Reply}
use Rattle.mqb_commands.specs.Called.{IsNotTold, TellsFaults}
use Rattle.mqb_commands.specs.Causes.{DiskFaultHasCause}
use Rattle.mqb_commands.specs.Checkpointed.{CheckpointsOn, IsLeftDown, IsCheckpointed, end_of}
use Rattle.mqb_commands.specs.Outputs.{GoesOn, IsAnswerEnd, IsSaid}
use Rattle.mqb_commands.specs.declared.status.Status.{Status}
use Rattle.mqb_commands.specs.declared.status.Status.TheVariants as status
use Rattle.mqb_commands.proofs.Answering.{fault_ends, fault_stops, rose_cause, up_after, up_either}

abbrev Given : Type 0
Given = Result (Unit {0}) CheckpointFault

abbrev Replied : Type 0
Replied = Result Reply AnswerFault

abbrev reply_ok : Reply → Replied
reply_ok told = Ok told

abbrev pub reply_err : AnswerFault → Replied
reply_err why = Err why

abbrev given_err : CheckpointFault → Given
given_err why = Err why

no_fault : (told : Reply) (why : AnswerFault) → reply_ok told ≡ reply_err why → ⊥
no_fault told why e = cc

apart : reply_err fault.Memory ≡ reply_err fault.DiskFault → ⊥
apart e = cc

-- what has no reply for the disk is the disk's fault
broken_by : (given : Given) → checkpoint_reply given ≡ reply_err fault.DiskFault → given ≡ given_err base.DiskFault
broken_by (Err base.DiskFault) same = refl
broken_by given same = absurd (let none : ⊥ = cc in none)

module _ (d e : View) (kept : Type 0) (m n : ManagerState) (given : Given) (up : IsUp m) (made : IsCheckpoint d e m n given) where
  -- the disk did not fail where there is another answer
  stays : (r : Replied) → checkpoint_reply given ≡ r → (r ≡ reply_err fault.DiskFault → ⊥) → e.faults ≡ d.faults
  stays r reply whole = made.stayed (λ broke. whole (sym reply ∙ ap checkpoint_reply broke))

  -- it has a reply, so it ended as the definition does
  went : (told : Reply) → checkpoint_reply given ≡ reply_ok told → (given ≡ (checkpoint_of m).answer) × Succeeds m n (checkpoint_of m)
  went told reply = at made.ends
    where
      at : EndsCheckpoint m n given → (given ≡ (checkpoint_of m).answer) × Succeeds m n (checkpoint_of m)
      at (inl h) = h
      at (inr (inl h)) = absurd (no_fault told fault.Memory (sym reply ∙ ap checkpoint_reply h.0))
      at (inr (inr h)) = absurd (no_fault told fault.DiskFault (sym reply ∙ ap checkpoint_reply h.0))

  checkpointed : (told : Reply) (text : List ℕ) (r : Status) → checkpoint_reply given ≡ reply_ok told → ((checkpoint_of m).touches ≡ false → kept)
      → OnOk given (IsRewritten m n) → r ≡ end_of given → text ≡ printed [] None told → IsCheckpointed kept d.faults e.faults m n text r
  checkpointed told text r reply untouched anew ended said = let h = went told reply in record {
    told = told;
    made = h.1;
    rewritten = subst (λ (k : Given). OnOk k (IsRewritten m n)) h.0 anew;
    answer = ap checkpoint_reply (sym h.0) ∙ reply;
    ended = ended ∙ ap end_of h.0;
    said = said;
    untouched = untouched;
    up = up_after m n (checkpoint_of m) h.1 up;
    stayed = stays (reply_ok told) reply (no_fault told fault.DiskFault);
  }

  made_or_not : EndsCheckpoint m n given → (checkpoint_reply given ≡ reply_err fault.DiskFault → ⊥) → Succeeds m n (checkpoint_of m) ⊎ IsSame m n
  made_or_not (inl h) whole = inl h.1
  made_or_not (inr (inl h)) whole = inr h.1
  made_or_not (inr (inr h)) whole = absurd (whole (ap checkpoint_reply h.0))

  -- memory ran out, for the base or for the line
  unsaid : (r : Replied) → checkpoint_reply given ≡ r → (r ≡ reply_err fault.DiskFault → ⊥) → IsNotTold (checkpoint_of m) d.faults e.faults m n
  unsaid r reply whole =
      let left = made_or_not made.ends (λ broke. whole (sym reply ∙ broke)) in
      record { made = left; up = up_either m n left up; stayed = stays r reply whole }

  -- The line of its reply.
  pub checkpoint_is_said : (told : Reply) (text : List ℕ) (r : Status) → checkpoint_reply given ≡ reply_ok told
      → ((checkpoint_of m).touches ≡ false → kept) → OnOk given (IsRewritten m n) → IsSaid (printed [] None told) (end_of given) text r
      → CheckpointsOn kept d.faults e.faults m n text r
  checkpoint_is_said told text r reply untouched anew (inl line) = inl (checkpointed told text r reply untouched anew line.0 line.1)
  checkpoint_is_said told text r reply untouched anew (inr none) = inr (inr (none.0, none.1, unsaid (reply_ok told) reply (no_fault told fault.DiskFault)))

  -- Memory ran out before.
  pub checkpoint_is_unsaid : (text : List ℕ) (r : Status) → checkpoint_reply given ≡ reply_err fault.Memory → r ≡ status.Memory → text ≡ []
      → CheckpointsOn kept d.faults e.faults m n text r
  checkpoint_is_unsaid text r reply is none = inr (inr (is, none, unsaid (reply_err fault.Memory) reply apart))

  -- The disk failed.
  pub left_down : CheckpointsAreReplied → checkpoint_reply given ≡ reply_err fault.DiskFault → IsLeftDown d.faults e.faults m n
  left_down replied reply = record { failed = failed made.ends; rose = made.rose (broken_by given reply) }
    where
      no_reply : IsOk (reply_err fault.DiskFault) → ⊥
      no_reply none = cc

      failed : EndsCheckpoint m n given → FailsWithout m n
      failed (inl h) = absurd (no_reply (subst (λ (r : Replied). IsOk r) (ap checkpoint_reply (sym h.0) ∙ reply) (replied (manager_of m) (is_too_far m.store.journal))))
      failed (inr (inl h)) = absurd (apart (sym (ap checkpoint_reply h.0) ∙ reply))
      failed (inr (inr h)) = h.1

-- The same of a store, whose disk was settled before.

pub kept_as : {kept kept_so : Type 0} {faults faults_now : ℕ} {m n : ManagerState} {text : List ℕ} {r : Status} → (kept → kept_so)
    → CheckpointsOn kept faults faults_now m n text r → CheckpointsOn kept_so faults faults_now m n text r
kept_as {kept} {kept_so} {faults} {faults_now} {m} {n} {text} {r} so (inl made) = inl (record {
  told = made.told;
  made = made.made;
  rewritten = made.rewritten;
  answer = made.answer;
  ended = made.ended;
  said = made.said;
  untouched = λ quiet. so (made.untouched quiet);
  up = made.up;
  stayed = made.stayed;
})
kept_as {kept} {kept_so} {faults} {faults_now} {m} {n} {text} {r} so (inr other) = inr other

-- A disk fault is the disk's.

ended_cause : (before after : ℕ) (given : Given) → DiskFaultHasCause before after (end_of given)
ended_cause before after (Ok done) = tt
ended_cause before after (Err why) = tt

pub checkpoints_cause : {kept : Type 0} {before after : ℕ} {m n : ManagerState} {text : List ℕ} {r : Status} → CheckpointsOn kept before after m n text r
    → DiskFaultHasCause before after r
checkpoints_cause {kept} {before} {after} {m} {n} {text} {r} (inl made) =
    subst (DiskFaultHasCause before after) (sym made.ended) (ended_cause before after (checkpoint_of m).answer)
checkpoints_cause {kept} {before} {after} {m} {n} {text} {r} (inr (inl broken)) = rose_cause before after r broken.1.rose
checkpoints_cause {kept} {before} {after} {m} {n} {text} {r} (inr (inr none)) = subst (DiskFaultHasCause before after) (sym none.0) tt

-- A shell goes on behind a checkpoint that left its manager up and its disk with no fault.

pub checkpoints_up : {kept : Type 0} {before after : ℕ} {m n : ManagerState} {text : List ℕ} {r : Status} → CheckpointsOn kept before after m n text r → GoesOn r → IsUp n
checkpoints_up (inl made) goes = made.up
checkpoints_up {text = text} {r = r} (inr (inl left)) goes = absurd (fault_stops text r left.0 goes)
checkpoints_up (inr (inr none)) goes = none.2.up

pub checkpoints_calm : {kept : Type 0} {before after : ℕ} {m n : ManagerState} {text : List ℕ} {r : Status} → CheckpointsOn kept before after m n text r → GoesOn r
    → after ≡ before
checkpoints_calm (inl made) goes = made.stayed
checkpoints_calm {text = text} {r = r} (inr (inl left)) goes = absurd (fault_stops text r left.0 goes)
checkpoints_calm (inr (inr none)) goes = none.2.stayed

pub checkpoints_tell : {kept : Type 0} {before after : ℕ} {m n : ManagerState} {text : List ℕ} {r : Status} → CheckpointsOn kept before after m n text r
    → TellsFaults before after text r
checkpoints_tell (inl made) = inl made.stayed
checkpoints_tell (inr (inl left)) = inr left.0
checkpoints_tell (inr (inr none)) = inl none.2.stayed

ended_end : (given : Given) → IsAnswerEnd (end_of given)
ended_end (Ok done) = tt
ended_end (Err why) = tt

pub checkpoints_end : {kept : Type 0} {before after : ℕ} {m n : ManagerState} {text : List ℕ} {r : Status} → CheckpointsOn kept before after m n text r → IsAnswerEnd r
checkpoints_end {m = m} (inl made) = subst IsAnswerEnd (sym made.ended) (ended_end (checkpoint_of m).answer)
checkpoints_end {text = text} {r = r} (inr (inl left)) = fault_ends text r left.0
checkpoints_end (inr (inr none)) = subst IsAnswerEnd (sym none.0) tt
