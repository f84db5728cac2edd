-- What `checkpoint` says, how it ends, and what the disk is left as.
use Rattle.std.specs.Prelude.{[], ◌≡◌, ◌⊎◌, Err, List, None, Ok, OnOk, Result, false, ℕ}
use Rattle.mqb_answers.specs.mqb_manager.Calls.{Succeeds}
use Rattle.mqb_answers.specs.mqb_manager.Checkpoints.{FailsWithout, IsRewritten, checkpoint_of}
use Rattle.mqb_answers.specs.mqb_manager.States.{IsUp, ManagerState}
use Rattle.mqb_outside.specs.Disk.{View}
use Rattle.mqb_outside.specs.Faults.{Rose}
use Rattle.mqb_answers.specs.mqb_replies.Replies.{checkpoint_reply}
use Rattle.mqb_store_laws.specs.Settling.{OnlySettles}
use Rattle.mqb_transcript.specs.Texts.{printed}
use Rattle.mqb_transcript.specs.declared.replies.Reply.{Reply}
use Rattle.mqb_commands.specs.Called.{IsNotTold}
use Rattle.mqb_commands.specs.Opened.{OnStore}
use Rattle.mqb_commands.specs.Outputs.{IsFaultLine}
use Rattle.mqb_commands.specs.Said.{FailsToOpen}
use Rattle.mqb_commands.specs.declared.status.Status.{Status}
use Rattle.mqb_commands.specs.declared.status.Status.TheVariants as status

-- how the program ends that tells this answer
abbrev pub end_of : {V E : Type 0} → Result V E → Status
end_of (Ok done) = status.Done
end_of (Err why) = status.Refused

-- The state was written anew, or that was refused and nothing was written (kept), and the reply is
-- told. The disk, whose faults are counted, did not fail.
pub record IsCheckpointed (kept : Type 0) (faults faults_now : ℕ) (m n : ManagerState)
    (text : List ℕ) (r : Status) : Type 0 where
  pub told : Reply
  pub made : Succeeds m n (checkpoint_of m)
  pub rewritten : OnOk (checkpoint_of m).answer (IsRewritten m n)
  pub answer : checkpoint_reply (checkpoint_of m).answer ≡ Ok told
  pub ended : r ≡ end_of (checkpoint_of m).answer
  pub said : text ≡ printed [] None told
  pub untouched : (checkpoint_of m).touches ≡ false → kept
  pub up : IsUp n
  pub stayed : faults_now ≡ faults

-- The disk failed, and no record is in doubt: a crash leaves the state that the store had.
pub record IsLeftDown (faults faults_now : ℕ) (m n : ManagerState) : Type 0 where
  pub failed : FailsWithout m n
  pub rose : Rose faults faults_now

-- A manager that is open writes its state anew, or the disk fails, or memory runs out.
abbrev pub CheckpointsOn : (kept : Type 0) → (faults faults_now : ℕ) → (m n : ManagerState) → List ℕ
    → Status → Type 0
CheckpointsOn kept faults faults_now m n text r = IsCheckpointed kept faults faults_now m n text r
    ⊎ (IsFaultLine status.DiskFault text r × IsLeftDown faults faults_now m n)
    ⊎ ((r ≡ status.Memory) × (text ≡ []) × IsNotTold (checkpoint_of m) faults faults_now m n)

-- `checkpoint`
abbrev pub Checkpoints : View → View → List ℕ → Status → Type 0
Checkpoints d e text r =
    OnStore (λ m n. CheckpointsOn (OnlySettles d e) d.faults e.faults m n text r) d e
    ⊎ FailsToOpen d e text r
