-- Whatever a request or a checkpoint is answered is told, since no definition answers want of memory, or a fault of the disk.
use Rattle.std.proofs.Common.{refl}
use Rattle.std.specs.Prelude.{◌≡◌, Err, IsOk, Ok, Result, false}
use Rattle.mqb_model.specs.calls.Call.{Request, requested}
use Rattle.mqb_model.specs.managers.Manager.{Manager}
use Rattle.mqb_model.specs.managers.Outcomes.{lines_after}
use Rattle.mqb_network.specs.Checkpoints.{checkpoint}
use Rattle.mqb_network.specs.Replies as network
use Rattle.mqb_replies.specs.Asked.{CheckpointsAreReplied, RequestsAreReplied}
use Rattle.mqb_replies.specs.Replies.{checkpoint_reply}
use Rattle.mqb_replies.specs.Requests.{reply_of}
use Rattle.mqb_replies.specs.declared.faults.AnswerFault.{AnswerFault}
use Rattle.mqb_transcript.specs.declared.replies.Reply.{Reply}
use Rattle.mqb_run_laws.proofs.Tellable.{IsTold}

given : (r : Result Reply AnswerFault) → IsOk r → (given : Reply) × (r ≡ Ok given)
given (Ok reply) ok = (reply, refl)
given (Err fault) ok = absurd (let none : ⊥ = cc in none)

pub answered : RequestsAreReplied → (m : Manager) (request : Request) → IsTold (network.Called (requested m request).answer (lines_after m (requested m request)))
answered law m request = given (reply_of (requested m request).answer (lines_after m (requested m request))) (law m request (lines_after m (requested m request)))

pub rewritten : CheckpointsAreReplied → (m : Manager) → IsTold (network.Checkpointed (checkpoint m false).answer)
rewritten law m = given (checkpoint_reply (checkpoint m false).answer) (law m false)
