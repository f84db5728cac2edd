-- What is replied where a manager refuses a call: a reply, or why there is none.
use Rattle.std.specs.Prelude.{Err, None, Ok, Result, Some, ℕ}
use Rattle.mqb_journal.specs.declared.faults.CheckpointFault.{CheckpointFault}
use Rattle.mqb_journal.specs.declared.faults.CheckpointFault.TheVariants as checkpoint
use Rattle.mqb_model.specs.declared.faults.CommitFault.{CommitFault}
use Rattle.mqb_model.specs.declared.faults.CommitFault.TheVariants as commit
use Rattle.mqb_model.specs.declared.faults.CreateFault.{CreateFault}
use Rattle.mqb_model.specs.declared.faults.CreateFault.TheVariants as create
use Rattle.mqb_model.specs.declared.faults.OpFault.{OpFault}
use Rattle.mqb_model.specs.declared.faults.OpFault.TheVariants as op
use Rattle.mqb_model.specs.declared.faults.PurgeFault.{PurgeFault}
use Rattle.mqb_model.specs.declared.faults.PurgeFault.TheVariants as purge
use Rattle.mqb_model.specs.declared.faults.SendFault.{SendFault}
use Rattle.mqb_model.specs.declared.faults.SendFault.TheVariants as send
use Rattle.mqb_model.specs.declared.faults.StoreFault.{StoreFault}
use Rattle.mqb_model.specs.declared.faults.StoreFault.TheVariants as store
use Rattle.mqb_model.specs.declared.faults.TakeFault.{TakeFault}
use Rattle.mqb_model.specs.declared.faults.TakeFault.TheVariants as take
use Rattle.mqb_replies.specs.declared.faults.AnswerFault.{AnswerFault}
use Rattle.mqb_replies.specs.declared.faults.AnswerFault.TheVariants.{DiskFault, Memory}
use Rattle.mqb_transcript.specs.declared.replies.Reply.{Reply}
use Rattle.mqb_transcript.specs.declared.replies.Reply.TheVariants as reply

abbrev pub create_fault_reply : CreateFault → Result Reply AnswerFault
create_fault_reply create.Down = Ok reply.Down
create_fault_reply create.QueueThere = Ok reply.QueueThere
create_fault_reply create.TooManyQueues = Ok reply.TooManyQueues
create_fault_reply create.Memory = Err Memory
create_fault_reply create.DiskFault = Err DiskFault

-- the refusal of the op at an index
abbrev pub op_reply : ℕ → OpFault → Reply
op_reply index op.NoQueue = reply.NoQueue (Some index)
op_reply index op.NotTransactional = reply.NotTransactional index
op_reply index op.QueueEmpty = reply.QueueEmpty (Some index)
op_reply index op.UnknownPeer = reply.UnknownPeer (Some index)
op_reply index op.QueueFull = reply.QueueFull (Some index)
op_reply index op.SequenceSpent = reply.SequenceSpent index

-- There is no reply for a transaction without ops, and nothing asks for one.
abbrev pub commit_fault_reply : CommitFault → Result Reply AnswerFault
commit_fault_reply commit.Down = Ok reply.Down
commit_fault_reply commit.NoOps = Ok reply.TooManyOps
commit_fault_reply commit.TooManyOps = Ok reply.TooManyOps
commit_fault_reply (commit.AtOp index why) = Ok (op_reply index why)
commit_fault_reply commit.NumbersSpent = Ok reply.NumbersSpent
commit_fault_reply commit.TooLarge = Ok reply.TooLarge
commit_fault_reply commit.Memory = Err Memory
commit_fault_reply commit.DiskFault = Err DiskFault

abbrev pub send_fault_reply : SendFault → Result Reply AnswerFault
send_fault_reply send.Down = Ok reply.Down
send_fault_reply send.UnknownPeer = Ok (reply.UnknownPeer None)
send_fault_reply send.NoQueue = Ok (reply.NoQueue None)
send_fault_reply send.Transactional = Ok reply.Transactional
send_fault_reply send.QueueFull = Ok (reply.QueueFull None)
send_fault_reply send.NumbersSpent = Ok reply.NumbersSpent
send_fault_reply send.TooLarge = Ok reply.TooLarge
send_fault_reply send.Memory = Err Memory
send_fault_reply send.DiskFault = Err DiskFault

abbrev pub take_fault_reply : TakeFault → Result Reply AnswerFault
take_fault_reply take.Down = Ok reply.Down
take_fault_reply take.NoQueue = Ok (reply.NoQueue None)
take_fault_reply take.QueueEmpty = Ok (reply.QueueEmpty None)
take_fault_reply take.Memory = Err Memory
take_fault_reply take.DiskFault = Err DiskFault

abbrev pub purge_fault_reply : PurgeFault → Result Reply AnswerFault
purge_fault_reply purge.Down = Ok reply.Down
purge_fault_reply purge.NoQueue = Ok (reply.NoQueue None)
purge_fault_reply purge.Memory = Err Memory
purge_fault_reply purge.DiskFault = Err DiskFault

abbrev pub store_fault_reply : StoreFault → Result Reply AnswerFault
store_fault_reply store.Down = Ok reply.Down
store_fault_reply store.Memory = Err Memory
store_fault_reply store.DiskFault = Err DiskFault

-- what is replied to a checkpoint, which has no lines
abbrev pub checkpoint_reply : Result (Unit {0}) CheckpointFault → Result Reply AnswerFault
checkpoint_reply (Ok done) = Ok reply.Done
checkpoint_reply (Err checkpoint.Down) = Ok reply.Down
checkpoint_reply (Err checkpoint.TooFar) = Ok reply.TooFar
checkpoint_reply (Err checkpoint.TooLarge) = Ok reply.TooLarge
checkpoint_reply (Err checkpoint.Memory) = Err Memory
checkpoint_reply (Err checkpoint.DiskFault) = Err DiskFault
