-- How what a network answers is told.
use Rattle.std.specs.Prelude.{[], ◌∷◌, Err, List, Ok, Result, map, ℕ}
use Rattle.mqb_network.specs.Choices as choice
use Rattle.mqb_network.specs.Replies as network
use Rattle.mqb_seats.specs.mqb_replies.Replies.{checkpoint_reply}
use Rattle.mqb_seats.specs.mqb_replies.Requests.{reply_of}
use Rattle.mqb_seats.specs.mqb_replies.declared.faults.AnswerFault.{AnswerFault}
use Rattle.mqb_seats.specs.mqb_replies.declared.faults.AnswerFault.TheVariants.{Memory}
use Rattle.mqb_seats.specs.Pumped.{pump_fault_reply}
use Rattle.mqb_transcript.specs.declared.arrivals.Arrival.{Arrival}
use Rattle.mqb_transcript.specs.declared.arrivals.Outcome.{Outcome}
use Rattle.mqb_transcript.specs.declared.arrivals.Outcome.TheVariants as outcome
use Rattle.mqb_transcript.specs.declared.replies.Reply.{Reply}
use Rattle.mqb_transcript.specs.declared.replies.Reply.TheVariants as reply

-- how a disk failed
abbrev pub failure_reply : choice.Failure → Reply
failure_reply choice.Stopped = reply.Stopped
failure_reply choice.Failed = reply.Failed

-- the numbers of the four set-up packets
abbrev pub connected_reply : List ℕ → Result Reply AnswerFault
connected_reply (a ∷ b ∷ c ∷ d ∷ []) = Ok (reply.Connected (a ∷ b ∷ c ∷ d ∷ []))
connected_reply _ = Err Memory

-- what became of a packet that was delivered in its turn
abbrev pub outcome_of : network.Delivery → Outcome
outcome_of network.Gone = outcome.Gone
outcome_of (network.Heard heard lines) = outcome.Heard heard lines
outcome_of (network.Unheard choice.Stopped) = outcome.Stopped
outcome_of (network.Unheard choice.Failed) = outcome.Failed

abbrev pub arrival_of : network.Arrival → Arrival
arrival_of a = record { packet = a.packet; outcome = outcome_of a.delivery }

-- and alone
abbrev pub delivery_reply : network.Delivery → Reply
delivery_reply network.Gone = reply.Gone
delivery_reply (network.Heard heard lines) = reply.Heard heard lines
delivery_reply (network.Unheard how) = failure_reply how

-- a reply, or why there is none: no run has such an answer
abbrev pub told : network.Reply → Result Reply AnswerFault
told (network.DiskFailed how) = Ok (failure_reply how)
told (network.Called answer lines) = reply_of answer lines
told network.NotUp = Ok reply.Down
told network.Linked = Ok reply.Linked
told (network.Connected packets) = connected_reply packets
told network.Unlinked = Ok reply.Unlinked
told network.Disconnected = Ok reply.Disconnected
told network.Resent = Ok reply.Done
told (network.Pumped packets) = Ok (reply.Pumped packets)
told (network.NotPumped fault) = pump_fault_reply fault
told (network.Flowed arrivals) = Ok (reply.Flowed (map arrival_of arrivals))
told network.NoPacket = Ok reply.NoPacket
told (network.Delivered delivery) = Ok (delivery_reply delivery)
told network.Dropped = Ok reply.Dropped
told (network.Checkpointed given) = checkpoint_reply given
told network.Armed = Ok reply.Armed
told network.Opened = Ok reply.Opened
told (network.OpenedKept lines) = Ok (reply.OpenedKept lines)
told network.OpenedLost = Ok reply.OpenedLost
