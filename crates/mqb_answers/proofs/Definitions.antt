-- No definition of a call answers a fault of the machine, so there is something to tell of each.
use Rattle.std.proofs.Common.{refl}
use Rattle.std.specs.Prelude.{Bool, Err, IsOk, None, Ok, Result, Some, false, if◌then◌else◌, length, nat_le, true, ℕ}
use Rattle.mqb_answers.specs.Outcomes.{OutcomesAreTold}
use Rattle.mqb_answers.specs.Told.{answer_told, peer_told, told_reply}
use Rattle.mqb_answers.specs.declared.told.CallEnd.{CallEnd}
use Rattle.mqb_answers.specs.declared.told.Taken.{Taken}
use Rattle.mqb_model.specs.calls.Call.{Commit, CreateQueue, Purge, Request, Send, Set, Take, Tick, requested}
use Rattle.mqb_model.specs.declared.faults.AddPeerFault.TheVariants as peer_fault
use Rattle.mqb_model.specs.declared.limits.TheConstants.{MAX_PEERS}
use Rattle.mqb_model.specs.managers.Manager.{Manager, is_down}
use Rattle.mqb_model.specs.managers.Outcomes.{lines_after, recording, unless}
use Rattle.mqb_model.specs.records.Peer.{peer_there}
use Rattle.mqb_model.specs.records.Record as entry
use Rattle.mqb_replies.proofs.Definitions.{requests_are_replied}
use Rattle.mqb_replies.specs.declared.faults.AnswerFault.{AnswerFault}
use Rattle.mqb_transcript.specs.declared.replies.Reply.{Reply}
use Rattle.mqb_words.specs.declared.commands.Call.TheVariants as call

peer_is_told : (m : Manager) (r : entry.Record) (index : ℕ) (down there many : Bool)
    → IsOk (peer_told (unless m (if down then Some peer_fault.Down else if there then Some peer_fault.PeerThere else if many then Some peer_fault.TooManyPeers else None) (recording m r (Ok index))).answer)
peer_is_told m r index true there many = refl
peer_is_told m r index false true many = refl
peer_is_told m r index false false true = refl
peer_is_told m r index false false false = refl

-- what has a reply is told
reply_is_told : (end : CallEnd) (taken : Taken) (r : Result Reply AnswerFault) → IsOk r → IsOk (told_reply end taken r)
reply_is_told end taken (Ok given) ok = refl
reply_is_told end taken (Err why) ok = ok

asked_is_told : (m : Manager) (request : Request) → IsOk (answer_told (requested m request).answer (lines_after m (requested m request)))
asked_is_told m request = reply_is_told _ _ _ (requests_are_replied m request (lines_after m (requested m request)))

pub outcomes_are_told : OutcomesAreTold
outcomes_are_told (call.AddPeer peer) m now =
    peer_is_told m (entry.Peer peer) (length m.state.peers) (is_down m) (peer_there m.state peer) (nat_le MAX_PEERS (length m.state.peers))
outcomes_are_told (call.CreateQueue plan) m now = asked_is_told m (CreateQueue plan)
outcomes_are_told (call.Send recoverable draft) m now = asked_is_told m (Send now recoverable draft)
outcomes_are_told (call.Commit ops) m now = asked_is_told m (Commit now ops)
outcomes_are_told (call.Take place) m now = asked_is_told m (Take now place)
outcomes_are_told (call.Purge place) m now = asked_is_told m (Purge now place)
outcomes_are_told call.Tick m now = asked_is_told m (Tick now)
outcomes_are_told (call.SetRoll count) m now = asked_is_told m (Set (entry.Roll count))
