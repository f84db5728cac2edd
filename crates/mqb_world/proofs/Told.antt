-- A reply tells how a disk failed.
use Rattle.std.proofs.Common.{◌≡◌, ℕ, Bool, false, List, [], ◌∷◌, Option, None, Some, Result, Ok, Err, refl, sym, subst}
use Rattle.std.proofs.lemmas.Bool.{true≢false}
use Rattle.std.specs.Option.{option_map_or}
use Rattle.std.specs.Prelude.{IfOk}
use Rattle.mqb_base.specs.declared.ledger.Line.{Line}
use Rattle.mqb_journal.specs.declared.faults.CheckpointFault.{CheckpointFault}
use Rattle.mqb_journal.specs.declared.faults.CheckpointFault.TheVariants as base
use Rattle.mqb_model.specs.calls.Call.{Answer}
use Rattle.mqb_model.specs.declared.faults.PumpFault.{PumpFault}
use Rattle.mqb_model.specs.declared.faults.PumpFault.TheVariants as pumps
use Rattle.mqb_network.specs.Choices.{Failed, Failure, Stopped}
use Rattle.mqb_network.specs.Replies as network
use Rattle.mqb_turns.proofs.mqb_seats.mqb_replies.Definitions.{tells_of_disk}
use Rattle.mqb_turns.proofs.mqb_seats.mqb_replies.Faulted.{tells_no_disk}
use Rattle.mqb_turns.specs.mqb_seats.mqb_replies.Replies.{checkpoint_reply}
use Rattle.mqb_turns.specs.mqb_seats.mqb_replies.Requests.{reply_of}
use Rattle.mqb_turns.specs.mqb_seats.mqb_replies.declared.faults.AnswerFault.{AnswerFault}
use Rattle.mqb_script.specs.declared.events.Event.{Event}
use Rattle.mqb_turns.specs.mqb_seats.Called.{failure_of, how_by}
use Rattle.mqb_turns.specs.mqb_seats.Pumped.{pump_fault_reply}
use Rattle.mqb_transcript.specs.declared.replies.Reply.{Reply}
use Rattle.mqb_transcript.specs.declared.replies.Reply.TheVariants as reply
use Rattle.mqb_turns.specs.Replies.{connected_reply, told}
use Rattle.mqb_turns.specs.Turns.{FailsAsAnswered}
use Rattle.mqb_world.specs.Disks.{FaultsGo, IsToldSo, failures_of}

-- the failure that is told, where there is a reply
abbrev pub failures_in_told : Result Reply AnswerFault → List Failure
failures_in_told (Ok given) = failures_of given
failures_in_told (Err fault) = []

-- The answers of requests tell none.
of_answer : (a : Answer) (ls : List Line) → failures_in_told (reply_of a ls) ≡ []
of_answer a ls = at (reply_of a ls) (tells_no_disk a ls)
  where
    at : (q : Result Reply AnswerFault) → IfOk q (λ given. tells_of_disk given ≡ false) → failures_in_told q ≡ []
    at (Ok reply.Stopped) none = absurd (true≢false none)
    at (Ok reply.Failed) none = absurd (true≢false none)
    at q none = refl

of_connected : (ks : List ℕ) → failures_in_told (connected_reply ks) ≡ []
of_connected (a ∷ b ∷ c ∷ d ∷ []) = refl
of_connected ks = refl

of_pump : (f : PumpFault) → failures_in_told (pump_fault_reply f) ≡ []
of_pump pumps.Down = refl
of_pump f = refl

of_checkpoint : (r : Result (Unit {0}) CheckpointFault) → failures_in_told (checkpoint_reply r) ≡ []
of_checkpoint (Ok done) = refl
of_checkpoint (Err base.Down) = refl
of_checkpoint (Err base.TooFar) = refl
of_checkpoint (Err base.TooLarge) = refl
of_checkpoint (Err base.Memory) = refl
of_checkpoint (Err base.DiskFault) = refl

-- no packet was delivered alone
abbrev pub IsNoDelivery : network.Reply → Type 0
IsNoDelivery (network.Delivered delivery) = ⊥
IsNoDelivery _ = Unit {0}

-- The count of faults goes as the answer tells, which is told so.
pub faults_so : (asked : Event) (stopped : Bool) (before after : ℕ) → ((how : Failure) → how ≡ failure_of (how_by stopped) → IsToldSo asked stopped how)
    → (r : network.Reply) → IsNoDelivery r → FailsAsAnswered stopped before after r → FaultsGo asked stopped before after (failures_in_told (told r))
faults_so asked stopped before after says r none fails = at r none fails
  where
    quiet : (q : Result Reply AnswerFault) → failures_in_told q ≡ [] → after ≡ before → FaultsGo asked stopped before after (failures_in_told q)
    quiet q is same = subst (FaultsGo asked stopped before after) (sym is) same

    at : (r : network.Reply) → IsNoDelivery r → FailsAsAnswered stopped before after r → FaultsGo asked stopped before after (failures_in_told (told r))
    at (network.DiskFailed Stopped) none (rose, how) = (rose, says Stopped how)
    at (network.DiskFailed Failed) none (rose, how) = (rose, says Failed how)
    at (network.Called answer ls) none same = quiet (reply_of answer ls) (of_answer answer ls) same
    at (network.Connected ks) none same = quiet (connected_reply ks) (of_connected ks) same
    at (network.NotPumped f) none same = quiet (pump_fault_reply f) (of_pump f) same
    at (network.Checkpointed r) none same = quiet (checkpoint_reply r) (of_checkpoint r) same
    at (network.Delivered d) none same = absurd none
    at r none same = same

-- where it is told by this reply
pub faults_told : (asked : Event) (stopped : Bool) (before after : ℕ) (q : Result Reply AnswerFault) (given : Reply) → q ≡ Ok given
    → FaultsGo asked stopped before after (failures_in_told q) → FaultsGo asked stopped before after (failures_of given)
faults_told asked stopped before after q given is go = subst (λ (q : Result Reply AnswerFault). FaultsGo asked stopped before after (failures_in_told q)) is go

-- a reply, or that the disk failed
pub none_delivered : (o : Option Failure) (r : network.Reply) → IsNoDelivery r → IsNoDelivery (option_map_or network.DiskFailed o r)
none_delivered None r none = none
none_delivered (Some how) r none = tt
