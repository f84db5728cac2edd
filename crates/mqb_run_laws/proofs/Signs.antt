-- What is told of a network's answer has the signs of that.
use Rattle.std.proofs.Common.{◌≡◌, ◌∷◌, ◌∙◌, ap, ap₂, List, [], map, refl, sym, ℕ}
use Rattle.std.proofs.lemmas.Bool.{true≢false}
use Rattle.std.specs.Prelude.{Err, IfOk, Ok, Result, false}
use Rattle.mqb_base.specs.declared.ledger.Line.{Line}
use Rattle.mqb_history.specs.Choosing.{Quiet, Sign, base_sign, sign_of, signs_of}
use Rattle.mqb_journal.specs.declared.faults.CheckpointFault.{CheckpointFault}
use Rattle.mqb_journal.specs.declared.faults.CheckpointFault.TheVariants as fault
use Rattle.mqb_model.specs.calls.Call.{Answer}
use Rattle.mqb_model.specs.declared.faults.PumpFault.{PumpFault}
use Rattle.mqb_model.specs.declared.faults.PumpFault.TheVariants as pump
use Rattle.mqb_network.specs.Choices as choice
use Rattle.mqb_network.specs.Replies as network
use Rattle.mqb_replies.proofs.Definitions.{tells_of_disk}
use Rattle.mqb_replies.proofs.Faulted.{tells_no_disk}
use Rattle.mqb_replies.specs.Replies.{checkpoint_reply}
use Rattle.mqb_replies.specs.Requests.{reply_of}
use Rattle.mqb_replies.specs.declared.faults.AnswerFault.{AnswerFault}
use Rattle.mqb_runs.specs.Pumped.{pump_fault_reply}
use Rattle.mqb_runs.specs.Replies.{arrival_of, connected_reply, delivery_reply, outcome_of, told}
use Rattle.mqb_transcript.specs.declared.replies.Reply.{Reply}
use Rattle.mqb_transcript.specs.declared.replies.Reply.TheVariants as reply
use Rattle.mqb_run_laws.proofs.Reading.{outcome_sign, shown_by}

-- the signs of what is told, where anything is
abbrev told_signs : Result Reply AnswerFault → List Sign
told_signs (Ok r) = shown_by r
told_signs (Err fault) = Quiet ∷ []

-- nothing is shown of a disk
abbrev IsQuiet : Result Reply AnswerFault → Type 0
IsQuiet r = told_signs r ≡ Quiet ∷ []

unpumped : (why : PumpFault) → IsQuiet (pump_fault_reply why)
unpumped pump.Down = refl
unpumped why = refl

connected : (packets : List ℕ) → IsQuiet (connected_reply packets)
connected (a ∷ b ∷ c ∷ d ∷ []) = refl
connected packets = refl

rewritten : (r : Result (Unit {0}) CheckpointFault) → told_signs (checkpoint_reply r) ≡ base_sign r ∷ []
rewritten (Err fault.TooFar) = refl
rewritten (Err fault.Down) = refl
rewritten r = refl

-- Packets.

outcome_shown : (d : network.Delivery) → outcome_sign (outcome_of d) ≡ sign_of d
outcome_shown (network.Unheard choice.Stopped) = refl
outcome_shown d = refl

arrivals_shown : (arrivals : List network.Arrival) → map (λ a. outcome_sign a.outcome) (map arrival_of arrivals) ≡ map (λ a. sign_of a.delivery) arrivals
arrivals_shown [] = refl
arrivals_shown (a ∷ arrivals) = ap₂ (λ (s : Sign) (ss : List Sign). s ∷ ss) (outcome_shown a.delivery) (arrivals_shown arrivals)

delivery_shown : (d : network.Delivery) → shown_by (delivery_reply d) ≡ sign_of d ∷ []
delivery_shown (network.Unheard choice.Stopped) = refl
delivery_shown d = refl

-- Each answer.

answered : (a : Answer) (lines : List Line) → IsQuiet (reply_of a lines)
answered a lines = at (reply_of a lines) (tells_no_disk a lines)
  where
    at : (q : Result Reply AnswerFault) → IfOk q (λ given. tells_of_disk given ≡ false) → IsQuiet q
    at (Ok reply.Stopped) none = absurd (true≢false none)
    at (Ok reply.Failed) none = absurd (true≢false none)
    at (Ok (reply.Flowed arrivals)) none = absurd (true≢false none)
    at (Ok (reply.OpenedKept lines)) none = absurd (true≢false none)
    at (Ok reply.OpenedLost) none = absurd (true≢false none)
    at (Ok reply.TooFar) none = absurd (true≢false none)
    at q none = refl

each_told : (r : network.Reply) → told_signs (told r) ≡ signs_of r
each_told (network.DiskFailed choice.Stopped) = refl
each_told (network.Called answer lines) = answered answer lines
each_told (network.Connected packets) = connected packets
each_told (network.NotPumped fault) = unpumped fault
each_told (network.Flowed arrivals) = ap (λ (ss : List Sign). Quiet ∷ ss) (arrivals_shown arrivals)
each_told (network.Checkpointed r) = rewritten r
each_told (network.Delivered delivery) = delivery_shown delivery
each_told r = refl

pub told_shows : (r : network.Reply) (g : Reply) → told r ≡ Ok g → shown_by g ≡ signs_of r
told_shows r g e = ap told_signs (sym e) ∙ each_told r
