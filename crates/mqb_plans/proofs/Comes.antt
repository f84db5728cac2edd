-- The plan to which a send comes, and its refusals.
use Rattle.std.proofs.Common.{◌≡◌, ◌∙◌, ℕ, Bool, true, false, cond, Option, None, Some, Result, Ok, refl, ap}
use Rattle.std.specs.Option.{option_or}
use Rattle.mqb_base.specs.declared.draft.Parts.{Parts}
use Rattle.mqb_base.specs.declared.ids.MessageId.{MessageId}
use Rattle.mqb_base.specs.declared.message.Message.{Message}
use Rattle.mqb_model.specs.calls.Messages.{plain_message}
use Rattle.mqb_model.specs.calls.Send as sends
use Rattle.mqb_model.specs.declared.faults.SendFault.{SendFault}
use Rattle.mqb_model.specs.declared.faults.SendFault.TheVariants as send_fault
use Rattle.mqb_model.specs.managers.Manager.{Manager, is_down}
use Rattle.mqb_model.specs.managers.Outcomes.{Outcome, unless}
use Rattle.mqb_model.specs.state.Resolving.{resolved}
use Rattle.mqb_model.specs.state.State.{State}
use Rattle.mqb_plans.specs.Calls as plan
use Rattle.mqb_plans.specs.Plans.{ComesTo, Refuses, outcome_of}

module _ (s : State) (p : Parts) (recoverable : Bool) (now : ℕ) where
  abbrev send_call : Manager → Outcome (Result MessageId SendFault)
  send_call m = sends.send m p recoverable now

  abbrev made : Message
  made = plain_message s recoverable now p

  -- its destination is the sender's
  leads : (b : Bool) → (plain_message s b now p).destination ≡ p.destination
  leads true = refl
  leads false = refl

  with_reason : (why : Option SendFault) → sends.target_fault s (resolved s p.destination) ≡ why → (m : Manager) → m.state ≡ s → is_down m ≡ false
      → send_call m ≡ unless m (option_or why (sends.message_fault s recoverable made)) (sends.sending m recoverable made now)
  with_reason why is m same up =
      ap (λ (x : State). unless m (sends.send_refusal m recoverable (plain_message x recoverable now p)) (sends.sending m recoverable (plain_message x recoverable now p) now)) same
      ∙ ap (λ (b : Bool). unless m (cond b (Some send_fault.Down) (option_or (sends.target_fault m.state (resolved m.state made.destination)) (sends.message_fault m.state recoverable made)))
      (sends.sending m recoverable made now)) up
      ∙ ap (λ (x : State). unless m (option_or (sends.target_fault x (resolved x made.destination)) (sends.message_fault x recoverable made)) (sends.sending m recoverable made now)) same
      ∙ ap (λ (o : Option SendFault). unless m (option_or o (sends.message_fault s recoverable made)) (sends.sending m recoverable made now))
      (ap (λ d. sends.target_fault s (resolved s d)) (leads recoverable) ∙ is)

  pub send_unfit : (why : SendFault) → sends.target_fault s (resolved s p.destination) ≡ None → sends.message_fault s recoverable made ≡ Some why → Refuses s send_call why
  send_unfit why found is m same up = with_reason None found m same up
      ∙ ap (λ (o : Option SendFault). unless m o (sends.sending m recoverable made now)) is

  in_kind : (m : Manager) → m.state ≡ s → (b : Bool) (message : Message) → sends.sending m b message now ≡ outcome_of m (plan.sending s b now message) (Ok message.id)
  in_kind m same true message = ap (λ (x : State). outcome_of m (plan.sending x true now message) (Ok message.id)) same
  in_kind m same false message = refl

  pub send_comes : sends.target_fault s (resolved s p.destination) ≡ None → sends.message_fault s recoverable made ≡ None
      → ComesTo s send_call (plan.sending s recoverable now made) made.id
  send_comes found fine m same up = with_reason None found m same up
      ∙ ap (λ (o : Option SendFault). unless m o (sends.sending m recoverable made now)) fine
      ∙ in_kind m same recoverable made
