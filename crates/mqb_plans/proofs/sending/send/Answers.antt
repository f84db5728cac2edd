use Rattle.std.proofs.Common.{◌≡◌, ◌∙◌, None, Ok, ap, sym}
use Rattle.mqb_base.specs.declared.draft.Parts.{Parts}
use Rattle.mqb_base.specs.declared.ids.MessageId.{MessageId}
use Rattle.mqb_base.specs.declared.message.Message.{Message}
use Rattle.mqb_model.specs.calls.Messages.{plain_message}
use Rattle.mqb_model.specs.calls.Send as sends
use Rattle.mqb_model.specs.state.Resolving.{resolved}
use Rattle.mqb_plans.specs.Answers.{send_plan}
use Rattle.mqb_plans.specs.Calls.{sending}
use Rattle.mqb_plans.specs.Plans.{Plan, outcome_of}
use Rattle.mqb_plans.proofs.Comes.{send_comes, send_unfit}
use Rattle.mqb_plans.proofs.Planned.{refuses_send}
use Rattle.mqb_plans.proofs.sending.send.Goals as goal

pub returns-in-Some-message_fault-clause-refused : goal.returns-in-Some-message_fault-clause-refused
returns-in-Some-message_fault-clause-refused c =
    let s = c.args.contents.now.lists in
    let p = c.args.draft.now in
    let r = c.args.recoverable in
    let same = c.parts-parts.ensures.parts in
    let found : sends.target_fault s (resolved s p.destination) ≡ None =
    ap (λ (q : Parts). sends.target_fault s (resolved s q.destination)) (sym same) ∙ (ap (sends.target_fault s) (sym c.resolved.ensures) ∙ (sym c.target_fault.ensures ∙ c.in_default.is)) in
    let made : c.in_ok-message.message ≡ plain_message s r c.args.now p = c.in_ok-message.ensures.message ∙ ap (λ (q : Parts). plain_message s r c.args.now q) same in
    refuses_send s (λ m. sends.send m p r c.args.now) c.in-Some-message_fault.fault (send_unfit s p r c.args.now c.in-Some-message_fault.fault found
    (ap (sends.message_fault s r) (sym made) ∙ (sym c.message_fault.ensures ∙ c.in-Some-message_fault.is)))

pub returns-clause-planned : goal.returns-clause-planned
returns-clause-planned c = λ m up_to up.
    let s = c.args.contents.now.lists in
    let p = c.args.draft.now in
    let r = c.args.recoverable in
    let same = c.parts-parts.ensures.parts in
    let t = c.send_message.result in
    let found : sends.target_fault s (resolved s p.destination) ≡ None =
    ap (λ (q : Parts). sends.target_fault s (resolved s q.destination)) (sym same) ∙ (ap (sends.target_fault s) (sym c.resolved.ensures) ∙ (sym c.target_fault.ensures ∙ c.in_default.is)) in
    let made : c.in_ok-message.message ≡ plain_message s r c.args.now p = c.in_ok-message.ensures.message ∙ ap (λ (q : Parts). plain_message s r c.args.now q) same in
    let fine : sends.message_fault s r (plain_message s r c.args.now p) ≡ None =
    ap (sends.message_fault s r) (sym made) ∙ (sym c.message_fault.ensures ∙ c.in_default-message_fault.is) in
    send_comes s p r c.args.now found fine m up_to up
    ∙ ap (λ (x : Message). outcome_of m (sending s r c.args.now x) (Ok x.id)) (sym made)
    ∙ ap (λ (x : Plan). outcome_of m x (Ok c.in_ok-message.message.id)) (sym c.send_message.ensures.plan)
    ∙ ap (λ (i : MessageId). outcome_of m (send_plan t) (Ok i)) (sym c.send_message.ensures.id)
