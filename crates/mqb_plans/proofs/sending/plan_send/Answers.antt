use Rattle.std.proofs.lemmas.Result.{IfOk-weaker}
use Rattle.mqb_model.specs.calls.Call as answer
use Rattle.mqb_model.specs.calls.Call.{Send}
use Rattle.mqb_model.specs.calls.Send.{send}
use Rattle.mqb_plans.specs.Answers.{send_plan}
use Rattle.mqb_plans.proofs.Planned.{keeps_store, keeps_valid, writes}
use Rattle.mqb_plans.proofs.sending.plan_send.Goals as goal

pub returns-clause-writable : goal.returns-clause-writable
returns-clause-writable c = IfOk-weaker c.send.result _ _ (λ t made. writes c.args.contents.now.lists (λ m. send m c.args.draft.now c.args.recoverable c.args.now) (send_plan t) t.id made
    (λ m. (c.records_fit.ensures m).requests (Send c.args.now c.args.recoverable c.args.draft.now) tt) (λ m. (c.records_are_read.ensures m).requests (Send c.args.now c.args.recoverable c.args.draft.now) c.draft_fits.ensures)) c.send.ensures.planned

pub returns-clause-stays_valid : goal.returns-clause-stays_valid
returns-clause-stays_valid c = IfOk-weaker c.send.result _ _ (λ t made. keeps_valid c.args.contents.now.lists (λ m. send m c.args.draft.now c.args.recoverable c.args.now) (send_plan t) t.id made answer.Sent
    (λ m v. (c.calls_keep_valid.ensures m v).requests (Send c.args.now c.args.recoverable c.args.draft.now) c.draft_fits.ensures)) c.send.ensures.planned

pub returns-clause-stays_stored : goal.returns-clause-stays_stored
returns-clause-stays_stored c = IfOk-weaker c.send.result _ _ (λ t made. keeps_store c.args.contents.now.lists (λ m. send m c.args.draft.now c.args.recoverable c.args.now) (send_plan t) t.id made answer.Sent
    (λ m v. (c.calls_leave_store.ensures m v).requests (Send c.args.now c.args.recoverable c.args.draft.now) c.draft_fits.ensures)) c.send.ensures.planned
