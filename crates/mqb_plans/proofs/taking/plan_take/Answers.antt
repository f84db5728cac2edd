use Rattle.std.proofs.lemmas.Result.{IfOk-weaker}
use Rattle.mqb_model.specs.calls.Call as answer
use Rattle.mqb_model.specs.calls.Call.{Take}
use Rattle.mqb_model.specs.calls.Take.{take_message}
use Rattle.mqb_plans.specs.Answers.{take_plan}
use Rattle.mqb_plans.proofs.Planned.{keeps_store, keeps_valid, writes}
use Rattle.mqb_plans.proofs.taking.plan_take.Goals as goal

pub returns-clause-writable : goal.returns-clause-writable
returns-clause-writable c = IfOk-weaker c.take.result _ _ (λ t made. writes c.args.contents.now.lists (λ m. take_message m c.args.place.now c.args.now) (take_plan t) t.message made
    (λ m. (c.records_fit.ensures m).requests (Take c.args.now c.args.place.now) tt) (λ m. (c.records_are_read.ensures m).requests (Take c.args.now c.args.place.now) tt)) c.take.ensures.planned

pub returns-clause-stays_valid : goal.returns-clause-stays_valid
returns-clause-stays_valid c = IfOk-weaker c.take.result _ _ (λ t made. keeps_valid c.args.contents.now.lists (λ m. take_message m c.args.place.now c.args.now) (take_plan t) t.message made answer.Took
    (λ m v. (c.calls_keep_valid.ensures m v).requests (Take c.args.now c.args.place.now) tt)) c.take.ensures.planned

pub returns-clause-stays_stored : goal.returns-clause-stays_stored
returns-clause-stays_stored c = IfOk-weaker c.take.result _ _ (λ t made. keeps_store c.args.contents.now.lists (λ m. take_message m c.args.place.now c.args.now) (take_plan t) t.message made answer.Took
    (λ m v. (c.calls_leave_store.ensures m v).requests (Take c.args.now c.args.place.now) tt)) c.take.ensures.planned
