use Rattle.mqb_model.specs.calls.Call as answer
use Rattle.mqb_model.specs.calls.Call.{Tick}
use Rattle.mqb_model.specs.calls.Tick.{tick}
use Rattle.mqb_plans.specs.Answers.{tick_plan}
use Rattle.mqb_plans.proofs.Planned.{keeps_store, keeps_valid}
use Rattle.mqb_plans.proofs.ticking.plan_tick.Goals as goal

pub returns-clause-stays_valid : goal.returns-clause-stays_valid
returns-clause-stays_valid c = keeps_valid c.args.contents.now.lists (λ m. tick m c.args.now) (tick_plan c.tick.result) c.tick.result.due c.tick.ensures answer.Ticked
    (λ m v. (c.calls_keep_valid.ensures m v).requests (Tick c.args.now) tt)

pub returns-clause-stays_stored : goal.returns-clause-stays_stored
returns-clause-stays_stored c = keeps_store c.args.contents.now.lists (λ m. tick m c.args.now) (tick_plan c.tick.result) c.tick.result.due c.tick.ensures answer.Ticked
    (λ m v. (c.calls_leave_store.ensures m v).requests (Tick c.args.now) tt)
