use Rattle.std.proofs.Common.{◌≡◌}
use Rattle.mqb_answers.proofs.Telling.{is_answered, is_unanswered}
use Rattle.mqb_answers.proofs.answering.answer.Goals as goal
use Rattle.mqb_answers.specs.Outcomes.{outcome_of}
use Rattle.mqb_replies.specs.mqb_manager.States.{manager_of}

pub returns-clause-told : goal.returns-clause-told
returns-clause-told g c = is_answered (g.D.Disk.view c.args.disk.now) (g.D.Disk.view c.tell_call.new.disk) (c.tell_call.new.disk ≡ c.args.disk.now)
    c.args.manager.now c.tell_call.new.manager (outcome_of c.args.call.now (manager_of c.args.manager.now) c.args.now)
    c.args.out.now.items c.tell_call.new.out.items c.tell_call.result c.tell_call.ensures

pub returns-clause-stays : goal.returns-clause-stays
returns-clause-stays g c = is_unanswered (g.D.Disk.view c.args.disk.now) (g.D.Disk.view c.tell_call.new.disk) (c.tell_call.new.disk ≡ c.args.disk.now)
    c.args.manager.now c.tell_call.new.manager (outcome_of c.args.call.now (manager_of c.args.manager.now) c.args.now)
    c.args.out.now.items c.tell_call.new.out.items c.tell_call.result c.tell_call.ensures
