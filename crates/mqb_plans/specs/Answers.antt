-- The plan that each answer is.
use Rattle.mqb_timeouts.specs.Work.{beside_of}
use Rattle.mqb_plans.specs.Calls.{purging, taking, ticking}
use Rattle.mqb_plans.specs.Plans.{Plan}
use Rattle.mqb_plans.specs.declared.purging.Purging.{Purging}
use Rattle.mqb_plans.specs.declared.sending.Sending.{Sending}
use Rattle.mqb_plans.specs.declared.taking.Taking.{Taking}
use Rattle.mqb_plans.specs.declared.ticking.Ticking.{Ticking}

abbrev pub take_plan : Taking → Plan
take_plan t = taking t.lane t.moment t.at t.index t.message.id

abbrev pub purge_plan : Purging → Plan
purge_plan t = purging t.has_durable t.moment t.at

abbrev pub tick_plan : Ticking → Plan
tick_plan t = ticking t.due.durable t.moment

abbrev pub send_plan : Sending → Plan
send_plan t = record { written = t.sent; beside = beside_of t.work }
