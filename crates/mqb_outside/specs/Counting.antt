use Rattle.mqb_outside.specs.Plans.{CallPlan}
use Rattle.mqb_outside.specs.declared.calls.Calls.{Calls}

-- how many calls were made, and which fail
abbrev pub plan_of : Calls → CallPlan
plan_of calls = record { made = calls.made; failing = calls.failing.items }
