use Rattle.std.specs.Prelude.{ℕ, List, [], ◌∷◌, Option, Some, None, map}
use Rattle.std.specs.Option.{option_map}
use Rattle.mqb_outside.specs.declared.conn_plan.ConnPlan.{ConnPlan}

-- a connection that is to be given: what it holds, and the numbers of its reads
-- and writes that fail
pub record Planned : Type 0 where
  pub bytes : List ℕ
  pub failing_reads : List ℕ
  pub failing_writes : List ℕ

abbrev pub planned : ConnPlan → Planned
planned plan = record {
  bytes = plan.bytes;
  failing_reads = plan.failing_reads.items;
  failing_writes = plan.failing_writes.items;
}

abbrev pub planned_all : List (Option ConnPlan) → List (Option Planned)
planned_all plans = map (λ plan. option_map planned plan) plans

-- what the first of these calls gives; none is a call that fails, and so is each call past the end
abbrev pub first_of : List (Option Planned) → Option Planned
first_of [] = None
first_of (plan ∷ plans) = plan

-- the plan at a place where nothing or no plan may be
abbrev pub plan_in : Option (Option ConnPlan) → Option Planned
plan_in None = None
plan_in (Some plan) = option_map planned plan
