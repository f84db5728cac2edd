use Rattle.std.specs.Prelude.{ℕ, ◌+◌, min, List, nat_eq, Bool}
use Rattle.std.specs.List.{list_any}
use Rattle.mqb_outside.specs.Faults.{END}

-- the calls of an object in memory: how many were made, and the numbers, from 1, of
-- those that are to fail
pub record CallPlan : Type 0 where
  pub made : ℕ
  pub failing : List ℕ

-- before the first call
abbrev pub planned : List ℕ → CallPlan
planned failing = record { made = 0; failing = failing }

-- the number of the next call
abbrev pub next_call : CallPlan → ℕ
next_call plan = min (plan.made + 1) END

-- whether the next call is to fail
abbrev pub is_to_fail : CallPlan → Bool
is_to_fail plan = list_any (nat_eq (next_call plan)) plan.failing

-- after one call more
abbrev pub called : CallPlan → CallPlan
called plan = record { made = next_call plan; failing = plan.failing }
