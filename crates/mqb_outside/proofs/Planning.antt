-- What a list of plans gives next.
use Rattle.std.proofs.Common.{◌≡◌, ℕ, zero, suc, ◌+◌, ◌≤◌, min, List, [], ◌∷◌, length, drop, Option, refl, sym, ◌∙◌, ap, arith}
use Rattle.std.specs.List.{slice_get}
use Rattle.mqb_outside.specs.declared.conn_plan.ConnPlan.{ConnPlan}
use Rattle.mqb_outside.specs.ConnPlans.{Planned, planned_all, first_of, plan_in}

pub first_at : (plans : List (Option ConnPlan)) (n : ℕ) → first_of (drop n (planned_all plans)) ≡ plan_in (slice_get plans n)
first_at [] zero = refl
first_at [] (suc n) = refl
first_at (plan ∷ plans) zero = refl
first_at (plan ∷ plans) (suc n) = first_at plans n

pub length-planned : (plans : List (Option ConnPlan)) → length (planned_all plans) ≡ length plans
length-planned [] = refl
length-planned (plan ∷ plans) = omega (arith, length-planned plans)

-- one call on
pub drop_next : (n : ℕ) (plans : List (Option Planned)) → n ≤ length plans → drop (min (length plans) (n + 1)) plans ≡ drop 1 (drop n plans)
drop_next zero [] le = refl
drop_next (suc n) [] le = absurd (omega (arith, le))
drop_next zero (plan ∷ plans) le = let one : min (length (plan ∷ plans)) 1 ≡ 1 = omega arith in ap (λ (k : ℕ). drop k (plan ∷ plans)) one
drop_next (suc n) (plan ∷ plans) le =
    let step : min (length (plan ∷ plans)) (suc n + 1) ≡ suc (min (length plans) (n + 1)) = omega arith in
    ap (λ (k : ℕ). drop k (plan ∷ plans)) step ∙ drop_next n plans (omega (arith, le))

pub passed_on : (n : ℕ) (plans : List (Option ConnPlan)) → n ≤ length plans → drop (min (length plans) (n + 1)) (planned_all plans) ≡ drop 1 (drop n (planned_all plans))
passed_on n plans le = ap (λ (k : ℕ). drop (min k (n + 1)) (planned_all plans)) (sym (length-planned plans)) ∙ drop_next n (planned_all plans) (omega (arith, le, length-planned plans))
