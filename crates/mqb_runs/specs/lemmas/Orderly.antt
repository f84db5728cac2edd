-- What holds of each run of the two managers, by the laws of histories.
use Rattle.std.proofs.Common.{false, refl, subst, zero, suc, arith}
use Rattle.std.specs.Prelude.{List}
use Rattle.mqb_history.specs.Laws.{HistoriesAreOrderly, RunsHaveHistories}
use Rattle.mqb_history.specs.Orderly.{IsOrderly}
use Rattle.mqb_network.specs.Laws.{AreApart}
use Rattle.mqb_network.specs.Runs.{IsRun, Move, after_run}
use Rattle.mqb_runs.specs.Hosts.{hosts}

-- the two managers are apart
pub hosts_apart : AreApart hosts
hosts_apart zero zero d less inside = absurd (omega (arith, less))
hosts_apart zero (suc zero) d less inside = refl
hosts_apart zero (suc (suc j)) d less inside = absurd (omega (arith, inside))
hosts_apart (suc i) zero d less inside = absurd (omega (arith, less))
hosts_apart (suc i) (suc zero) d less inside = absurd (omega (arith, less))
hosts_apart (suc i) (suc (suc j)) d less inside = absurd (omega (arith, inside))

-- connections, sessions and identities go together
pub run_is_orderly : RunsHaveHistories → HistoriesAreOrderly → (ms : List Move) → IsRun hosts ms
    → IsOrderly hosts (after_run hosts ms)
run_is_orderly runs orderly ms run = let history = (runs hosts ms hosts_apart run (λ _. false)).0 in
    subst (IsOrderly hosts) history.2 (orderly hosts history.0 hosts_apart history.1)
