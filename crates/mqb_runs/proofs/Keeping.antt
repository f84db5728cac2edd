-- Each run of the two managers keeps what is promised.
use Rattle.std.proofs.Common.{subst}
use Rattle.std.specs.Prelude.{[], ◌++◌, ◌∷◌, Bool, List, ℕ}
use Rattle.mqb_network.specs.Courses.{Course}
use Rattle.mqb_network.specs.Doubts.{settled}
use Rattle.mqb_network.specs.Laws.{LedgerIsWritten}
use Rattle.mqb_network.specs.Runs.{IsRun, IsRunFrom, Move, after_run, beginning, moved_on}
use Rattle.mqb_history.specs.Asked.{CommittedIsAsked}
use Rattle.mqb_history.specs.Invariants.{MachineInvariant}
use Rattle.mqb_history.specs.Late.{AlwaysRefusedLate}
use Rattle.mqb_history.specs.Laws.{AlwaysMachineInvariant, DecisionsHaveReasons}
use Rattle.mqb_history.specs.Ledger.{AlwaysExactlyOnceTold}
use Rattle.mqb_history.specs.Pumps.{NotesTellPumps}
use Rattle.mqb_runs.specs.Guarantees.{KeepsGuarantees, RunsKeepGuarantees}
use Rattle.mqb_runs.specs.Hosts.{hosts}
use Rattle.mqb_runs.specs.lemmas.Orderly.{hosts_apart}

-- the first moves of a run are one
pub run_before : (c : Course) (ms ns : List Move) → IsRunFrom c (ms ++ ns) → IsRunFrom c ms
run_before c [] ns run = tt
run_before c (m ∷ ms) ns run = (run.0, run_before (moved_on c m) ms ns run.1)

module _ (invariant : AlwaysMachineInvariant) (told : AlwaysExactlyOnceTold) (asked : CommittedIsAsked) (reasons : DecisionsHaveReasons) (late : AlwaysRefusedLate) (pumps : NotesTellPumps)
    (ledger : LedgerIsWritten) where
  at_point : (ms : List Move) → IsRun hosts ms → (kept : ℕ → Bool) → KeepsGuarantees ms (settled kept (after_run hosts ms))
  at_point ms run kept = record {
    ledger = ledger hosts ms hosts_apart run kept;
    exactly_once = record {
      told = told hosts ms hosts_apart run kept;
      asked = asked hosts ms hosts_apart run kept;
      put = holds.put_truly;
      expired = holds.expired_duly;
      refused = reasons;
      late = late hosts ms hosts_apart run kept;
      pumped = pumps hosts ms hosts_apart run kept;
      waiting = holds.waiting_until_decided;
    };
    truthful = holds.truthful;
    received_truly = holds.received_truly;
    storage_kept = holds.storage_is_kept;
    sequences = record { offered = holds.begun_in_order; decided = holds.decided_across };
  }
    where
      holds : MachineInvariant hosts (settled kept (after_run hosts ms))
      holds = invariant hosts ms hosts_apart run kept

  pub keep_guarantees : RunsKeepGuarantees
  keep_guarantees ms run before behind split kept = at_point before (run_before (beginning hosts) before behind (subst (IsRun hosts) split run)) kept
