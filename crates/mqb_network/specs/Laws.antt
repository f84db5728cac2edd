-- Laws of runs.
use Rattle.std.specs.Prelude.{◌≡◌, AllPairs, Bool, List, false, flat_map, ℕ}
use Rattle.mqb_base.specs.declared.ids.Identity.{Identity}
use Rattle.mqb_base.specs.declared.ledger.Line.{Line}
use Rattle.mqb_model.specs.records.Applying.{lines_of}
use Rattle.mqb_model.specs.records.Peer.{is_met}
use Rattle.mqb_network.specs.Checkpointing.{checkpoint_by}
use Rattle.mqb_network.specs.Choices.{Choice}
use Rattle.mqb_network.specs.Courses.{Course, Written}
use Rattle.mqb_network.specs.Doubts.{settled}
use Rattle.mqb_network.specs.Runs.{IsRun, Move, after_run, moved_on, packet_of}
use Rattle.mqb_network.specs.Step.{answer_to}

-- managers that can be one another's peers
abbrev pub AreApart : List Identity → Type 0
AreApart known = AllPairs (λ a b. is_met a b ≡ false) known

-- P holds at each point of each run, whatever became of the records in doubt.
abbrev pub Always : (Course → Type 0) → Type 0
Always P =
    (known : List Identity) (ms : List Move) → AreApart known → IsRun known ms → (kept : ℕ → Bool)
    → P (settled kept (after_run known ms))

-- the lines of records
abbrev pub lines_written : List Written → List Line
lines_written written = flat_map (λ w. lines_of w.before w.entry) written

-- The ledger has the lines of the records that were written or found kept, in order.
abbrev pub LedgerIsWritten : Type 0
LedgerIsWritten = Always (λ c. c.network.ledger ≡ lines_written c.written)

-- A checkpoint writes no record, adds no line to the ledger and sends no packet, whether it goes
-- well, is refused or its disk fails.
pub record WritesNothing (c d : Course) : Type 0 where
  pub written : d.written ≡ c.written
  pub ledger : d.network.ledger ≡ c.network.ledger
  pub sent : d.sent ≡ c.sent

abbrev pub CheckpointsWriteNothing : Type 0
CheckpointsWriteNothing =
    (c : Course) (i : ℕ) (choice : Choice) → WritesNothing c (checkpoint_by i choice c).after

-- A move of a run is its event in the course of the run.
abbrev pub MovesAreEvents : Type 0
MovesAreEvents = (c : Course) (m : Move)
    → moved_on c m ≡ (answer_to m.event (packet_of c.sent m.event) m.choice c).after
