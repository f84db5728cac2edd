-- What is promised of each point of a run, whatever is lost, repeated and reordered, wherever disks
-- fail, and whichever records in doubt are found kept.
use Rattle.std.specs.Prelude.{◌++◌, ◌≡◌, Bool, List, ℕ}
use Rattle.mqb_exactly_once.specs.Words.{In}
use Rattle.mqb_network.specs.Courses.{Course}
use Rattle.mqb_network.specs.Doubts.{settled}
use Rattle.mqb_network.specs.Laws.{lines_written}
use Rattle.mqb_network.specs.Network.{Note}
use Rattle.mqb_network.specs.Runs.{IsRun, Move, after_run}
use Rattle.mqb_history.specs.Acked.{AreWaitingUntilDecided}
use Rattle.mqb_history.specs.Asked.{AreAskedFor}
use Rattle.mqb_history.specs.Begun.{AreBegunInOrder, AreDecidedAcross}
use Rattle.mqb_history.specs.Expired.{AreExpiredDuly}
use Rattle.mqb_history.specs.Late.{AreRefusedLate}
use Rattle.mqb_history.specs.Laws.{DecisionsHaveReasons}
use Rattle.mqb_history.specs.Ledger.{IsExactlyOnceTold}
use Rattle.mqb_history.specs.Pumps.{HasPumped}
use Rattle.mqb_history.specs.Put.{ArePutTruly}
use Rattle.mqb_history.specs.Received.{IsReceivedTruly}
use Rattle.mqb_history.specs.Stored.{IsStorageKept}
use Rattle.mqb_history.specs.Truths.{IsTruthful}
use Rattle.mqb_runs.specs.Hosts.{hosts}

-- Each packet that was noted went in an event in which its sender pumped, at its moment.
abbrev pub ArePumped : List Move → Course → Type 0
ArePumped ms c = (note : Note) → In note c.network.notes → HasPumped ms note.sender note.moment

-- Exactly once, in order: each message that is committed is one that was asked for, goes to the end
-- of its queue as it is, or is skipped for a reason.
pub record DeliversExactlyOnce (ms : List Move) (c : Course) : Type 0 where
  -- the ledger tells so of each stream: what is decided was committed, in order, each once, and
  -- whatever is skipped was refused, or expired before
  pub told : IsExactlyOnceTold (lines_written c.written)
  -- an event asked for each message, and the queue gets that one
  pub asked : AreAskedFor ms c
  pub put : ArePutTruly c
  -- what expired was due; what is refused has the reason of that moment, and where its time was
  -- over, it was over when its source pumped it
  pub expired : AreExpiredDuly c
  pub refused : DecisionsHaveReasons
  pub late : AreRefusedLate c
  pub pumped : ArePumped ms c
  -- what was neither decided nor expired waits at its source, above the acknowledged number
  pub waiting : AreWaitingUntilDecided c

-- Sequences of one destination follow one another: nothing of a later one is offered, or decided,
-- before the earlier one is done with.
pub record KeepsSequences (c : Course) : Type 0 where
  pub offered : AreBegunInOrder c
  pub decided : AreDecidedAcross c

-- At one point of a run, behind these moves.
pub record KeepsGuarantees (ms : List Move) (c : Course) : Type 0 where
  -- the ledger has the lines of all records
  pub ledger : c.network.ledger ≡ lines_written c.written
  pub exactly_once : DeliversExactlyOnce ms c
  -- a message which says that a committed one did not arrive is true, and so is one which says that
  -- one was not received
  pub truthful : IsTruthful c
  pub received_truly : IsReceivedTruly c
  -- whatever its sender released was stored where it arrived, or refused there
  pub storage_kept : IsStorageKept c
  pub sequences : KeepsSequences c

-- At each point of a run.
abbrev pub AlwaysKeepsGuarantees : List Move → Type 0
AlwaysKeepsGuarantees ms = (before behind : List Move) → ms ≡ before ++ behind → (kept : ℕ → Bool)
    → KeepsGuarantees before (settled kept (after_run hosts before))

-- Each run of the two managers keeps them.
abbrev pub RunsKeepGuarantees : Type 0
RunsKeepGuarantees = (ms : List Move) → IsRun hosts ms → AlwaysKeepsGuarantees ms
