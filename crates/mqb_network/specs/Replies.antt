-- What is answered to an event.
use Rattle.std.specs.Prelude.{List, Result, ℕ}
use Rattle.mqb_base.specs.declared.heard.Heard as base
use Rattle.mqb_base.specs.declared.ledger.Line.{Line}
use Rattle.mqb_journal.specs.declared.faults.CheckpointFault.{CheckpointFault}
use Rattle.mqb_model.specs.calls.Call.{Answer}
use Rattle.mqb_model.specs.declared.faults.PumpFault.{PumpFault}
use Rattle.mqb_network.specs.Choices.{Failure}

-- what becomes of a packet that is delivered
pub data Delivery : Type 0 where
  -- its connection has ended, or it was dropped
  Gone : Delivery
  -- it was heard, and these are the lines of its record
  Heard : base.Heard → List Line → Delivery
  -- the receiver's disk failed
  Unheard : Failure → Delivery

-- one of the packets that are delivered in turn
pub record Arrival : Type 0 where
  pub packet : ℕ
  pub delivery : Delivery

-- what a manager answered, or what became of the network
pub data Reply : Type 0 where
  -- the disk of the manager failed
  DiskFailed : Failure → Reply
  -- what a manager answered, and the lines of its record
  Called : Answer → List Line → Reply
  -- a manager is down, or has a connection, or these packets set the session up
  NotUp : Reply
  Linked : Reply
  Connected : List ℕ → Reply
  -- the manager has no connection, or it ended, or its rows begin anew
  Unlinked : Reply
  Disconnected : Reply
  Resent : Reply
  -- these packets went, or why none did
  Pumped : List ℕ → Reply
  NotPumped : PumpFault → Reply
  Flowed : List Arrival → Reply
  -- there is no such packet
  NoPacket : Reply
  Delivered : Delivery → Reply
  Dropped : Reply
  -- the state was written anew, or why it was not
  Checkpointed : Result (Unit {0}) CheckpointFault → Reply
  Armed : Reply
  -- started again: it was up, or the record in doubt was kept or lost
  Opened : Reply
  OpenedKept : List Line → Reply
  OpenedLost : Reply
