-- What a network is asked for.
use Rattle.std.specs.Prelude.{ℕ}
use Rattle.mqb_model.specs.calls.Call.{Request}

-- one event: its manager by its index, its packet by its number
pub data Event : Type 0 where
  -- a manager is asked for something
  Asks : (manager : ℕ) → Request → Event
  Connect : (initiator acceptor now : ℕ) → (initiator_window acceptor_window : ℕ) → Event
  Disconnect : (manager : ℕ) → Event
  Resend : (manager : ℕ) → Event
  Pump : (manager now : ℕ) → Event
  Deliver : (packet now : ℕ) → Event
  Drop : (packet : ℕ) → Event
  Flow : (manager now : ℕ) → Event
  -- a manager writes its state anew, in place of its records
  Checkpoint : (manager : ℕ) → Event
  -- a call of the manager's disk is going to fail
  Arm : (manager : ℕ) → Event
  Restart : (manager : ℕ) → Event
