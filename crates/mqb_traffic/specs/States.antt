-- What is seen of the traffic.
use Rattle.std.specs.Prelude.{List, Option, ℕ}
use Rattle.mqb_base.specs.declared.ledger.Line.{Line}
use Rattle.mqb_traffic.specs.declared.notes.Link.{Link}
use Rattle.mqb_traffic.specs.declared.notes.Note.{Note}

-- the connection that stands, how many ever began, a note for each packet that was sent, and the
-- lines of all records
pub record TrafficState : Type 0 where
  pub link : Option Link
  pub connected : ℕ
  pub notes : List Note
  pub ledger : List Line
