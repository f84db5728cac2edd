-- What was made of the base and the records that a scan has lent.
use Rattle.std.specs.Prelude.{◌<◌, ◌≡◌, List, Some, length, ℕ}
use Rattle.mqb_base.specs.declared.ledger.Line.{Line}
use Rattle.mqb_outside.specs.Disk.{View}
use Rattle.mqb_journal.specs.Journals.{Lent}
use Rattle.mqb_journal.specs.States.{ScanState}
use Rattle.mqb_journal.specs.Store.{Base}
use Rattle.mqb_model.specs.state.Durable.{durable}
use Rattle.mqb_model.specs.state.State.{State}
use Rattle.mqb_store_laws.specs.Images.{last_lines, state_in}

-- A store was read up to a place: the base and the records up to there stand for this state, and
-- these are the lines of the last record.
pub record IsReadUpTo (d : View) (scan : ScanState) (s : State) (lines : List Line) : Type 0 where
  pub whole : length scan.guid.0 ≡ 16
  pub within : scan.gate < scan.len
  pub base : Base
  pub entries : List (List ℕ)
  pub lent : Lent d scan base entries
  pub state : state_in scan.guid base entries ≡ Some s
  pub kept : durable s ≡ s
  pub added : lines ≡ last_lines scan.guid base entries
