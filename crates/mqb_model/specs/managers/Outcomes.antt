-- What a call answers, and what it leaves.
use Rattle.std.specs.Option.{option_map_or}
use Rattle.std.specs.Prelude.{[], Bool, Err, List, None, Option, Result, Some, false, is_some}
use Rattle.mqb_base.specs.declared.ledger.Line.{Line}
use Rattle.mqb_packet.specs.declared.packet.Packet.{Packet}
use Rattle.mqb_model.specs.managers.Beside.{beside_done}
use Rattle.mqb_model.specs.managers.Beside as beside
use Rattle.mqb_model.specs.managers.Manager.{Down, Manager, Rest, no_rest, rest_for}
use Rattle.mqb_model.specs.records.Applying.{apply, lines_of}
use Rattle.mqb_model.specs.records.Record.{Record}
use Rattle.mqb_model.specs.state.State.{State}

-- The answer, whether the disk is called, the record that is written, what is done beside it, the
-- rest after it, and the packets that go out. A record is written only where the disk is called.
pub record Outcome (A : Type 0) : Type 0 where
  pub answer : A
  pub touches : Bool
  pub entry : Option Record
  pub beside : beside.Beside
  pub rest : Rest
  pub packets : List Packet

-- nothing changes
abbrev pub answering : {A : Type 0} → Manager → A → Outcome A
answering m answer = record {
  answer = answer;
  touches = false;
  entry = None;
  beside = beside.Nothing;
  rest = m.rest;
  packets = [];
}

-- a record is written, where there is one
abbrev pub writing : {A : Type 0} → Option Record → Outcome A → Outcome A
writing r outcome = record outcome { touches = is_some r; entry = r }

-- one record is written
abbrev pub recording : {A : Type 0} → Manager → Record → A → Outcome A
recording m r answer = writing (Some r) (answering m answer)

-- express messages or marks alone change
abbrev pub changing : {A : Type 0} → Manager → beside.Beside → A → Outcome A
changing m change answer = record (answering m answer) { beside = change }

-- what belongs to the connection alone changes
abbrev pub resting : {A : Type 0} → Manager → Rest → A → Outcome A
resting m rest answer = record (answering m answer) { rest = rest }

-- a call that is refused changes nothing
abbrev pub unless : {V E : Type 0} → Manager → Option E → Outcome (Result V E)
    → Outcome (Result V E)
unless m (Some fault) outcome = answering m (Err fault)
unless m None outcome = outcome

-- the state with a record applied, where there is one
abbrev pub recorded : State → Option Record → State
recorded s r = option_map_or (apply s) r s

-- the record is applied first
abbrev pub state_after : {A : Type 0} → Manager → Outcome A → State
state_after m outcome = beside_done outcome.beside (recorded m.state outcome.entry)

-- the lines that a call adds to the ledger
abbrev pub lines_after : {A : Type 0} → Manager → Outcome A → List Line
lines_after m outcome = option_map_or (lines_of m.state) outcome.entry []

-- the manager after a call that went well
abbrev pub succeeded : {A : Type 0} → Manager → Outcome A → Manager
succeeded m outcome =
    record m { state = state_after m outcome; rest = rest_for (state_after m outcome) outcome.rest }

-- a manager whose disk fails is down, and what it was to write is in doubt
abbrev pub failed_under : Manager → Option Record → Manager
failed_under m r = record m { rest = rest_for m.state no_rest; condition = Down r }

-- the manager after a call in which the disk failed
abbrev pub failed : {A : Type 0} → Manager → Outcome A → Manager
failed m outcome = failed_under m outcome.entry
