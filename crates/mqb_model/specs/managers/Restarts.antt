-- How a manager is started again over its store.
use Rattle.std.specs.Option.{option_map_or}
use Rattle.std.specs.Prelude.{[], Bool, List, false, true}
use Rattle.mqb_base.specs.declared.ledger.Line.{Line}
use Rattle.mqb_model.specs.managers.Manager.{Down, Manager, doubt_of, unlinked}
use Rattle.mqb_model.specs.managers.Outcomes.{recorded}
use Rattle.mqb_model.specs.records.Applying.{lines_of}
use Rattle.mqb_model.specs.state.Durable.{durable}
use Rattle.mqb_model.specs.state.State.{State}

-- the state that its store stands for: with the record in doubt, or without it
abbrev pub stored_state : Manager → (kept : Bool) → State
stored_state m true = durable (recorded m.state (doubt_of m.condition))
stored_state m false = durable m.state

-- it is up again, whatever was express or belonged to a connection is gone, and nothing is in doubt
abbrev pub restarted : Manager → (kept : Bool) → Manager
restarted m kept = unlinked (stored_state m kept)

-- the lines of the record in doubt, which are added where it is found kept
abbrev pub lines_in_doubt : Manager → List Line
lines_in_doubt m = option_map_or (lines_of m.state) (doubt_of m.condition) []

-- The disk fails in a restart: the manager is down, and a record that was in doubt still is.
abbrev pub unread : Manager → Manager
unread m = record (unlinked (durable m.state)) { condition = Down (doubt_of m.condition) }
