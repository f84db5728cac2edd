-- What is seen of the parts of a manager.
use Rattle.std.specs.Prelude.{Bool, List, Option, false, length, ℕ}
use Rattle.mqb_model.specs.Lists.{grown}
use Rattle.mqb_session.specs.State as one_end
use Rattle.mqb_store.specs.States.{StoreState}
use Rattle.mqb_manager.specs.States.{ManagerState}

-- A row that is behind the end of the numbers has 0, and one behind the end of
-- the marks owes nothing.
abbrev pub seen : StoreState → Option one_end.State → List ℕ → List Bool → ManagerState
seen w session cursors owes = record {
  store = w;
  session = session;
  cursors = grown 0 (length w.state.outs) cursors;
  owes = grown false (length w.state.ins) owes;
}
