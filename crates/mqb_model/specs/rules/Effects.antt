-- What a record does: the state that it leaves, and its lines in the ledger.
use Rattle.std.specs.Prelude.{[], ◌++◌, ◌∷◌, List}
use Rattle.mqb_base.specs.declared.ledger.Line.{Line}
use Rattle.mqb_model.specs.state.State.{State}

-- the state that is left, and the lines
pub record Effect : Type 0 where
  pub state : State
  pub lines : List Line

-- nothing was done yet
abbrev pub begun : State → Effect
begun s = record { state = s; lines = [] }

-- one thing more was done, and its lines stand behind the others
abbrev pub joined : Effect → Effect → Effect
joined e next = record { state = next.state; lines = e.lines ++ next.lines }

-- one thing more was done that has no line
abbrev pub without_line : Effect → State → Effect
without_line e s = record e { state = s }

-- one thing that has a line
abbrev pub with_line : Line → State → Effect
with_line entry s = record { state = s; lines = entry ∷ [] }
