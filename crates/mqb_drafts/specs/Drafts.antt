-- What contracts see of a state in which changes are tried.
use Rattle.std.specs.Prelude.{[], ◌++◌, ◌+◌, ◌<◌, ◌^◌, ◌∷◌, AllPairs, ℕ}
use Rattle.mqb_base.specs.declared.ledger.Line.{Line}
use Rattle.mqb_contents.specs.mqb_model.rules.Effects.{Effect}
use Rattle.mqb_contents.specs.mqb_model.state.State.{State}
use Rattle.mqb_contents.specs.Rooms.{StateRooms}

-- what was done so far, the state before it, the rooms that this has by now, and how many
-- messages came in since
pub record Drafted : Type 0 where
  pub effect : Effect
  pub start : State
  pub rooms : StateRooms
  pub held : ℕ

-- one line more
abbrev pub noted : Effect → Line → Effect
noted e entry = record e { lines = e.lines ++ entry ∷ [] }

-- a number is not the last that there is
abbrev pub HasNext : ℕ → Type 0
HasNext number = number + 1 < 2 ^ 32

-- ordinals rise from row to row
abbrev pub OrdinalsRise : State → Type 0
OrdinalsRise s = AllPairs (λ a b. a.sequence.ordinal < b.sequence.ordinal) s.outs
