-- The parts of a state that were read, one after the other.
use Rattle.std.specs.Prelude.{Bool, List, None, Ok, Option, Result, Some, if◌then◌else◌, suc}
use Rattle.std.specs.Prelude.{zero, ℕ}
use Rattle.mqb_entries.specs.Fields.{outside, u32_at}
use Rattle.mqb_entries.specs.declared.faults.EntryFault.{EntryFault}
use Rattle.mqb_fields.specs.Reading.{◌>>=◌, Reading}
use Rattle.mqb_model.specs.state.State.{State}

-- the parts read so far, as a state, and the numbers of the manager's own messages among them
pub record Parts : Type 0 where
  pub state : State
  pub numbers : List ℕ

-- what stands here, if it passes a test
abbrev pub tested : {X : Type 0} → (X → Bool) → (Reading → Result (X × Reading) EntryFault)
    → Reading → Result (X × Reading) EntryFault
tested passes read r = do
  x ← read r
  if passes x.0 then Ok x else outside r

-- what was read up to a place, if it is anything
abbrev pub found_in : {X : Type 0} → Reading → Reading → Option X → Result (X × Reading) EntryFault
found_in r after (Some x) = Ok (x, after)
found_in r after None = outside r

-- a part is read, and joins those before it, so many times
abbrev pub joined : ℕ → (Parts → Reading → Result (Parts × Reading) EntryFault) → Parts → Reading
    → Result (Parts × Reading) EntryFault
joined zero part p r = Ok (p, r)
joined (suc count) part p r = do
  x ← part p r
  joined count part x.0 x.1

-- parts behind their count join those before them
abbrev pub list_joined : (Parts → Reading → Result (Parts × Reading) EntryFault) → Parts → Reading
    → Result (Parts × Reading) EntryFault
list_joined part p r = do
  count ← u32_at r
  joined count.0 part p count.1

-- a part for each index from one on
abbrev pub each_joined : ℕ → ℕ → (ℕ → Parts → Reading → Result (Parts × Reading) EntryFault) → Parts
    → Reading → Result (Parts × Reading) EntryFault
each_joined zero k part p r = Ok (p, r)
each_joined (suc count) k part p r = do
  x ← part k p r
  each_joined count (suc k) part x.0 x.1
