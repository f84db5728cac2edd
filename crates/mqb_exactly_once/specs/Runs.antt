use Rattle.std.specs.Prelude.{List, [], ◌∷◌, ⊤}
use Rattle.mqb_exactly_once.specs.World.{Channel, StreamWorld, start}
use Rattle.mqb_exactly_once.specs.Steps.{StreamStep, happens, May}

-- the world after these steps, the newest of which is first
abbrev pub after : Channel → List StreamStep → StreamWorld
after channel [] = start channel
after channel (x ∷ xs) = happens (after channel xs) x

-- each of them could happen
abbrev pub IsRun : Channel → List StreamStep → Type 0
IsRun channel [] = ⊤
IsRun channel (x ∷ xs) = May (after channel xs) x × IsRun channel xs

-- P holds at each point of each run
abbrev pub AtEachPoint : (StreamWorld → Type 0) → Type 0
AtEachPoint P = (channel : Channel) (xs : List StreamStep) → IsRun channel xs → P (after channel xs)
