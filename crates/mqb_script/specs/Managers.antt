-- The two managers of a replay.
use Rattle.std.specs.Prelude.{ℕ, zero, suc, List, codes}
use Rattle.mqb_script.specs.declared.managers.Which.{Which}
use Rattle.mqb_script.specs.declared.managers.Which.TheVariants.{Alpha, Beta}

-- a manager's host, which is also its word in a script
abbrev pub host_of : Which → List ℕ
host_of Alpha = codes "alpha"
host_of Beta = codes "beta"

-- the manager that one is connected with
abbrev pub other : Which → Which
other Alpha = Beta
other Beta = Alpha

-- its index, by which the events of a script name it
abbrev pub index_of : Which → ℕ
index_of Alpha = 0
index_of Beta = 1

-- the manager of an index
abbrev pub which_at : ℕ → Which
which_at zero = Alpha
which_at (suc i) = Beta
