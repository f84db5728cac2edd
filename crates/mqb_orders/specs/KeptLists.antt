use Rattle.std.specs.Prelude.{ℕ, ◌<◌, nat_lt, ◌||◌, List, AllPairs, filter, map}
use Rattle.mqb_base.specs.Bits.{keeps_dead}
use Rattle.mqb_orders.specs.declared.kept.Kept.{Kept}

abbrev pub numbers : List Kept → List ℕ
numbers kept = map (λ k. k.number) kept

-- the numbers rise
abbrev pub Rises : List Kept → Type 0
Rises kept = AllPairs (λ j k. j.number < k.number) kept

-- what is kept where everything up to a number was acknowledged: beyond what is above it, what
-- has the dead-letter bit
abbrev pub released : ℕ → List Kept → List Kept
released number kept = filter (λ k. nat_lt number k.number || keeps_dead k.message) kept
