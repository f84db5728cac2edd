-- How counts of device calls, and the place that reads have reached, go on.
use Rattle.std.proofs.Common.{ℕ, ◌+◌, ◌≤◌, max, arith}
use Rattle.mqb_outside.specs.Disk.{Counted, AtMost, reached_by}

-- no call
pub at_most_none : (n before : ℕ) → AtMost n before before
at_most_none n before = record { later = omega arith; most = omega arith }

pub counted_at_most : (n before now : ℕ) → Counted n before now → AtMost n before now
counted_at_most n before now counted =
    record { later = counted.later; most = omega (arith, counted.sum) }

-- calls, and then more of them
pub at_most_then : (n k before mid now : ℕ) → AtMost n before mid → AtMost k mid now
    → AtMost (n + k) before now
at_most_then n k before mid now first second = record {
  later = omega (arith, first.later, second.later);
  most = omega (arith, first.most, second.most);
}

-- what holds of fewer calls holds of more
pub at_most_more : (n k before now : ℕ) → n ≤ k → AtMost n before now → AtMost k before now
at_most_more n k before now fewer most =
    record { later = most.later; most = omega (arith, most.most, fewer) }

-- a read that ends at a place or before it reaches no further than that
pub reached_within : (at n reached place : ℕ) → at + n ≤ place
    → reached_by at n reached ≤ max reached place
reached_within at n reached place ends = omega (arith, ends)
