-- How far a chain of records was read.
use Rattle.std.proofs.Common.{inl, inr, ℕ, ◌+◌, ◌≤◌, max, List, arith}
use Rattle.mqb_journal.specs.Store.{Base, Nothing, After, HasFront}
use Rattle.mqb_journal.specs.Scan.{ReadsOnlyAt}

-- where the reads before them came to the gate at most
pub reads_on : (gate before mid now : ℕ) (c : List ℕ) → mid ≤ max before (gate + 1)
    → ReadsOnlyAt gate mid now c → ReadsOnlyAt gate before now c
reads_on gate before mid now c so_far (inl within) = inl (omega (arith, so_far, within))
reads_on gate before mid now c so_far (inr (inl size)) =
    inr (inl (size.0, omega (arith, so_far, size.1)))
reads_on gate before mid now c so_far (inr (inr next)) =
    inr (inr (next.0, next.1, omega (arith, so_far, next.2)))

-- the first gate stands behind the header
pub first_low : (guid : List ℕ) (base : Base) (first : ℕ) (image : List ℕ)
    → HasFront guid base first image → 24 ≤ first
first_low guid Nothing first image is = let begins = is.begins in omega (arith, begins)
first_low guid (After count bytes) first image is =
    let begins = is.begins in let low = is.head in let behind = is.behind in
    omega (arith, begins, low, behind)
