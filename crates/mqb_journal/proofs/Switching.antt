-- What each moment leaves of a write of one byte, a sync and a cut.
use Rattle.std.proofs.Common.{inl, inr, ℕ, List, [], ◌∷◌, subst}
use Rattle.mqb_outside.specs.Images.{Each, Same, Follows, Written, Torn, MayBeCut}
use Rattle.mqb_outside.specs.Disk.{View, IsSettled, Elapses, LeavesOnly, Lawful}
use Rattle.mqb_outside.specs.lemmas.Runs.{started, goes_on, stays}
use Rattle.mqb_outside.specs.lemmas.Steps.{nothing_torn}
use Rattle.mqb_journal.specs.Gates.{IsSwitchedFrom}

pub switched_moments : (a b c d : View) (at byte end : ℕ) → Lawful a → IsSettled a → Follows (Written at (byte ∷ [])) a.reads b.reads → Follows (Torn at 1) a.leaves b.leaves → Elapses a b
    → IsSettled c → Same b.reads c.reads → Each c.leaves b.leaves → Elapses b c → Follows (MayBeCut end) c.leaves d.leaves → Elapses c d
    → LeavesOnly a d (IsSwitchedFrom at byte end a.reads)
switched_moments a b c d at byte end law settled written torn first durable same fewer second cut third =
    let torn_one : Each b.leaves (IsSwitchedFrom at byte end a.reads) =
    λ f left. (let from = torn f left in (from.0, settled from.0 from.1, inl from.2)) in
    let cut_one : Each d.leaves (IsSwitchedFrom at byte end a.reads) =
    λ f left. (
    let from = cut f left in
    let was = written from.0 (same.none_new from.0 (durable from.0 from.1)) in
    (was.0, was.1, inr (subst (λ (l : List ℕ). MayBeCut end l f) was.2 from.2))
    ) in
    let start = started a (IsSwitchedFrom at byte end a.reads) law (λ f left. (f, settled f left, inl (nothing_torn at 1 f))) in
    goes_on a c d (IsSwitchedFrom at byte end a.reads) (stays a b c (IsSwitchedFrom at byte end a.reads) (goes_on a a b (IsSwitchedFrom at byte end a.reads) start first torn_one) second fewer) third cut_one
