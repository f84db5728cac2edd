-- Messages are numbered 1, 2 and so on, and committed in the order of their positions.
use Rattle.std.proofs.Common.{◌≡◌, ◌≤◌, Bool, true, false, List, refl, subst, arith}
use Rattle.mqb_base.specs.Sequences.{same_sequence}
use Rattle.mqb_exactly_once.specs.World.{Commitment, StreamWorld}
use Rattle.mqb_exactly_once.specs.Words.{In, precedes, count}
use Rattle.mqb_exactly_once.specs.Steps.{StreamStep, Commit, commitment, happens, May}
use Rattle.mqb_exactly_once.specs.ExactlyOnce.{IsNumbered, Rises}
use Rattle.mqb_exactly_once.proofs.Positions.{same_sequence_is, later_else, precedes_earlier, precedes_below}
use Rattle.mqb_exactly_once.proofs.Numbers.{numbers_within}

abbrev pub CommitsRise : List Commitment → Type 0
CommitsRise cs = Rises (λ (c : Commitment). c.position) cs

pub numbered_stays : (w : StreamWorld) (x : StreamStep) → IsNumbered w.committed → IsNumbered (happens w x).committed
numbered_stays w (Commit s m) numbered = (refl, numbered)
numbered_stays w _ numbered = numbered

pub commits_rise : (w : StreamWorld) (x : StreamStep) → IsNumbered w.committed → CommitsRise w.committed → May w x
    → CommitsRise (happens w x).committed
commits_rise w (Commit s m) numbered rise may = (λ c inside. at c inside (same_sequence c.position.sequence s) refl, rise)
  where
    at : (c : Commitment) → In c w.committed → (b : Bool) → same_sequence c.position.sequence s ≡ b
        → precedes c.position (commitment w s m).position ≡ true
    at c inside true same =
        let is : c.position.sequence ≡ s = same_sequence_is c.position.sequence s same in
        let within : c.position.number ≤ count w.committed s =
        subst (λ t. c.position.number ≤ count w.committed t) is (numbers_within w.committed c numbered inside).1 in
        precedes_below c.position (commitment w s m).position is (omega arith)
    at c inside false other = precedes_earlier c.position (commitment w s m).position (later_else c.position.sequence s (may c inside) other)
commits_rise w _ numbered rise may = rise
