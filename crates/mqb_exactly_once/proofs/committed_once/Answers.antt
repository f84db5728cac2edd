use Rattle.mqb_exactly_once.specs.World.{Commitment}
use Rattle.mqb_exactly_once.specs.Runs.{after}
use Rattle.mqb_exactly_once.proofs.Decisions.{one_of_each}
use Rattle.mqb_exactly_once.proofs.Always.{always}
use Rattle.mqb_exactly_once.proofs.committed_once.Goals as goal

pub returns : goal.returns
returns c = λ channel xs run x y.
    one_of_each (λ (z : Commitment). z.position) (after channel xs).committed x y (always channel xs run).commits
