use Rattle.mqb_exactly_once.specs.World.{Decision}
use Rattle.mqb_exactly_once.specs.Runs.{after}
use Rattle.mqb_exactly_once.proofs.Decisions.{one_of_each}
use Rattle.mqb_exactly_once.proofs.Always.{always}
use Rattle.mqb_exactly_once.proofs.decided_once.Goals as goal

pub returns : goal.returns
returns c = λ channel xs run x y.
    one_of_each (λ (z : Decision). z.position) (after channel xs).decided x y (always channel xs run).rise
