use Rattle.mqb_exactly_once.specs.Runs.{after}
use Rattle.mqb_exactly_once.proofs.Numbers.{committed_within, counted_is_committed}
use Rattle.mqb_exactly_once.proofs.Always.{always}
use Rattle.mqb_exactly_once.proofs.committed_are_counted.Goals as goal

pub returns : goal.returns
returns c = λ channel xs run p.
    let cs = (after channel xs).committed in
    let i = always channel xs run in
    (committed_within cs p i.numbered, λ h. counted_is_committed cs p i.numbered h.0 h.1)
