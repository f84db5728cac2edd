use Rattle.std.proofs.Common.{◌++◌, arith}
use Rattle.mqb_exactly_once.specs.Runs.{after}
use Rattle.mqb_exactly_once.proofs.Always.{run_grows}
use Rattle.mqb_exactly_once.proofs.Befores.{before_same}
use Rattle.mqb_exactly_once.proofs.before_stays.Goals as goal

pub returns : goal.returns
returns c = λ channel more xs run s n offered.
    let v = after channel xs in
    let w = after channel (more ++ xs) in
    let g = run_grows channel more xs run in
    before_same v.committed v.expired s w.committed w.expired n (λ k below. g.kept (record { sequence = s; number = k }) (omega (arith, offered)))
