use Rattle.std.proofs.Common.{Err, Ok}
use Rattle.std.proofs.lemmas.Result.{err_from_is_err_and}
use Rattle.mqb_snapshot.specs.Reading.{state_of}
use Rattle.mqb_state.proofs.Again.{again, read_as}
use Rattle.mqb_state.proofs.state.State.read_back.Goals as goal

pub returns-in_err-contents-clause-again : goal.returns-in_err-contents-clause-again
returns-in_err-contents-clause-again c =
    let p = err_from_is_err_and c.from_residual.result c.from_residual.ensures.1 in
    rw (p.1, p.2) (again c.snapshots_are_read_back.ensures c.args.bytes.now (Err c.in_err-contents.field-0.0) c.in_err-contents.ensures)

pub keeping-requires : goal.keeping-requires
keeping-requires c = c.read_back_is_valid.ensures c.in_ok-contents.contents.lists c.in_ok-contents.ensures

pub returns-in-Ok-clause-exact : goal.returns-in-Ok-clause-exact
returns-in-Ok-clause-exact c = read_as (state_of c.args.bytes.now) c.in_ok-contents.contents c.in-Ok.state c.in-Ok.ensures c.in_ok-contents.ensures

pub returns-in-Ok-clause-again : goal.returns-in-Ok-clause-again
returns-in-Ok-clause-again c = again c.snapshots_are_read_back.ensures c.args.bytes.now (Ok c.in-Ok.state)
    (read_as (state_of c.args.bytes.now) c.in_ok-contents.contents c.in-Ok.state c.in-Ok.ensures c.in_ok-contents.ensures)
