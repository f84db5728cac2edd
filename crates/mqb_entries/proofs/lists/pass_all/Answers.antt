use Rattle.std.proofs.lemmas.Result.{err_from_is_err_and}
use Rattle.mqb_entries.specs.Lists.{passed}
use Rattle.mqb_entries.proofs.Passing.{goes_on, ends, is_done}
use Rattle.mqb_entries.proofs.lists.pass_all.Goals as goal

pub returns-in_err-read : goal.returns-in_err-read
returns-in_err-read g c =
    let member = g.M.Member.member_at in
    let p = err_from_is_err_and c.from_residual.result c.from_residual.ensures.1 in
    rw (p.1, p.2) (ends member c.args.count c.loop.counter c.loop.cursor c.in_err-read.field-0.0 (passed member c.args.count c.args.cursor.now) c.loop-test.true c.in_err-read.ensures c.loop.invariant)

pub loop-preserved : goal.loop-preserved
loop-preserved g c =
    let member = g.M.Member.member_at in
    goes_on member c.args.count c.loop.counter c.loop.cursor c.read.new.cursor _ (passed member c.args.count c.args.cursor.now) c.loop-test.true c.in_ok-read.ensures c.loop.invariant

pub returns : goal.returns
returns g c = is_done g.M.Member.member_at c.args.count c.loop.counter c.loop.cursor _ c.loop-test.false c.loop.invariant
