use Rattle.std.proofs.Common.{◌≡◌, ◌≤◌, length, Err, arith, rules}
use Rattle.mqb_picture.proofs.Steps.{posted_more, posted_refused, posted_end}
use Rattle.mqb_picture.proofs.packets.Packets.post_all.Goals as goal

pub loop-word-preserved : goal.loop-word-preserved
loop-word-preserved c =
    rw c.next_sender-sender.ensures (posted_more _ _ _ _ _ _ _ _ _ c.loop-word.invariant c.loop-word-test.true c.in_ok-post_one.ensures.ok)

pub returns-in_err-post_one-clause-err : goal.returns-in_err-post_one-clause-err
returns-in_err-post_one-clause-err c =
    let refused = posted_refused _ _ _ _ _ _ _ _ c.in_err-post_one.field-0.0 c.loop-word.invariant c.loop-word-test.true c.in_err-post_one.ensures.err in
    let is : c.from_residual.result ≡ Err c.in_err-post_one.field-0.0 = search rules in
    rw is refused

pub returns-clause-ok : goal.returns-clause-ok
returns-clause-ok c =
    let end : length c.args.words.now ≤ c.loop-word.word-index = omega arith in
    posted_end _ _ _ _ c.loop-word.word-index c.args.words.now _ c.loop-word.invariant end
