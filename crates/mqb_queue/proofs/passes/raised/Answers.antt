use Rattle.std.proofs.Common.{◌∙◌, arith}
use Rattle.std.proofs.lemmas.List.Edits.{length-remove}
use Rattle.mqb_queue.proofs.Passed.{passed_over, passed_up_to}
use Rattle.mqb_queue.proofs.passes.raised.Goals as goal
use Rattle.mqb_queue.proofs.passes.raised.Goals.{else-level-k-via-then-level-k+else-pass-end_of, else-level-k-via-else-level-k}

pub overflow_add-pass : goal.overflow_add-pass
overflow_add-pass c = omega (arith, c.requires.few, c.requires.passed.within, length-remove c.args.messages.now c.args.at c.requires.place)

pub returns-then-pass-end_of : goal.returns-then-pass-end_of
returns-then-pass-end_of c =
    passed_up_to c.args.k c.args.at c.args.pass c.args.messages.now c.requires.place (omega (arith, c.if-pass-at.false)) c.requires.passed

pub returns-else-level-k : goal.returns-else-level-k
returns-else-level-k c =
    passed_over c.args.k c.args.at c.args.pass c.at-message.result.now c.args.messages.now c.at-message.ensures (omega (arith, c.if-pass-at.false))
    (elim c.else-level-k.branch [
      | else-level-k-via-then-level-k+else-pass-end_of w ↦ λ same. omega (arith, w.end_of.ensures, w.if-pass-end_of.false)
      | else-level-k-via-else-level-k w ↦ λ same. absurd (w.if-level-k.false (c.level.ensures.level ∙ same))
    ])
    c.requires.passed
