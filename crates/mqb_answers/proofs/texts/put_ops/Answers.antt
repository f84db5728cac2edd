use Rattle.mqb_answers.specs.Texts.{body_line}
use Rattle.mqb_answers.specs.Told.{took}
use Rattle.mqb_answers.proofs.Bodies.{text_more}
use Rattle.mqb_answers.proofs.texts.put_ops.Goals as goal

pub loop-done-preserved : goal.loop-done-preserved
loop-done-preserved c =
    text_more body_line took c.args.text.now.items _ _ c.args.ops.now c.loop-done.done-index c.done-item.result
    c.loop-done.invariant c.loop-done-test.true c.done-item.is c.in_ok-put_taken.ensures
