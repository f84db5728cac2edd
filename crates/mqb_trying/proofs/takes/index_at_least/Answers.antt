use Rattle.std.proofs.Common.{◌∙◌, ◌&&◌, Bool, ap, arith, drop, sym}
use Rattle.std.proofs.lemmas.Bool.{le-leb}
use Rattle.std.proofs.lemmas.Option.{get_or_from_slice_get}
use Rattle.std.specs.Prelude.{nat_le}
use Rattle.mqb_trying.specs.Takes.{index_from, may_take}
use Rattle.mqb_trying.proofs.Walks.{both_fail, first_fails, front_read, index_here, index_more}
use Rattle.mqb_trying.proofs.takes.index_at_least.Goals.{else-may_take-via-then-may_take+else-message-least, else-may_take-via-else-may_take}
use Rattle.mqb_trying.proofs.takes.index_at_least.Goals as goal

pub loop-index-preserved : goal.loop-index-preserved
loop-index-preserved c =
    let m = c.at-message.result.now in
    let ms = c.args.messages.now in
    let i = c.loop-index.index in
    record {
      left = index_more (may_take c.args.mark c.args.now) c.args.least i (index_from (may_take c.args.mark c.args.now) c.args.least c.args.from (drop c.args.from ms)) ms m
          (front_read ms i m (omega (arith, c.loop-index-test.true, c.len-index-end.ensures)) (sym (get_or_from_slice_get ms i m m c.at-message.ensures)))
          (elim c.else-may_take.branch [
            | else-may_take-via-then-may_take+else-message-least w ↦ both_fail (may_take c.args.mark c.args.now i m) c.args.least m.priority w.if-message-least.false
            | else-may_take-via-else-may_take w ↦ first_fails (may_take c.args.mark c.args.now i m) (nat_le c.args.least m.priority) (sym c.may_take.ensures ∙ w.if-may_take.false)
          ]) c.loop-index.invariant.left;
    }

pub returns-then-message-least-clause-index : goal.returns-then-message-least-clause-index
returns-then-message-least-clause-index c =
    let m = c.at-message.result.now in
    let ms = c.args.messages.now in
    let i = c.loop-index.index in
    let may = may_take c.args.mark c.args.now in
    index_here may c.args.least i (index_from may c.args.least c.args.from (drop c.args.from ms)) ms m
    (front_read ms i m (omega (arith, c.loop-index-test.true, c.len-index-end.ensures)) (sym (get_or_from_slice_get ms i m m c.at-message.ensures)))
    (ap (λ (b : Bool). b && nat_le c.args.least m.priority) (sym c.may_take.ensures ∙ c.if-may_take.true) ∙ le-leb c.args.least m.priority c.if-message-least.true)
    c.loop-index.invariant.left
