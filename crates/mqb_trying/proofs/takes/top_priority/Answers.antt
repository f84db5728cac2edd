use Rattle.std.proofs.Common.{◌∙◌, Bool, ap, cond, sym, arith}
use Rattle.std.proofs.lemmas.Option.{get_or_from_slice_get}
use Rattle.std.specs.Prelude.{max}
use Rattle.mqb_trying.specs.Takes.{may_take, top_from}
use Rattle.mqb_trying.proofs.Walks.{front_read, top_end, top_more}
use Rattle.mqb_trying.proofs.takes.top_priority.Goals.{then-may_take, else-may_take}
use Rattle.mqb_trying.proofs.takes.top_priority.Goals as goal

pub loop-index-preserved : goal.loop-index-preserved
loop-index-preserved c =
    let m = c.at-message.result.now in
    let top = c.loop-index.top in
    record {
      left = top_more (may_take c.args.mark c.args.now) c.loop-index.index top c.if-may_take.top
          (top_from (may_take c.args.mark c.args.now) 0 0 c.args.messages.now) c.args.messages.now m
          (front_read c.args.messages.now c.loop-index.index m (omega (arith, c.loop-index-test.true, c.len-index-end.ensures)) (sym (get_or_from_slice_get c.args.messages.now c.loop-index.index m m c.at-message.ensures)))
          (elim c.if-may_take.branch [
            | then-may_take w ↦ w.top-is ∙ w.max-top.ensures ∙ sym (ap (λ (b : Bool). cond b (max top m.priority) top) (sym c.may_take.ensures ∙ w.if-may_take.true))
            | else-may_take w ↦ w.top-is ∙ sym (ap (λ (b : Bool). cond b (max top m.priority) top) (sym c.may_take.ensures ∙ w.if-may_take.false))
          ]) c.loop-index.invariant.left;
    }

pub returns : goal.returns
returns c = top_end (may_take c.args.mark c.args.now) c.loop-index.index c.loop-index.top
    (top_from (may_take c.args.mark c.args.now) 0 0 c.args.messages.now) c.args.messages.now (omega (arith, c.loop-index-test.false, c.len-index-end.ensures)) c.loop-index.invariant.left
