use Rattle.std.proofs.Common.{◌≡◌, ℕ, length, ap, subst, sym, ◌∙◌, arith}
use Rattle.mqb_contents.proofs.Grown.{grown_trans}
use Rattle.mqb_model.specs.rules.Effects.{Effect}
use Rattle.mqb_model.specs.Loops.{for_each_below}
use Rattle.mqb_model.specs.rules.Timeouts.{expiring_in, lane_due, row_expired}
use Rattle.mqb_timeouts.specs.Waiting.{expired_count}
use Rattle.mqb_timeouts.proofs.Expired.{later_expired, others_due}
use Rattle.mqb_timeouts.proofs.Appended.{sum_step}
use Rattle.mqb_rules.proofs.Loops.{each_more}
use Rattle.mqb_timeouts.proofs.expiries.rows_expired.Goals as goal

pub returns-in_err-expire_row-clause-grown : goal.returns-in_err-expire_row-clause-grown
returns-in_err-expire_row-clause-grown c = grown_trans c.loop-k.invariant.grown c.expire_row.ensures.grown

pub loop-k-preserved : goal.loop-k-preserved
loop-k-preserved c =
    let step = sum_step (expiring_in c.args.now) c.args.draft.now.effect.state.outs c.loop-k.k in
    let same : expired_count c.args.now c.loop-k.draft.effect.state c.loop-k.k ≡ expired_count c.args.now c.args.draft.now.effect.state c.loop-k.k =
    ap (λ (x : Effect). expired_count c.args.now x.state c.loop-k.k) c.loop-k.invariant.so_far ∙ later_expired c.args.now c.loop-k.k c.loop-k.k c.args.draft.now.effect (omega arith) in
    record {
      so_far = c.in_ok-expire_row.ensures.ok ∙ (ap (row_expired c.args.now c.loop-k.k) c.loop-k.invariant.so_far
          ∙ sym (each_more c.loop-k.k (row_expired c.args.now) c.args.draft.now.effect));
      end = c.loop-k.invariant.end;
      start = c.expire_row.ensures.start ∙ c.loop-k.invariant.start;
      grown = grown_trans c.loop-k.invariant.grown c.expire_row.ensures.grown;
      held = omega (arith, step, same, c.in_ok-expire_row.ensures.held, c.loop-k.invariant.held);
    }

pub returns-clause-due : goal.returns-clause-due
returns-clause-due c = λ kind.
    let all : c.loop-k.k ≡ length c.args.draft.now.effect.state.outs = omega (arith, c.loop-k-test.false, c.loop-k.auto.k-end, c.loop-k.invariant.end) in
    subst (λ (x : Effect). lane_due kind x.state c.args.now ≡ lane_due kind c.args.draft.now.effect.state c.args.now)
    (sym (c.loop-k.invariant.so_far ∙ ap (λ (n : ℕ). for_each_below n (row_expired c.args.now) c.args.draft.now.effect) all))
    (others_due kind c.args.now c.args.draft.now.effect)
