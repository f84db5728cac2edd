use Rattle.std.proofs.Common.{◌≡◌, ap, sym, ◌∙◌, arith}
use Rattle.mqb_contents.proofs.Grown.{grown_trans}
use Rattle.mqb_model.specs.rules.Effects.{Effect}
use Rattle.mqb_model.specs.rules.Timeouts.{queue_swept, sweeping_in}
use Rattle.mqb_timeouts.specs.Waiting.{swept_count}
use Rattle.mqb_timeouts.proofs.Swept.{later_swept}
use Rattle.mqb_timeouts.proofs.Appended.{sum_step}
use Rattle.mqb_rules.proofs.Loops.{each_more}
use Rattle.mqb_timeouts.proofs.sweeps.sweep_queues.Goals as goal

pub returns-in_err-sweep_queue-clause-grown : goal.returns-in_err-sweep_queue-clause-grown
returns-in_err-sweep_queue-clause-grown c = grown_trans c.loop-k.invariant.grown c.sweep_queue.ensures.grown

pub loop-k-preserved : goal.loop-k-preserved
loop-k-preserved c =
    let step = sum_step (sweeping_in c.args.lane c.args.now) c.args.draft.now.effect.state.places.queues c.loop-k.k in
    let same : swept_count c.args.lane c.args.now c.loop-k.draft.effect.state c.loop-k.k ≡ swept_count c.args.lane c.args.now c.args.draft.now.effect.state c.loop-k.k =
    ap (λ (x : Effect). swept_count c.args.lane c.args.now x.state c.loop-k.k) c.loop-k.invariant.so_far ∙ later_swept c.args.lane c.args.now c.loop-k.k c.loop-k.k c.args.draft.now.effect (omega arith) in
    record {
      so_far = c.in_ok-sweep_queue.ensures.ok ∙ (ap (queue_swept c.args.lane c.args.now c.loop-k.k) c.loop-k.invariant.so_far
          ∙ sym (each_more c.loop-k.k (queue_swept c.args.lane c.args.now) c.args.draft.now.effect));
      start = c.sweep_queue.ensures.start ∙ c.loop-k.invariant.start;
      grown = grown_trans c.loop-k.invariant.grown c.sweep_queue.ensures.grown;
      held = omega (arith, step, same, c.in_ok-sweep_queue.ensures.held, c.loop-k.invariant.held);
    }
