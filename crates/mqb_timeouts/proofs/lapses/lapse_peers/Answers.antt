use Rattle.std.proofs.Common.{◌≡◌, ap, sym, ◌∙◌, arith}
use Rattle.mqb_contents.proofs.Grown.{grown_trans}
use Rattle.mqb_model.specs.rules.Effects.{Effect}
use Rattle.mqb_model.specs.rules.Timeouts.{lapsing_in, peer_lapsed}
use Rattle.mqb_timeouts.specs.Waiting.{lapsed_count}
use Rattle.mqb_timeouts.proofs.Lapsed.{later_lapsed}
use Rattle.mqb_timeouts.proofs.Appended.{sum_step}
use Rattle.mqb_rules.proofs.Loops.{each_more}
use Rattle.mqb_timeouts.proofs.lapses.lapse_peers.Goals as goal

pub returns-in_err-lapse_peer-clause-grown : goal.returns-in_err-lapse_peer-clause-grown
returns-in_err-lapse_peer-clause-grown c = grown_trans c.loop-k.invariant.grown c.lapse_peer.ensures.grown

pub loop-k-preserved : goal.loop-k-preserved
loop-k-preserved c =
    let step = sum_step (lapsing_in c.args.lane c.args.now) c.args.draft.now.effect.state.plain c.loop-k.k in
    let same : lapsed_count c.args.lane c.args.now c.loop-k.draft.effect.state c.loop-k.k ≡ lapsed_count c.args.lane c.args.now c.args.draft.now.effect.state c.loop-k.k =
    ap (λ (x : Effect). lapsed_count c.args.lane c.args.now x.state c.loop-k.k) c.loop-k.invariant.so_far ∙ later_lapsed c.args.lane c.args.now c.loop-k.k c.loop-k.k c.args.draft.now.effect (omega arith) in
    record {
      so_far = c.in_ok-lapse_peer.ensures.ok ∙ (ap (peer_lapsed c.args.lane c.args.now c.loop-k.k) c.loop-k.invariant.so_far
          ∙ sym (each_more c.loop-k.k (peer_lapsed c.args.lane c.args.now) c.args.draft.now.effect));
      end = c.loop-k.invariant.end;
      start = c.lapse_peer.ensures.start ∙ c.loop-k.invariant.start;
      grown = grown_trans c.loop-k.invariant.grown c.lapse_peer.ensures.grown;
      held = omega (arith, step, same, c.in_ok-lapse_peer.ensures.held, c.loop-k.invariant.held);
    }
