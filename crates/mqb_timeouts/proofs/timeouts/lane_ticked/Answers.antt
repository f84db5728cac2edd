use Rattle.std.proofs.Common.{ap, ◌∙◌, arith, length}
use Rattle.std.specs.Prelude.{sum_by}
use Rattle.mqb_contents.proofs.Grown.{grown_trans}
use Rattle.mqb_queue.proofs.Changed.{on_ok}
use Rattle.mqb_model.specs.rules.Effects.{Effect}
use Rattle.mqb_model.specs.rules.Timeouts.{sweeping_in}
use Rattle.mqb_timeouts.proofs.Lapsed.{sweeping_stays}
use Rattle.mqb_timeouts.proofs.timeouts.lane_ticked.Goals as goal

pub returns-clause-grown : goal.returns-clause-grown
returns-clause-grown c = grown_trans c.lapse_peers.ensures.grown c.sweep_queues.ensures.grown

pub returns-clause-held : goal.returns-clause-held
returns-clause-held c = on_ok c.sweep_queues.result c.sweep_queues.ensures.held (λ h.
    let same = ap (λ (x : Effect). sum_by (sweeping_in c.args.lane c.args.now) x.state.places.queues) c.in_ok-lapse_peers.ensures.ok
    ∙ sweeping_stays c.args.lane c.args.now (length c.args.draft.now.effect.state.plain) c.args.draft.now.effect in
    omega (arith, h, same, c.in_ok-lapse_peers.ensures.held))
