use Rattle.std.proofs.Common.{◌≡◌, ap, arith}
use Rattle.mqb_turns.specs.mqb_seats.lemmas.Keeping.{lasts_then}
use Rattle.mqb_world.proofs.Flowing.{flows_first, flows_last, flows_next, never_missing}
use Rattle.mqb_world.specs.Sides.{world}
use Rattle.mqb_world.proofs.flows.deliver_all.Goals as goal

pub loop-i-init : goal.loop-i-init
loop-i-init g c = flows_first (world c.args.alpha.now c.args.beta.now c.args.traffic.now) _ _ _ _ _ c.args.now c.args.before c.new-arrivals.result
    c.requires.alpha c.requires.beta c.new-arrivals.ensures

pub unreachable-requires : goal.unreachable-requires
unreachable-requires g c = let ok = c.in_ok-outcome.ensures {u = tt} in
    never_missing (world c.args.alpha.now c.args.beta.now c.args.traffic.now) (world c.loop-i.alpha c.loop-i.beta c.loop-i.traffic)
    (world c.deliver.new.alpha c.deliver.new.beta c.deliver.new.traffic) c.requires.packets.packets c.args.before c.loop-i.i c.args.now c.args.count c.in_ok-outcome.field-0
    c.loop-i.invariant.notes c.requires.last (omega arith) c.in_default.is (ok.delivered c.requires.packets.packets c.requires.packets.writable c.requires.packets.are)

pub loop-i-preserved : goal.loop-i-preserved
loop-i-preserved g c = let ok = c.in_ok-outcome.ensures {u = tt} in let pushed = c.in_ok-push.ensures {u = tt} in
    flows_next (world c.args.alpha.now c.args.beta.now c.args.traffic.now) (world c.loop-i.alpha c.loop-i.beta c.loop-i.traffic)
    (world c.deliver.new.alpha c.deliver.new.beta c.deliver.new.traffic) _ _ _ _ _ _ _ _ _ _ _ c.args.now c.args.before c.loop-i.i c.loop-i.arrivals c.push.new.self
    c.in-Some.outcome c.in_ok-outcome.field-0 c.in-Some.is pushed.ok c.loop-i.invariant c.requires.packets ok.delivered ok.alpha ok.beta ok.alpha_faults ok.beta_faults
    (λ none. ap g.P.Power.is_stopped (ok.alpha_idle none)) (λ none. ap g.P.Power.is_stopped (ok.beta_idle none)) ok.alpha_switch ok.beta_switch

pub returns-clause-flows : goal.returns-clause-flows
returns-clause-flows g c = let done : c.loop-i.i ≡ c.args.count = omega arith in
    flows_last (world c.args.alpha.now c.args.beta.now c.args.traffic.now) (world c.loop-i.alpha c.loop-i.beta c.loop-i.traffic) _ _ _ _ _ _ _ c.args.now c.args.before
    c.loop-i.i c.args.count c.loop-i.arrivals c.loop-i.invariant done

pub returns-in_err-outcome-clause-alpha : goal.returns-in_err-outcome-clause-alpha
returns-in_err-outcome-clause-alpha g c = lasts_then c.loop-i.invariant.alpha c.deliver.ensures.alpha

pub returns-in_err-outcome-clause-beta : goal.returns-in_err-outcome-clause-beta
returns-in_err-outcome-clause-beta g c = lasts_then c.loop-i.invariant.beta c.deliver.ensures.beta

pub returns-in_err-push-clause-alpha : goal.returns-in_err-push-clause-alpha
returns-in_err-push-clause-alpha g c = lasts_then c.loop-i.invariant.alpha c.deliver.ensures.alpha

pub returns-in_err-push-clause-beta : goal.returns-in_err-push-clause-beta
returns-in_err-push-clause-beta g c = lasts_then c.loop-i.invariant.beta c.deliver.ensures.beta

pub deliver-requires-clause-alpha : goal.deliver-requires-clause-alpha
deliver-requires-clause-alpha g c = c.loop-i.invariant.alpha.held

pub deliver-requires-clause-beta : goal.deliver-requires-clause-beta
deliver-requires-clause-beta g c = c.loop-i.invariant.beta.held
