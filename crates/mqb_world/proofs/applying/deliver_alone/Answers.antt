use Rattle.mqb_world.proofs.Proceeding.{some_happens}
use Rattle.mqb_world.specs.Sides.{world}
use Rattle.mqb_world.proofs.applying.deliver_alone.Goals as goal

pub returns-in-Some-clause-happens : goal.returns-in-Some-clause-happens
returns-in-Some-clause-happens g c = let was = c.in_ok-deliver.ensures {u = tt} in
    some_happens (world c.args.alpha.now c.args.beta.now c.args.traffic.now) (world c.deliver.new.alpha c.deliver.new.beta c.deliver.new.traffic)
    (g.M.Medium.strings c.args.medium.now) (g.M.Medium.strings c.args.medium.now) _ _ _ _ _ _ c.requires.ordered.within
    c.args.k c.args.now c.in_ok-deliver.field-0 c.in-Some.outcome c.in-Some.is c.outcome_reply.result c.outcome_reply.ensures was.delivered was.alpha.held was.beta.held was.alpha_faults was.beta_faults
