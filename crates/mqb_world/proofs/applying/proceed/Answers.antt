use Rattle.std.proofs.Common.{◌∙◌, ap}
use Rattle.mqb_script.specs.Managers.{which_at}
use Rattle.mqb_world.proofs.Proceeding.{connect_happens, connect_is, connect_short, connect_so, flow_happens, flow_is, flow_short, flow_so, is_of}
use Rattle.mqb_world.specs.Sides.{world}
use Rattle.mqb_world.proofs.applying.proceed.Goals as goal

pub returns-in-Connect-clause-short : goal.returns-in-Connect-clause-short
returns-in-Connect-clause-short g c = connect_short (world c.args.alpha.now c.args.beta.now c.args.traffic.now) (world c.connect.new.alpha c.connect.new.beta c.connect.new.traffic) _ _
    (g.P.Disk.view c.args.first.now) (g.P.Disk.view c.connect.new.first) (g.P.Disk.view c.args.second.now) (g.P.Disk.view c.connect.new.second)
    (g.P.Power.is_stopped c.connect.new.first) (g.P.Power.is_stopped c.connect.new.second)
    c.args.event.now c.at.result c.in-Connect.now c.in-Connect.initiator_window c.in-Connect.acceptor_window
    (connect_is c.at.result c.in-Connect.initiator c.in-Connect.acceptor c.in-Connect.now c.in-Connect.initiator_window c.in-Connect.acceptor_window c.args.event.now c.in-Connect.is c.at.ensures c.requires.formed)
    c.connect.result c.connect.ensures.short

pub returns-in-Flow-clause-happens : goal.returns-in-Flow-clause-happens
returns-in-Flow-clause-happens g c = let w = world c.args.alpha.now c.args.beta.now c.args.traffic.now in let w_now = world c.flow.new.alpha c.flow.new.beta c.flow.new.traffic in
    flow_so w w_now _ _ _ _ _ _ _ _ c.args.event.now c.at-which.result c.in-Flow.now
    (flow_is c.at-which.result c.in-Flow.manager c.in-Flow.now c.args.event.now c.in-Flow.is c.at-which.ensures c.requires.formed) c.flow.result
    (flow_happens w w_now _ _ _ _ _ _ _ _ c.at-which.result c.in-Flow.now c.flow.result c.flow.ensures.step c.flow.ensures.alpha.held c.flow.ensures.beta.held c.flow.ensures.alpha_faults c.flow.ensures.beta_faults)

pub returns-in-Flow-clause-short : goal.returns-in-Flow-clause-short
returns-in-Flow-clause-short g c = flow_short (world c.args.alpha.now c.args.beta.now c.args.traffic.now) (world c.flow.new.alpha c.flow.new.beta c.flow.new.traffic) _ _
    (g.P.Disk.view c.args.first.now) (g.P.Disk.view c.flow.new.first) (g.P.Disk.view c.args.second.now) (g.P.Disk.view c.flow.new.second)
    (g.P.Power.is_stopped c.flow.new.first) (g.P.Power.is_stopped c.flow.new.second)
    c.args.event.now c.at-which.result c.in-Flow.now
    (flow_is c.at-which.result c.in-Flow.manager c.in-Flow.now c.args.event.now c.in-Flow.is c.at-which.ensures c.requires.formed) c.flow.result c.flow.ensures.short

pub returns-in-Connect-clause-happens : goal.returns-in-Connect-clause-happens
returns-in-Connect-clause-happens g c = let w = world c.args.alpha.now c.args.beta.now c.args.traffic.now in let w_now = world c.connect.new.alpha c.connect.new.beta c.connect.new.traffic in
    connect_so w w_now _ _ _ _ _ _ _ _ c.args.event.now c.at.result c.in-Connect.now c.in-Connect.initiator_window c.in-Connect.acceptor_window
    (connect_is c.at.result c.in-Connect.initiator c.in-Connect.acceptor c.in-Connect.now c.in-Connect.initiator_window c.in-Connect.acceptor_window c.args.event.now c.in-Connect.is c.at.ensures c.requires.formed)
    c.connect.result
    (connect_happens w w_now _ _ _ _ _ _ _ _ c.at.result c.in-Connect.now c.in-Connect.initiator_window c.in-Connect.acceptor_window c.connect.result c.connect.ensures.step
    c.connect.ensures.alpha.held c.connect.ensures.beta.held c.connect.ensures.alpha_faults c.connect.ensures.beta_faults)

pub act_alone-requires-clause-acts : goal.act_alone-requires-clause-acts
act_alone-requires-clause-acts g c = is_of c.at-in_default.result c.args.event.now (c.at-in_default.ensures ∙ ap which_at c.actor.ensures) c.requires.formed
    c.in_default.not-Connect c.in_default.not-Deliver c.in_default.not-Flow
