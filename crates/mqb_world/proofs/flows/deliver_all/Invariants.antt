use Rattle.mqb_world.specs.Flowing.{Flows}
use Rattle.mqb_world.specs.Sides.{world}
use Rattle.mqb_world.proofs.flows.deliver_all.Given as goal

abbrev pub invariant-loop-i : goal.invariant-loop-i
invariant-loop-i g l = Flows (world l.initial.alpha l.initial.beta l.initial.traffic) (world l.alpha l.beta l.traffic) (g.P.Disk.view l.initial.first) (g.P.Disk.view l.first)
    (g.P.Disk.view l.initial.second) (g.P.Disk.view l.second) (g.P.Power.is_stopped l.first) (g.P.Power.is_stopped l.second) (g.M.Medium.strings l.medium) l.now l.before l.i l.arrivals
