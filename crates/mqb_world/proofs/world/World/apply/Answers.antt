use Rattle.std.proofs.Common.{subst}
use Rattle.mqb_turns.specs.mqb_seats.Lasting.{Lasts}
use Rattle.mqb_world.proofs.Answering.{err_applied, ok_applied, ordered_so}
use Rattle.mqb_world.specs.Sides.{world}
use Rattle.mqb_world.specs.Worlds.{WorldState}
use Rattle.mqb_world.proofs.world.World.apply.Goals.{in-Err, in-Ok}
use Rattle.mqb_world.proofs.world.World.apply.Goals as goal

pub proceed-proceeded-requires-clause-ordered : goal.proceed-proceeded-requires-clause-ordered
proceed-proceeded-requires-clause-ordered g c = ordered_so (world c.self.inside.alpha c.self.inside.beta c.self.inside.traffic) c.args.self.now c.self.view_is (g.M.Medium.strings c.args.medium.now)
    c.runs_have_histories.ensures c.histories_are_orderly.ensures c.requires.stands

pub returns-clause-applied : goal.returns-clause-applied
returns-clause-applied g c = let w = world c.self.inside.alpha c.self.inside.beta c.self.inside.traffic in
    let w_now = world c.proceed-proceeded.new.alpha c.proceed-proceeded.new.beta c.proceed-proceeded.new.traffic in
    elim c.match-proceeded.branch [
      | in-Ok x ↦ ok_applied w c.args.self.now c.self.view_is (g.M.Medium.strings c.args.medium.now) w_now (g.M.Medium.strings c.proceed-proceeded.new.medium) c.args.event.now _ _ _ _ _ _
          c.proceed-proceeded.result c.match-proceeded.result c.runs_have_histories.ensures c.histories_are_orderly.ensures x.in-Ok.reply x.in-Ok.is x.result-is c.proceed-proceeded.ensures.happens
      | in-Err x ↦ err_applied w c.args.self.now c.self.view_is (g.M.Medium.strings c.args.medium.now) w_now (g.M.Medium.strings c.proceed-proceeded.new.medium) c.args.event.now
          (g.P.Disk.view c.args.first.now) (g.P.Disk.view c.args.first.now) (g.P.Disk.view c.args.first.now) (g.P.Disk.view c.args.first.now) (g.P.Power.is_stopped c.args.first.now) (g.P.Power.is_stopped c.args.first.now)
          c.proceed-proceeded.result c.match-proceeded.result c.runs_have_histories.ensures c.histories_are_orderly.ensures x.in-Err.fault x.from.result x.in-Err.is x.from.ensures x.result-is c.proceed-proceeded.ensures.short
    ]

pub returns-clause-alpha : goal.returns-clause-alpha
returns-clause-alpha g c = subst (λ (w : WorldState). Lasts (g.P.Disk.view c.args.first.now) (g.P.Disk.view c.proceed-proceeded.new.first) w.alpha c.proceed-proceeded.new.alpha)
    c.self.view_is c.proceed-proceeded.ensures.alpha

pub returns-clause-beta : goal.returns-clause-beta
returns-clause-beta g c = subst (λ (w : WorldState). Lasts (g.P.Disk.view c.args.second.now) (g.P.Disk.view c.proceed-proceeded.new.second) w.beta c.proceed-proceeded.new.beta)
    c.self.view_is c.proceed-proceeded.ensures.beta

pub returns-clause-streams : goal.returns-clause-streams
returns-clause-streams g c = λ ms stands. c.runs_show_streams.ensures ms stands.run
