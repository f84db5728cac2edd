use Rattle.std.proofs.Common.{inr}
use Rattle.mqb_world.proofs.Beginnings.{both_begin, err_still, none_to_keep}
use Rattle.mqb_world.proofs.world.World.new.Goals as goal

pub returns-in_err-alpha-clause-kept : goal.returns-in_err-alpha-clause-kept
returns-in_err-alpha-clause-kept g c = none_to_keep _ _ _ _ (g.met.P.Power.tells c.args.first.now) (g.met.P.Power.tells c.args.second.now) c.in_ok-find_empty.ensures.empty c.in_ok-find_empty-2.ensures.empty

pub returns-in-Ok-clause-kept : goal.returns-in-Ok-clause-kept
returns-in-Ok-clause-kept g c = none_to_keep _ _ _ _ (g.met.P.Power.tells c.args.first.now) (g.met.P.Power.tells c.args.second.now) c.in_ok-find_empty.ensures.empty c.in_ok-find_empty-2.ensures.empty

pub returns-clause-not_empty : goal.returns-clause-not_empty
returns-clause-not_empty g c = λ is. inr (λ bytes told. c.in-Err.ensures.not_empty (err_still _ _ is) bytes (c.in_ok-find_empty-2.ensures.reads.unchanged.reads.none_lost bytes told))

pub returns-clause-kept : goal.returns-clause-kept
returns-clause-kept g c = none_to_keep _ _ _ _ (g.met.P.Power.tells c.args.first.now) (g.met.P.Power.tells c.args.second.now) c.in_ok-find_empty.ensures.empty c.in_ok-find_empty-2.ensures.empty

pub returns-in-Ok-clause-stands : goal.returns-in-Ok-clause-stands
returns-in-Ok-clause-stands g c = both_begin c.in_ok-alpha.alpha c.in-Ok.beta c.new.result c.in_ok-own.own c.in_ok-other.other c.in_ok-own.ensures c.in_ok-other.ensures
    c.in_ok-alpha.ensures.manager c.in-Ok.ensures.manager c.new.ensures c.in_ok-alpha.ensures.count c.in-Ok.ensures.count
