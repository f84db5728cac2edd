use Rattle.mqb_script.specs.declared.managers.Which.TheVariants.{Alpha, Beta}
use Rattle.mqb_turns.specs.mqb_seats.lemmas.Keeping.{lasts_stored}
use Rattle.mqb_world.proofs.Flowing.{sent_alpha, sent_beta, short_by}
use Rattle.mqb_world.specs.Sides.{world}
use Rattle.mqb_world.proofs.flows.send.Goals as goal

pub returns-in-Alpha-clause-sent : goal.returns-in-Alpha-clause-sent
returns-in-Alpha-clause-sent g c = sent_alpha c.args.which c.args.alpha.now c.args.beta.now c.send_out.new.own c.send_out.new.other c.args.traffic.now c.send_out.new.traffic _ _ _ _ _ _ _ c.args.now
    c.send_out.result c.in-Alpha.is c.send_out.ensures.sent

pub returns-in-Alpha-clause-short : goal.returns-in-Alpha-clause-short
returns-in-Alpha-clause-short g c = short_by c.args.which Alpha (world c.args.alpha.now c.args.beta.now c.args.traffic.now) _ _ c.args.now c.send_out.result c.in-Alpha.is c.send_out.ensures.short

pub returns-in-Beta-clause-sent : goal.returns-in-Beta-clause-sent
returns-in-Beta-clause-sent g c = sent_beta c.args.which c.args.alpha.now c.args.beta.now c.send_out-in-Beta.new.other c.send_out-in-Beta.new.own c.args.traffic.now c.send_out-in-Beta.new.traffic _ _ _ _ _ _ _ c.args.now
    c.send_out-in-Beta.result c.in-Beta.is c.send_out-in-Beta.ensures.sent

pub returns-in-Beta-clause-short : goal.returns-in-Beta-clause-short
returns-in-Beta-clause-short g c = short_by c.args.which Beta (world c.args.alpha.now c.args.beta.now c.args.traffic.now) _ _ c.args.now c.send_out-in-Beta.result c.in-Beta.is c.send_out-in-Beta.ensures.short

pub returns-in-Alpha-clause-beta : goal.returns-in-Alpha-clause-beta
returns-in-Alpha-clause-beta g c = lasts_stored c.requires.beta c.send_out.ensures.beside

pub returns-in-Beta-clause-alpha : goal.returns-in-Beta-clause-alpha
returns-in-Beta-clause-alpha g c = lasts_stored c.requires.alpha c.send_out-in-Beta.ensures.beside
