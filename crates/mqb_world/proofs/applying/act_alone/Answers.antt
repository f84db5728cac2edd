use Rattle.std.proofs.Common.{subst}
use Rattle.mqb_script.specs.declared.managers.Which.TheVariants.{Alpha, Beta}
use Rattle.mqb_turns.specs.mqb_seats.lemmas.Keeping.{lasts_stored}
use Rattle.mqb_world.proofs.Actions.{if_ok}
use Rattle.mqb_world.proofs.Happening.{alpha_happens, beta_happens, left_stays, switch_stays}
use Rattle.mqb_world.specs.Acting.{IsOf}
use Rattle.mqb_world.proofs.applying.act_alone.Goals as goal

pub returns-in-Alpha-clause-happens : goal.returns-in-Alpha-clause-happens
returns-in-Alpha-clause-happens g c = let of = subst (λ which. IsOf which c.args.event.now) c.in-Alpha.is c.requires.acts in
    if_ok c.act.result (λ given x. alpha_happens c.args.alpha.now c.args.beta.now c.act.new.own c.act.new.other c.args.traffic.now c.act.new.traffic c.args.event.now _ _ given of _ _ _ _ _
    c.requires.beta x) c.act.ensures.acted

pub returns-in-Alpha-clause-beta_switch : goal.returns-in-Alpha-clause-beta_switch
returns-in-Alpha-clause-beta_switch g c = switch_stays Alpha c.args.event.now (subst (λ which. IsOf which c.args.event.now) c.in-Alpha.is c.requires.acts) _ _

pub returns-in-Alpha-clause-beta_left : goal.returns-in-Alpha-clause-beta_left
returns-in-Alpha-clause-beta_left g c = left_stays Alpha c.args.event.now (subst (λ which. IsOf which c.args.event.now) c.in-Alpha.is c.requires.acts) _

pub returns-in-Beta-clause-happens : goal.returns-in-Beta-clause-happens
returns-in-Beta-clause-happens g c = let of = subst (λ which. IsOf which c.args.event.now) c.in-Beta.is c.requires.acts in
    if_ok c.act-in-Beta.result (λ given x. beta_happens c.args.alpha.now c.args.beta.now c.act-in-Beta.new.other c.act-in-Beta.new.own c.args.traffic.now c.act-in-Beta.new.traffic c.args.event.now _ _ given
    of _ _ _ _ _ c.requires.alpha x) c.act-in-Beta.ensures.acted

pub returns-in-Beta-clause-alpha_switch : goal.returns-in-Beta-clause-alpha_switch
returns-in-Beta-clause-alpha_switch g c = switch_stays Beta c.args.event.now (subst (λ which. IsOf which c.args.event.now) c.in-Beta.is c.requires.acts) _ _

pub returns-in-Beta-clause-alpha_left : goal.returns-in-Beta-clause-alpha_left
returns-in-Beta-clause-alpha_left g c = left_stays Beta c.args.event.now (subst (λ which. IsOf which c.args.event.now) c.in-Beta.is c.requires.acts) _

pub returns-in-Alpha-clause-beta : goal.returns-in-Alpha-clause-beta
returns-in-Alpha-clause-beta g c = lasts_stored c.requires.beta c.act.ensures.beside

pub returns-in-Beta-clause-alpha : goal.returns-in-Beta-clause-alpha
returns-in-Beta-clause-alpha g c = lasts_stored c.requires.alpha c.act-in-Beta.ensures.beside
