use Rattle.mqb_world.proofs.Beginnings.{held_new}
use Rattle.mqb_world.proofs.making.format.Goals as goal

pub returns-in-Ok-clause-held : goal.returns-in-Ok-clause-held
returns-in-Ok-clause-held g c = let made = c.in-Ok.ensures {u = tt} in
    held_new _ c.in-Ok.manager c.args.own.now c.requires.whole made.manager made.on made.up made.settled made.guid
