use Rattle.mqb_snapshot.proofs.Carried.{spellable}
use Rattle.mqb_snapshot.proofs.snapshot.spell.Goals as goal

pub contents-spelled-requires : goal.contents-spelled-requires
contents-spelled-requires c = spellable c.args.contents.now.lists c.requires
