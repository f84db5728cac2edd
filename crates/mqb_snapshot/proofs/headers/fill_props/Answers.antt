use Rattle.std.proofs.Common.{sym, ◌∙◌}
use Rattle.mqb_fields.specs.lemmas.Again.{put_all}
use Rattle.mqb_heads.specs.Properties.{plain_props}
use Rattle.mqb_heads.specs.lemmas.Put.{props_sizes}
use Rattle.mqb_snapshot.proofs.headers.fill_props.Goals as goal

pub returns : goal.returns
returns c = c.put_props.ensures.put ∙ put_all c.args.to.now (plain_props c.args.message.now) (c.requires.room ∙ sym (props_sizes c.args.message.now))
