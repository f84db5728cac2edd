use Rattle.std.proofs.Common.{sym, ◌∙◌}
use Rattle.mqb_fields.specs.lemmas.Again.{put_all}
use Rattle.mqb_heads.specs.User.{plain_user}
use Rattle.mqb_heads.specs.lemmas.Put.{user_sizes}
use Rattle.mqb_snapshot.specs.declared.messages.TheConstants.{NOBODY}
use Rattle.mqb_snapshot.proofs.headers.fill_user.Goals as goal

pub returns : goal.returns
returns c =
    c.put_user.ensures.put ∙ put_all c.args.to.now (plain_user c.args.message.now NOBODY) (c.requires.room ∙ sym (user_sizes c.args.message.now NOBODY))
