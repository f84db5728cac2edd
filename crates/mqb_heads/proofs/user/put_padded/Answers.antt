use Rattle.std.proofs.Common.{◌++◌}
use Rattle.mqb_heads.specs.User.{user_fields, user_names}
use Rattle.mqb_fields.specs.lemmas.Wrote.{◌>>◌, said}
use Rattle.mqb_heads.specs.lemmas.Put.{padding_is}
use Rattle.mqb_heads.proofs.user.put_padded.Goals as goal

pub returns : goal.returns
returns c =
    let front = c.put_fields-names.ensures >> c.put_names-end.ensures in
    front >> said _ (padding_is (user_fields c.args.message.now c.args.target.now ++ user_names c.args.message.now) c.padding.result c.put_names-end.result c.padding.ensures front.end) c.put_zeros.ensures
