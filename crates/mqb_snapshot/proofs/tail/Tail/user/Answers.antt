use Rattle.std.proofs.Common.{rules, ◌≤◌, ◌++◌, length, ap, ◌∙◌}
use Rattle.mqb_heads.specs.User.{plain_user}
use Rattle.mqb_snapshot.specs.Tails.{Added}
use Rattle.mqb_snapshot.specs.declared.messages.TheConstants.{NOBODY}
use Rattle.mqb_snapshot.proofs.Ends.{text_grows}
use Rattle.mqb_snapshot.proofs.tail.Tail.user.Goals as goal

pub returns-clause-added : goal.returns-clause-added
returns-clause-added c =
    let within : c.self.inside.start ≤ length c.self.inside.bytes.items = search rules in
    text_grows c.self.inside.start c.self.inside.bytes.items c.add_user.new.out.items (plain_user c.args.message.now NOBODY) within c.in_ok-add_user.ensures.put
    ∙ ap (λ (a : Added). a.text ++ plain_user c.args.message.now NOBODY) c.self.view_is
