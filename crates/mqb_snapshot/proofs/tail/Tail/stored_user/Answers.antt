use Rattle.std.proofs.Common.{◌++◌, ap, subst, sym, ◌∙◌}
use Rattle.mqb_base.specs.declared.message.Message.{Message}
use Rattle.mqb_heads.specs.User.{FitsUser, plain_user}
use Rattle.mqb_queue.proofs.Changed.{on_ok}
use Rattle.mqb_snapshot.specs.declared.messages.TheConstants.{NOBODY}
use Rattle.mqb_snapshot.proofs.Sized.{header_fits}
use Rattle.mqb_snapshot.proofs.tail.Tail.stored_user.Goals as goal

pub user-requires : goal.user-requires
user-requires c = subst FitsUser (sym c.in_ok-header.ensures) (header_fits c.args.message.now c.requires)

pub returns-clause-added : goal.returns-clause-added
returns-clause-added c = on_ok c.user.result c.user.ensures.added
    (λ e. e ∙ ap (λ (h : Message). c.args.self.now.text ++ plain_user h NOBODY) c.in_ok-header.ensures)
