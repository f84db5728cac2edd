use Rattle.std.proofs.Common.{ℕ}
use Rattle.std.proofs.lemmas.Result.{IfOk-weaker}
use Rattle.mqb_commands.proofs.Putting.{puts_then}
use Rattle.mqb_commands.proofs.turns.Taking.put_lists.Goals as goal

pub returns : goal.returns
returns c = IfOk-weaker c.put_each-2.result _ _
    (λ (left : ℕ) second. puts_then c.args.self.at c.args.self.now c.args.priority c.args.count c.in_ok-more.more left c.args.durable.now c.args.express.now
    c.args.printer.now c.put_each.new.printer c.put_each-2.new.printer c.in_ok-more.ensures second) c.put_each-2.ensures
