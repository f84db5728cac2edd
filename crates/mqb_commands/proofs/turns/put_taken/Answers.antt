use Rattle.std.proofs.Common.{sym}
use Rattle.mqb_base.specs.declared.message.Lane.TheVariants as lane
use Rattle.mqb_commands.proofs.Putting.{none_held}
use Rattle.mqb_commands.proofs.turns.put_taken.Goals as goal

pub returns-in_default : goal.returns-in_default
returns-in_default c =
    none_held c.args.at c.args.count c.args.now c.args.queues.now.lists lane.Durable c.args.printer.now (sym c.in_default.ensures.messages)
