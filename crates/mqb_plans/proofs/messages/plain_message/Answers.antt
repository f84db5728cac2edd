use Rattle.std.proofs.Common.{arith}
use Rattle.mqb_rules.proofs.Drafted.{well_formed}
use Rattle.mqb_plans.proofs.messages.plain_message.Goals as goal

pub returns-clause-well_formed : goal.returns-clause-well_formed
returns-clause-well_formed c = well_formed _ c.delivery_of.result c.args.parts.now.priority c.args.now c.args.parts.now c.in_ok-message.message c.in_ok-message.ensures (omega arith) c.requires
