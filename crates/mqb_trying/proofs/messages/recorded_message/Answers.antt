use Rattle.std.proofs.Common.{arith}
use Rattle.mqb_base.specs.declared.message.Delivery.TheVariants.{Recoverable}
use Rattle.mqb_rules.proofs.Drafted.{well_formed}
use Rattle.mqb_trying.proofs.messages.recorded_message.Goals as goal

pub returns-clause-well_formed : goal.returns-clause-well_formed
returns-clause-well_formed c = well_formed c.args.id Recoverable 0 c.args.now c.args.parts.now c.in_ok-message.message c.in_ok-message.ensures (omega arith) c.requires
