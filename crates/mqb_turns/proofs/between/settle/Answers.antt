use Rattle.mqb_script.specs.declared.managers.Which.TheVariants.{Alpha}
use Rattle.mqb_turns.proofs.between.settle.Goals as goal

pub returns-in-Broke-clause-own : goal.returns-in-Broke-clause-own
returns-in-Broke-clause-own c = (c.part.ensures Alpha).own

pub returns-in-Broke-clause-beside : goal.returns-in-Broke-clause-beside
returns-in-Broke-clause-beside c = (c.part.ensures Alpha).beside
