use Rattle.std.proofs.Common.{arith}
use Rattle.mqb_script.specs.declared.grammar.Grammar.TheVariants.{Pair}
use Rattle.mqb_script.proofs.Whole as whole
use Rattle.mqb_script.proofs.made.made_scripts_are_scripts.Goals as goal

pub returns : goal.returns
returns c = whole.made (record { kept = c.lines_are_read_back.ensures.kept Pair; event = c.lines_are_read_back.ensures.event Pair (omega arith) })
