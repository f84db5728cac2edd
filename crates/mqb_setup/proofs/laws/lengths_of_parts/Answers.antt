use Rattle.std.proofs.Common.{arith}
use Rattle.mqb_setup.specs.lemmas.Parts.{length_filler}
use Rattle.mqb_setup.proofs.laws.lengths_of_parts.Goals as goal

pub returns-clause-establish : goal.returns-clause-establish
returns-clause-establish c = λ establish. omega (arith, length_filler)
