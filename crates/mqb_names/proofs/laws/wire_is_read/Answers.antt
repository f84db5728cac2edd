use Rattle.mqb_names.specs.lemmas.WireAgain.{spelled_again, wire_again}
use Rattle.mqb_names.proofs.laws.wire_is_read.Goals as goal

pub returns : goal.returns
returns c = record {
  used = λ name rest valid queue. wire_again name rest valid queue;
  name = λ name valid queue. spelled_again name valid queue;
}
