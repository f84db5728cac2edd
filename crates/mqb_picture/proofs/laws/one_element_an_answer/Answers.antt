use Rattle.mqb_picture.proofs.Counted.{drawn_counted}
use Rattle.mqb_picture.proofs.laws.one_element_an_answer.Goals as goal

pub returns : goal.returns
returns c = drawn_counted
