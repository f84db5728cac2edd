use Rattle.mqb_worker.proofs.Courses.{each_taken_is_answered}
use Rattle.mqb_worker.proofs.laws.each_taken_is_answered.Goals as goal

pub returns : goal.returns
returns c = each_taken_is_answered
