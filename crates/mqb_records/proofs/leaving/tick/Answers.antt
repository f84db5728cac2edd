use Rattle.mqb_base.specs.declared.message.Lane.TheVariants as lane
use Rattle.mqb_contents.proofs.Grown.{grown_trans}
use Rattle.mqb_records.proofs.Recording.{tick_few}
use Rattle.mqb_records.proofs.leaving.tick.Goals as goal

pub returns-in_err-lane_ticked-clause-grown : goal.returns-in_err-lane_ticked-clause-grown
returns-in_err-lane_ticked-clause-grown c = grown_trans c.rows_expired.ensures.grown c.lane_ticked.ensures.grown

pub returns-clause-grown : goal.returns-clause-grown
returns-clause-grown c = grown_trans c.rows_expired.ensures.grown c.lane_ticked.ensures.grown

pub returns-clause-few : goal.returns-clause-few
returns-clause-few c = tick_few _ _ _ _ _ _ c.in_ok-rows_expired.ensures.held (c.in_ok-rows_expired.ensures.due lane.Durable) c.in_ok-lane_ticked.ensures.held
