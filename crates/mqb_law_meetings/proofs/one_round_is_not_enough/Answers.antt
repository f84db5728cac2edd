use Rattle.std.proofs.Common.{refl}
use Rattle.mqb_law_meetings.proofs.one_round_is_not_enough.Goals as goal

pub returns : goal.returns
returns g = record {
  run = (refl, (refl, (refl, tt)));
  counted = refl;
  waits = refl;
  drained = refl;
  told = refl;
}
