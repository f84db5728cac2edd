use Rattle.std.proofs.Common.{refl}
use Rattle.mqb_law_meetings.proofs.stamps_must_fit.Goals as goal

pub returns : goal.returns
returns g = record {
  counted = refl;
  run = (refl, (refl, (refl, (refl, (refl, (refl, (refl, (refl, (refl, (refl, (refl, (refl, (refl, (refl, (refl, (refl, (refl, (refl, (refl, (refl, (refl, (refl, (refl, tt)))))))))))))))))))))));
  waits = refl;
  queue = refl;
}
