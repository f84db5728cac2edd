use Rattle.std.proofs.Common.{refl}
use Rattle.mqb_law_meetings.proofs.some_are_brought_over.Goals as goal

pub returns : goal.returns
returns g = record {
  offer_kept = record {
    counted = refl;
    run = (refl, (refl, (refl, (refl, (refl, (refl, (refl, (refl, (refl, (refl, (refl, (refl, (refl, (refl, (refl, (refl, (refl, (refl, (refl, (refl, (refl, (refl, (refl, tt)))))))))))))))))))))));
    drained = record { first_up = refl; second_up = refl; first = refl; second = refl };
    queue = refl;
    marks = refl;
  };
  offer_lost = record {
    counted = refl;
    run = (refl, (refl, (refl, (refl, (refl, (refl, (refl, (refl, (refl, (refl, (refl, (refl, (refl, (refl, (refl, (refl, (refl, (refl, (refl, (refl, (refl, (refl, (refl, tt)))))))))))))))))))))));
    drained = record { first_up = refl; second_up = refl; first = refl; second = refl };
    queue = refl;
    marks = refl;
  };
  commit_kept = record {
    counted = refl;
    run = (refl, (refl, (refl, (refl, (refl, (refl, (refl, (refl, (refl, (refl, (refl, (refl, (refl, (refl, (refl, (refl, (refl, (refl, (refl, (refl, (refl, (refl, (refl, tt)))))))))))))))))))))));
    drained = record { first_up = refl; second_up = refl; first = refl; second = refl };
    queue = refl;
    marks = refl;
  };
  commit_lost = record {
    counted = refl;
    run = (refl, (refl, tt));
    drained = record { first_up = refl; second_up = refl; first = refl; second = refl };
    queue = refl;
    marks = refl;
  };
  arrival_kept = record {
    counted = refl;
    run = (refl, (refl, (refl, (refl, (refl, (refl, (refl, (refl, (refl, (refl, (refl, (refl, (refl, (refl, (refl, (refl, (refl, (refl, (refl, (refl, (refl, (refl, (refl, tt)))))))))))))))))))))));
    drained = record { first_up = refl; second_up = refl; first = refl; second = refl };
    queue = refl;
    marks = refl;
  };
  arrival_lost = record {
    counted = refl;
    run = (refl, (refl, (refl, (refl, (refl, (refl, (refl, (refl, (refl, (refl, (refl, (refl, (refl, (refl, (refl, (refl, (refl, (refl, (refl, (refl, (refl, (refl, (refl, tt)))))))))))))))))))))));
    drained = record { first_up = refl; second_up = refl; first = refl; second = refl };
    queue = refl;
    marks = refl;
  };
}
