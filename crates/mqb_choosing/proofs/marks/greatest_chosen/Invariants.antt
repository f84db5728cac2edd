use Rattle.std.proofs.Common.{◌≡◌, drop, filter_map, fold, max}
use Rattle.mqb_model.specs.calls.pump.Pump.{number_of_row}
use Rattle.mqb_choosing.specs.Choices.{origin_of}
use Rattle.mqb_choosing.specs.Marks.{greatest_chosen}
use Rattle.mqb_choosing.proofs.marks.greatest_chosen.Given as goal

abbrev pub invariant-loop-choice : goal.invariant-loop-choice
invariant-loop-choice l = record {
  left : fold max l.greatest (filter_map (λ c. number_of_row l.row (origin_of c.origin)) (drop l.choice-index l.choices)) ≡ greatest_chosen l.choices l.row;
}
