use Rattle.std.proofs.Common.{drop}
use Rattle.std.specs.List.{enumerate_from, flat_map}
use Rattle.std.specs.Prelude.{zip}
use Rattle.mqb_model.specs.calls.pump.Candidates.{waiting}
use Rattle.mqb_choosing.specs.Going.{waiting_in}
use Rattle.mqb_choosing.proofs.Left.{AreLeft}
use Rattle.mqb_choosing.proofs.choosing.Choices.offer_rows.Given as goal

abbrev pub invariant-loop-row : goal.invariant-loop-row
invariant-loop-row l = record {
  left : AreLeft l.contents.lists l.initial.self l.self
      (flat_map (waiting l.contents.lists l.peer) (enumerate_from l.row (drop l.row (zip l.contents.lists.outs l.cursors))))
      (waiting_in l.contents.lists l.cursors l.peer);
}
