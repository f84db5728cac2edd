use Rattle.std.proofs.Common.{◌≤◌, drop, map}
use Rattle.std.specs.Prelude.{IsSomeAnd, slice_get}
use Rattle.mqb_model.specs.calls.pump.Candidates.{of_row}
use Rattle.mqb_choosing.proofs.Left.{AreLeft}
use Rattle.mqb_choosing.proofs.choosing.Choices.offer_kept.Given as goal

abbrev pub invariant-loop-index : goal.invariant-loop-index
invariant-loop-index l = record {
  from : l.fn.from ≤ l.index;
  left : IsSomeAnd (slice_get l.contents.lists.outs l.row) (λ r. AreLeft l.contents.lists l.initial.self l.self
      (map (of_row l.row r) (drop l.index r.kept)) (map (of_row l.row r) (drop l.fn.from r.kept)));
}
