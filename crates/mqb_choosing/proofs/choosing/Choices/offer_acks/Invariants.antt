use Rattle.std.proofs.Common.{drop}
use Rattle.std.specs.List.{enumerate_from}
use Rattle.std.specs.Prelude.{filter_map, zip}
use Rattle.mqb_model.specs.calls.pump.Candidates.{acks, owed_to}
use Rattle.mqb_choosing.specs.Going.{owing}
use Rattle.mqb_choosing.proofs.Left.{AreLeft}
use Rattle.mqb_choosing.proofs.choosing.Choices.offer_acks.Given as goal

abbrev pub invariant-loop-k : goal.invariant-loop-k
invariant-loop-k l = record {
  left : AreLeft l.contents.lists l.initial.self l.self
      (acks l.contents.lists l.peer l.now l.number (filter_map (owed_to l.peer.guid) (enumerate_from l.k (drop l.k (zip l.contents.lists.ins l.owes)))))
      (acks l.contents.lists l.peer l.now l.contents.lists.next_express (owing l.contents.lists l.owes l.peer.guid));
}
