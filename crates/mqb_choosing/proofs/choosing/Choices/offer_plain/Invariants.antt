use Rattle.std.proofs.Common.{drop, map}
use Rattle.std.specs.Prelude.{IsSomeAnd, slice_get}
use Rattle.mqb_plain.specs.Lists.{messages_of}
use Rattle.mqb_plain.specs.Plain.{outgoing_in}
use Rattle.mqb_choosing.specs.Going.{unsent_in}
use Rattle.mqb_choosing.proofs.Left.{AreLeft}
use Rattle.mqb_choosing.proofs.Waiting.{plain_in}
use Rattle.mqb_choosing.proofs.choosing.Choices.offer_plain.Given as goal

abbrev pub invariant-loop-index : goal.invariant-loop-index
invariant-loop-index l = record {
  left : IsSomeAnd (slice_get l.contents.lists.plain l.peer) (λ p. AreLeft l.contents.lists l.initial.self l.self
      (map (plain_in l.lane) (drop l.index (messages_of (outgoing_in l.lane p)))) (unsent_in l.lane p));
}
