use Rattle.std.proofs.Common.{◌+◌, ◌≡◌, length}
use Rattle.mqb_capture.specs.Events.{Watch}
use Rattle.mqb_capture.specs.Grammar.{Head}
use Rattle.mqb_inspect.specs.Standing.{IsWanting, Stands}
use Rattle.mqb_inspect.proofs.Going.{StandsWithin}
use Rattle.mqb_inspect.proofs.standing.Inspection.take_piece.Given as goal

-- what the bytes so far come to, and those that are left
abbrev pub invariant-loop-rest : goal.invariant-loop-rest
invariant-loop-rest l = record {
  goes : (h : Head) (w : Watch) → Stands h w l.fn.self → StandsWithin h w l.way l.bytes l.rest l.self;
  wants : IsWanting l.self;
  seen : l.self.seen + length l.rest ≡ l.fn.self.seen + length l.bytes;
}

abbrev pub decreases-loop-rest : goal.decreases-loop-rest
decreases-loop-rest l = length l.rest
