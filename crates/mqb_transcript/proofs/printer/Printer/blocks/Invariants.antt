use Rattle.std.proofs.Common.{◌≡◌}
use Rattle.std.specs.List.{flat_map, range_with_len}
use Rattle.mqb_transcript.specs.Printing.{wrote}
use Rattle.mqb_transcript.specs.Generator.{block_text}
use Rattle.mqb_transcript.proofs.printer.Printer.blocks.Given as goal

abbrev pub invariant-loop-index : goal.invariant-loop-index
invariant-loop-index l = l.self ≡ wrote l.initial.self (flat_map (block_text l.n) (range_with_len 1 l.index))
