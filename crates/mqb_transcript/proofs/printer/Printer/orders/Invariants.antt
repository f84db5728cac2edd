use Rattle.std.proofs.Common.{◌≡◌}
use Rattle.std.specs.List.{flat_map, range_with_len}
use Rattle.mqb_transcript.specs.Printing.{wrote}
use Rattle.mqb_transcript.specs.Generator.{order_of}
use Rattle.mqb_transcript.proofs.printer.Printer.orders.Given as goal

abbrev pub invariant-loop-place : goal.invariant-loop-place
invariant-loop-place l = l.self ≡ wrote l.initial.self (flat_map (order_of l.n) (range_with_len l.first l.place))
