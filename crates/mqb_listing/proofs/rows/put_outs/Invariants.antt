use Rattle.std.proofs.Common.{◌≡◌, take}
use Rattle.std.specs.List.{flat_map}
use Rattle.mqb_orders.specs.Rows.{row_of}
use Rattle.mqb_listing.specs.Lines.{out_line}
use Rattle.mqb_transcript.specs.Printing.{wrote}
use Rattle.mqb_listing.proofs.rows.put_outs.Given as goal

abbrev pub invariant-loop-row : goal.invariant-loop-row
invariant-loop-row l = l.printer ≡ wrote l.initial.printer (flat_map (λ r. out_line l.host (row_of r)) (take l.row-index l.rows))
