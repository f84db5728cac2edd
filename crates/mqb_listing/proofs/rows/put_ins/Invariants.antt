use Rattle.std.proofs.Common.{◌≡◌, take}
use Rattle.std.specs.List.{flat_map}
use Rattle.mqb_listing.specs.Lines.{in_line}
use Rattle.mqb_transcript.specs.Printing.{wrote}
use Rattle.mqb_listing.proofs.rows.put_ins.Given as goal

abbrev pub invariant-loop-row : goal.invariant-loop-row
invariant-loop-row l = l.printer ≡ wrote l.initial.printer (flat_map (in_line l.initial.printer.hosts l.host) (take l.row-index l.rows))
