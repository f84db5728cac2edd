use Rattle.std.proofs.Common.{◌≡◌, take}
use Rattle.mqb_listing.specs.Lines.{ids_text}
use Rattle.mqb_transcript.specs.Printing.{wrote}
use Rattle.mqb_listing.proofs.places.put_ids.Given as goal

abbrev pub invariant-loop-index : goal.invariant-loop-index
invariant-loop-index l = l.printer ≡ wrote l.initial.printer (ids_text l.initial.printer.hosts (take l.index l.messages))
