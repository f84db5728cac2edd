use Rattle.std.proofs.Common.{◌≡◌, take}
use Rattle.std.specs.List.{flat_map}
use Rattle.mqb_listing.specs.Lines.{queue_lines}
use Rattle.mqb_transcript.specs.Printing.{wrote}
use Rattle.mqb_listing.proofs.places.put_queues.Given as goal

abbrev pub invariant-loop-k : goal.invariant-loop-k
invariant-loop-k l =
    l.printer ≡ wrote l.initial.printer (flat_map (queue_lines l.initial.printer.hosts l.host) (take l.k l.queues.lists.queues))
