use Rattle.std.proofs.Common.{◌≡◌, take}
use Rattle.mqb_transcript.specs.Printing.{wrote}
use Rattle.mqb_transcript.specs.Texts.{arrivals_text}
use Rattle.mqb_transcript.proofs.printer.Printer.arrivals.Given as goal

abbrev pub invariant-loop-arrival : goal.invariant-loop-arrival
invariant-loop-arrival l = l.self ≡ wrote l.initial.self (arrivals_text l.initial.self.hosts (take l.arrival-index l.arrivals))
